use Prim.Native.Nat.{◌-◌, ◌*◌, ◌/◌, ◌%◌}
use mathlib.Core.Path.{◌≡◌}
use Rattle.search.specs.Next.{bit_at}
use Rattle.search.proofs.Reading.{Searching}
use Rattle.search.proofs.next.Given as goal

abbrev pub invariant-loop-c : goal.invariant-loop-c
invariant-loop-c l = (l.at ≡ 2 * (l.c / 32)) × (l.below ≡ l.c % 32) × Searching (bit_at l.words) l.first l.end l.c l.n

abbrev pub decreases-loop-c : goal.decreases-loop-c
decreases-loop-c l = l.end - l.c
