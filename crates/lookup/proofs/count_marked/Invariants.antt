use mathlib.Core.Path.{◌≡◌}
use mathlib.Core.Bool.{not}
use Prim.Native.Nat.{◌≤◌}
use lib.ListN.{take}
use Rattle.std.proofs.Common.{◌==◌, count_by}
use Rattle.lookup.proofs.count_marked.Given as goal

abbrev pub invariant-loop-word : goal.invariant-loop-word
invariant-loop-word l = (l.found ≡ count_by (λ w. not (w == 0)) (take l.word-index l.words)) × (l.found ≤ l.word-index)
