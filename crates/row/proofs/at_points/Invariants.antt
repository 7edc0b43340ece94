use Prim.Native.Nat.{ℕ, ◌≤◌, ◌<◌, ◌+◌}
use mathlib.Core.Path.{◌≡◌}
use mathlib.Core.List.{◌++◌}
use lib.ListN.{length, get_or}
use Rattle.filling.specs.Inside.{listed}
use Rattle.row.specs.Row.{region, crossing_up_to}
use Rattle.row.proofs.at_points.Given as goal

abbrev pub invariant-loop-q : goal.invariant-loop-q
invariant-loop-q l = record {
  done : (p : ℕ) → p < l.q → (get_or l.counts p 0 ≤ get_or l.initial.counts p 0 + 1)
      × (region l.fl l.counts l.len p ≡ region l.initial.fl l.initial.counts l.len p ++ listed (crossing_up_to l.top l.t l.row.y l.row.z l.row.xs.now l.row.ix.now p));
  rest : (p : ℕ) → l.q ≤ p → p < length l.row.xs.now
      → (get_or l.counts p 0 ≡ get_or l.initial.counts p 0) × (region l.fl l.counts l.len p ≡ region l.initial.fl l.initial.counts l.len p);
}
