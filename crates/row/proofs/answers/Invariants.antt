use Prim.Native.Nat.{ℕ, ◌≤◌, ◌<◌}
use mathlib.Core.Path.{◌≡◌}
use lib.ListN.{get_or}
use Rattle.filling.specs.Inside.{odd_rest, yes}
use Rattle.row.specs.Row.{region}
use Rattle.row.proofs.answers.Given as goal

abbrev pub invariant-loop-q : goal.invariant-loop-q
invariant-loop-q l = record {
  answered : (p : ℕ) → p < l.q → get_or l.out p 0 ≡ yes (odd_rest (region l.initial.fl l.counts l.len p));
  ahead : (p : ℕ) → l.q ≤ p → region l.fl l.counts l.len p ≡ region l.initial.fl l.counts l.len p;
}
