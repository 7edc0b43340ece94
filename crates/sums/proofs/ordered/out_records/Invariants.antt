use Prim.Native.Nat.{◌+◌, ◌*◌}
use Rattle.sums.proofs.Order.{Counting}
use Rattle.sums.proofs.ordered.out_records.Given as goal

abbrev pub invariant-loop-k : goal.invariant-loop-k
invariant-loop-k l = Counting (l.r.index + l.r.count) l.initial.out l.from l.r.index l.out (l.from + 4 * l.k) (l.r.index + l.k)
