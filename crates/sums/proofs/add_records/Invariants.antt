use Prim.Native.Nat.{◌+◌}
use Rattle.sums.proofs.Added.{Adding}
use Rattle.sums.proofs.add_records.Given as goal

abbrev pub invariant-loop-k : goal.invariant-loop-k
invariant-loop-k l = Adding l.file.bytes.now l.r.z l.r.y (l.r.index + l.r.count) l.initial.t l.r.index l.t (l.r.index + l.k)
