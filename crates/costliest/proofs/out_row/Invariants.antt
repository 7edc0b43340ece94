use Prim.Native.Nat.{◌*◌}
use mathlib.Core.Path.{◌≡◌}
use Rattle.rym1.specs.Bytes.{splice}
use Rattle.rym1.specs.File.{points_bytes}
use Rattle.rym1.specs.Cells.{records_from}
use Rattle.rtm1.specs.Costliest.{every_cell}
use Rattle.costliest.proofs.out_row.Given as goal

abbrev pub invariant-loop-x : goal.invariant-loop-x
invariant-loop-x l = (l.out ≡ splice l.initial.out l.at (points_bytes (records_from l.g every_cell (l.row * l.g) l.x)))
