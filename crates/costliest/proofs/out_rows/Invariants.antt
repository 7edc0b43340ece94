use Prim.Native.Nat.{◌*◌}
use mathlib.Core.Path.{◌≡◌}
use Rattle.rym1.specs.Bytes.{splice}
use Rattle.rym1.specs.File.{points_bytes}
use Rattle.rym1.specs.Cells.{records_from}
use Rattle.rtm1.specs.Costliest.{every_cell}
use Rattle.costliest.proofs.out_rows.Given as goal

abbrev pub invariant-loop-row : goal.invariant-loop-row
invariant-loop-row l = (l.out ≡ splice l.initial.out 64 (points_bytes (records_from l.g every_cell 0 (l.row * l.g))))
