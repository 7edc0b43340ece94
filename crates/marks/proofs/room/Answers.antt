-- `marks::room` meets its contract. Assumes nothing.
use native.Mathlib.Omega.{arith}
use Rattle.rym1.specs.File.{groups}
use Rattle.marks.proofs.room.Goals as goal

pub returns : goal.returns
unfolding groups
returns c = (omega (arith, c.cells.ensures.0), omega (arith, c.cells.ensures.1))
