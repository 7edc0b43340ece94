-- `points::records::cell_point` meets its contract. Assumes nothing.
use mathlib.Core.Path.{refl}
use Rattle.rym1.specs.Cells.{cell_point}
use Rattle.points.proofs.records.cell_point.Goals as goal

pub returns : goal.returns
unfolding cell_point
returns c = refl
