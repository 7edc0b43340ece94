-- `points::records::cell_number` meets its contract: with g at most 256 each step fits, and the number is below g³. Assumes nothing.
use mathlib.Core.Path.{refl}
use Rattle.rym1.specs.File.{cell}
use Rattle.rym1.proofs.Cells.{cell_low}
use Rattle.points.proofs.records.cell_number.Goals as goal

pub returns : goal.returns
unfolding cell
returns c = (refl, cell_low c.args.g c.args.x c.args.y c.args.z c.requires.inside)
