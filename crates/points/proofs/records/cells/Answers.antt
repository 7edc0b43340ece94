-- `points::records::cells` meets its contract. Assumes nothing.
use mathlib.Core.Path.{refl}
use Rattle.rym1.specs.File.{cube}
use Rattle.rym1.proofs.Cells.{cube_few}
use Rattle.points.proofs.records.cells.Goals as goal

pub returns : goal.returns
unfolding cube
returns c = (refl, cube_few c.args.g c.requires)
