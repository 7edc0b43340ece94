-- `working::find::cell_in` meets its contract. Assumes nothing.
use mathlib.Core.Path.{ap}
use Rattle.rym1.specs.declared.Point.{Point}
use Rattle.rym1.specs.File.{cell, cell_of}
use Rattle.working.proofs.find.cell_in.Goals as goal

pub returns : goal.returns
unfolding cell_of cell
returns c = ap (λ (p : Point). cell_of c.args.g p) c.point_at-p.ensures
