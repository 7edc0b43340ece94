-- `points::records::grid` meets its contract: the word at byte 8. Assumes nothing.
use Rattle.rym1.specs.File.{grid}
use Rattle.points.proofs.records.grid.Goals as goal

pub returns : goal.returns
unfolding grid
returns c = c.u32_at.ensures
