-- `points::records::count` meets its contract: the word at byte 12. Assumes nothing.
use Rattle.rym1.specs.File.{count}
use Rattle.points.proofs.records.count.Goals as goal

pub returns : goal.returns
unfolding count
returns c = c.u32_at.ensures
