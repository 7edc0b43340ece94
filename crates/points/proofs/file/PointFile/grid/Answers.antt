-- `points::file::PointFile::grid` meets its contract. Assumes nothing.
use Rattle.rym1.proofs.Accepted.{accepted}
use Rattle.points.proofs.file.PointFile.grid.Goals as goal

pub grid-requires : goal.grid-requires
grid-requires c = (accepted c.args.self.now.bytes.now c.args.self.now.accepted).long

pub returns-clause-few : goal.returns-clause-few
returns-clause-few c = rw c.grid.ensures (accepted c.args.self.now.bytes.now c.args.self.now.accepted).grid_few

pub returns-clause-pos : goal.returns-clause-pos
returns-clause-pos c = rw c.grid.ensures (accepted c.args.self.now.bytes.now c.args.self.now.accepted).grid_pos
