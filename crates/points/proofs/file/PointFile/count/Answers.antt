-- `points::file::PointFile::count` meets its contract. Assumes nothing.
use Rattle.rym1.proofs.Accepted.{accepted}
use Rattle.points.proofs.file.PointFile.count.Goals as goal

pub count-requires : goal.count-requires
count-requires c = (accepted c.args.self.now.bytes.now c.args.self.now.accepted).long
