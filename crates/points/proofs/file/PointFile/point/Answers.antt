-- `points::file::PointFile::point` meets its contract. Assumes nothing.
use Prim.Native.Nat.{◌+◌, ◌*◌}
use mathlib.Core.Path.{refl}
use native.Mathlib.Omega.{arith}
use Rattle.rym1.specs.File.{grid, count, points, size}
use Rattle.rym1.proofs.Accepted.{accepted, accepted_points, inside_at}
use Rattle.points.proofs.file.PointFile.point.Goals as goal

pub point_at-requires : goal.point_at-requires
unfolding size
point_at-requires c =
    let room = (accepted c.args.self.now.bytes.now c.args.self.now.accepted).room in
    omega arith

pub returns-clause-inside : goal.returns-clause-inside
unfolding points
returns-clause-inside c =
    let f = c.args.self.now.bytes.now in
    inside_at (grid f) f (64 + 16 * c.args.i) (count f) c.args.i c.point_at.result (accepted_points f c.args.self.now.accepted) refl (omega arith) c.point_at.ensures
