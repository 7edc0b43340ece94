-- `points::records::out_point` meets its contract: three numbers on end. Assumes nothing.
use Rattle.rym1.proofs.Points.{point_stores}
use Rattle.points.proofs.records.out_point.Goals as goal

pub returns : goal.returns
returns c =
    point_stores _ _ _ _ c.args.at c.place_number.result c.args.p c.requires c.place_number.ensures c.out_u64.ensures c.out_u32.ensures c.out_u32-2.ensures
