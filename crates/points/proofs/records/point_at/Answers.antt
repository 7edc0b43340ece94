-- `points::records::point_at` meets its contract: each field is the number at its place. Assumes nothing.
use Rattle.rym1.specs.File.{point_at}
use Rattle.points.proofs.records.point_at.Goals as goal

pub returns : goal.returns
unfolding point_at
returns c =
    rw (
      c.u16_at-x.ensures.0,
      c.u16_at-y.ensures.0,
      c.u16_at-z.ensures.0,
      c.u16_at-pad.ensures.0,
      c.u32_at-cauchy.ensures,
      c.u32_at-elliptic.ensures,
    )
