-- `ray::quick::skips` meets its contract: its point is one of the row's. Assumes nothing.
use Rattle.filling.proofs.Lists.{coordinates_up_to}
use Rattle.ray.proofs.quick.skips.Goals as goal

pub skips_row-requires : goal.skips_row-requires
skips_row-requires c =
    λ e. let each = coordinates_up_to _ _ (c.requires e) in (each.1, each.2)

pub returns : goal.returns
returns c =
    λ e. let row = c.skips_row.ensures e in row.1 _ (coordinates_up_to _ _ (c.requires row.0)).0
