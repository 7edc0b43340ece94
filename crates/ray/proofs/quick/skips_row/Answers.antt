-- `ray::quick::skips_row` meets its contract: the quick test knows no x, and answers for the ray's at each. Assumes nothing.
use mathlib.Core.Path.{sym, ◌∙◌}
use Rattle.ray.proofs.QuickLaws.{row_misses}
use Rattle.ray.proofs.quick.skips_row.Goals as goal

pub returns-then-near : goal.returns-then-near
returns-then-near c =
    let yes = c.if-near.true in
    let near = c.requires yes in
    λ e. (yes, λ x h. row_misses x _ c.args.y c.args.z _ c.args.t.good near.0 near.1 h (sym c.quick_miss.ensures ∙ e))
