-- `mascon_grid::build_mascon` meets its contract: past every cause it is what `fill_grid` left; the other refusals the check finds. Assumes nothing.
use mathlib.Core.Path.{sym, ap, ◌∙◌}
use Rattle.rym1.specs.Causes.{judged}
use Rattle.filling.specs.Frame.{frame}
use Rattle.mascon_grid.proofs.Outcomes.{way_filled}
use Rattle.mascon_grid.proofs.build_mascon.Goals as goal

pub returns : goal.returns
unfolding judged
returns c =
    let left = c.fill_grid.new.out in
    let args = c.args in
    way_filled args.g _ _ _ args.target args.density _ _ (sym c.in_ok-grid_cause.ensures) c.lists_wrong.ensures c.if-lists_wrong.false c.if-floats-s.false _ c.capacity_of.ensures
    c.if-out-capacity_of.false _ (c.frame_of-f.ensures ∙ ap (λ b. frame b args.g) c.bounds_of-bounds.ensures) c.box_flat.ensures
    c.if-box_flat.false _ _ left c.fill_grid.ensures
