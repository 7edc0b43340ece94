-- `mascon_grid::finish` meets its contract: 20, or the header before the records. Assumes nothing.
use mathlib.Core.Path.{ap, ◌∙◌}
use Rattle.mascon_grid.specs.Scaled.{header_around, header_of}
use Rattle.mascon_grid.proofs.Finished.{way_20, way_file}
use Rattle.mascon_grid.proofs.finish.Goals as goal

pub returns-in_default : goal.returns-in_default
returns-in_default c =
    let t = c.args.grid.now in
    way_20 t.g t.f c.args.w c.args.target c.args.density c.args.out.now c.in_default.ensures _ c.scale_records.auto.out _ _ c.clear_refused.ensures.0 c.clear_refused.ensures.1

pub returns : goal.returns
unfolding header_of
returns c =
    let t = c.args.grid.now in
    let s = c.in-Some.ensures in
    way_file t.g t.f c.args.w c.args.target c.args.density c.args.out.now c.requires s.0 _ s.2 _ (c.header_of.ensures ∙ ap (header_around t.g c.args.w.count) s.1) _ c.out_words.ensures
