-- `row::entry` meets its contract: a triangle that is passed over is missed at every point. Assumes nothing.
use Rattle.filling.specs.declared.Crossing.{Crossing}
use mathlib.Core.Path.{sym, ap, ◌∙◌}
use mathlib.Core.List.{List, ◌++◌, append-nil}
use lib.ListN.{get_or}
use lib.Ieee.{Float, nan}
use Rattle.filling.specs.Inside.{listed}
use Rattle.row.specs.Row.{region, point_of}
use Rattle.row.proofs.Laws.{missed_up_to}
use Rattle.row.proofs.entry.Goals as goal

pub returns-then-skips_row-clause-regions : goal.returns-then-skips_row-clause-regions
unfolding point_of
returns-then-skips_row-clause-regions c q l =
    let row = c.args.row.now in
    let skip = c.skips_row.ensures c.if-skips_row.true in
    let old : List Float = region c.args.fl.now c.args.counts.now c.args.len q in
    sym (ap (λ (x : Crossing). old ++ listed x)
    (missed_up_to _ _ row.y row.z row.xs.now row.ix.now q (skip.1 (get_or row.xs.now q nan) ((row.within skip.0).on_x_law q l))) ∙ append-nil old)
