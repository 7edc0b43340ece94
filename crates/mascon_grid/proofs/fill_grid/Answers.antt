-- `mascon_grid::fill_grid` meets its contract: the visit is full, a mass is too large, or its finds are finished. Assumes nothing.
use Rattle.mascon_grid.proofs.Outcomes.{way_18, way_large, finds_room, way_finished}
use Rattle.mascon_grid.proofs.fill_grid.Goals as goal

pub returns-in_default : goal.returns-in_default
returns-in_default c =
    let a = c.args in
    let v = c.visit_cells in
    way_18 a.grid.now.g _ _ _ a.target a.density _ c.requires.frame _ _ v.ensures c.in_default.is v.auto.out _ _ c.clear_refused.ensures.0 c.clear_refused.ensures.1

pub returns-then-w : goal.returns-then-w
returns-then-w c =
    let a = c.args in
    let t = a.grid.now in
    let v = c.visit_cells in
    way_large t.g _ _ _ a.target a.density _ c.requires.frame _ _ v.ensures t.some t.few c.requires.room _ c.in-Some.is v.auto.out c.if-w.true _ _ c.clear_refused-then-w.ensures.0 c.clear_refused-then-w.ensures.1

pub finish-requires : goal.finish-requires
finish-requires c =
    let a = c.args in
    let t = a.grid.now in
    let v = c.visit_cells in
    finds_room t.g _ _ _ a.target a.density _ c.requires.frame _ _ v.ensures t.some t.few c.requires.room _ c.in-Some.is v.auto.out c.if-w.false

pub returns : goal.returns
returns c =
    let a = c.args in
    let t = a.grid.now in
    let v = c.visit_cells in
    way_finished t.g _ _ _ a.target a.density _ c.requires.frame _ v.new.out v.ensures t.some t.few c.requires.room _ c.in-Some.is v.auto.out c.if-w.false c.finish.ensures
