-- `sums::sums_of` meets its contract: the sums so far, with the points to come, are those of the box. Assumes nothing.
use mathlib.Core.Path.{refl, ap, ◌∙◌}
use native.Mathlib.Nat.{zero-add}
use native.Mathlib.Omega.{arith}
use Rattle.rym1.specs.Cells.{look}
use Rattle.rtm1.specs.declared.Sums.{Sums}
use Rattle.rtm1.specs.Visit.{nothing, visit}
use Rattle.rtm1.proofs.Visit.{total_count}
use Rattle.runs.proofs.Runs.{grid_few, length_placed}
use Rattle.runs.proofs.Stepped.{first_points, in_file, same_file}
use Rattle.runs.specs.Walk.{left, points_of}
use Rattle.sums.proofs.Turns.{sums_on, sums_fit, sums_end}
use Rattle.sums.proofs.sums_of.Goals as goal

pub add_records-t-requires : goal.add_records-t-requires
add_records-t-requires c =
    let a = c.args in
    let l = c.loop-r in
    let p = c.in-Some.r in
    let f = a.lookup.now.file.bytes.now in
    let first = first_points f l.r-iterator c.next.new.self p l.invariant.2 c.in-Some.ensures.steps in
    let fit = sums_fit l.t _ (left l.r-iterator) (points_of f p) (left c.next.new.self) first l.invariant.3 (look f) a.lookup.now.g a.b refl c.requires (grid_few a.lookup.now.ready) in
    (in_file f l.r-iterator c.next.new.self p l.invariant.2 c.in-Some.ensures.steps, omega (arith, fit, length_placed f p.z p.y p.index p.count))

pub loop-r-preserved : goal.loop-r-preserved
loop-r-preserved c =
    let a = c.args in
    let l = c.loop-r in
    let p = c.in-Some.r in
    let f = a.lookup.now.file.bytes.now in
    let first = first_points f l.r-iterator c.next.new.self p l.invariant.2 c.in-Some.ensures.steps in
    (tt, tt, same_file f l.r-iterator c.next.new.self p l.invariant.2 c.in-Some.ensures.steps, sums_on l.t _ _ _ _ first l.invariant.3 c.add_records-t.result c.add_records-t.ensures)

pub returns-clause-value : goal.returns-clause-value
returns-clause-value c = sums_end c.loop-r.t _ _ c.in-None.ensures.steps.step c.loop-r.invariant.3

pub returns-clause-counted : goal.returns-clause-counted
returns-clause-counted c =
    let a = c.args in
    let all = sums_end c.loop-r.t _ _ c.in-None.ensures.steps.step c.loop-r.invariant.3 in
    ap (λ (t : Sums). t.count) all ∙ (total_count nothing (visit (look a.lookup.now.file.bytes.now) a.lookup.now.g a.b) ∙ zero-add _)
