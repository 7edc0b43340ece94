-- `sums::ordered::out_order` meets its contract: what stands, with the points to come, is the box's order. Assumes nothing.
use native.Mathlib.Omega.{arith}
use Rattle.rym1.specs.Cells.{look}
use Rattle.rtm1.specs.Visit.{visit}
use Rattle.runs.proofs.Runs.{length_placed}
use Rattle.runs.proofs.Stepped.{first_points, same_file}
use Rattle.runs.specs.Walk.{left, points_of}
use Rattle.sums.proofs.Order.{room_on, storing_on, storing_end, records_ordered}
use Rattle.sums.proofs.ordered.out_order.Goals as goal

pub out_records-at-requires : goal.out_records-at-requires
out_records-at-requires c =
    let a = c.args in
    let l = c.loop-r in
    let p = c.in-Some.r in
    let f = a.lookup.now.file.bytes.now in
    let first = first_points f l.r-iterator c.next.new.self p l.invariant.2 c.in-Some.ensures.steps in
    let room = room_on (visit (look f) a.lookup.now.g a.b) a.out.now a.from c.requires.room l.out l.at (left l.r-iterator) (points_of f p) (left c.next.new.self) first l.invariant.3 in
    omega (arith, room, length_placed f p.z p.y p.index p.count)

pub loop-r-preserved : goal.loop-r-preserved
loop-r-preserved c =
    let a = c.args in
    let l = c.loop-r in
    let p = c.in-Some.r in
    let w = c.out_records-at in
    let f = a.lookup.now.file.bytes.now in
    let first = first_points f l.r-iterator c.next.new.self p l.invariant.2 c.in-Some.ensures.steps in (
      tt,
      tt,
      same_file f l.r-iterator c.next.new.self p l.invariant.2 c.in-Some.ensures.steps,
      storing_on (visit (look f) a.lookup.now.g a.b) a.out.now a.from c.requires.room l.out l.at _ _ _ first l.invariant.3
          w.new.out w.result (records_ordered f p.z p.y p.index p.count l.out w.new.out l.at w.result w.ensures.0 w.ensures.1),
    )

pub returns : goal.returns
returns c =
    let a = c.args in
    storing_end (visit (look a.lookup.now.file.bytes.now) a.lookup.now.g a.b) a.out.now a.from _ c.loop-r.out c.loop-r.at c.in-None.ensures.steps.step c.loop-r.invariant.3
