-- `row::pass` meets its contract: each region has the crossings of the entries read. Assumes nothing.
use Prim.Native.Nat.{◌<◌}
use mathlib.Core.Path.{refl, ◌∙◌, ap}
use mathlib.Core.List.{List, ◌++◌}
use lib.Ieee.{Float}
use native.Mathlib.Omega.{arith}
use lib.ListN.{length, get_or}
use Rattle.filling.specs.Inside.{listed}
use Rattle.filling.specs.declared.Crossing.{Crossing}
use Rattle.filling.specs.Rows.{triangle_of}
use Rattle.row.specs.Row.{region, crossing_at}
use Rattle.row.proofs.Laws.{at_none, at_more, region_none, up_to_is}
use Rattle.row.proofs.pass.Goals as goal

pub loop-i-init : goal.loop-i-init
loop-i-init c q l =
    let row = c.args.row.now in
    let z = c.requires.zero q in
    (omega arith, region_none c.args.fl.now c.args.counts.now (length c.args.list.now) q z ∙ at_none c.args.s.now row.b row.y row.z row.xs.now c.args.list.now q)

pub invariant_of-at : goal.invariant_of-at
unfolding triangle_of
invariant_of-at c =
    let good = c.requires.good c.loop-i.i-index (omega arith) in
    record { inside = good.0; good = good.1 }

pub loop-i-preserved : goal.loop-i-preserved
unfolding triangle_of
loop-i-preserved c q l =
    let turn = c.loop-i in
    let row = c.args.row.now in
    let list = c.args.list.now in
    let made = c.entry in
    let low : turn.i-index < length list = omega arith in
    let e = get_or list turn.i-index 0 in
    let old : List Float = region turn.fl turn.counts (length list) q in
    let same = up_to_is c.args.s.now row.b row.y row.z row.xs.now row.ix.now e _ (triangle_of c.args.s.now e) refl refl row.indexed q l in (
      omega (arith, made.ensures.few q l, (turn.invariant q l).0),
      made.ensures.regions q l ∙ ap (λ (x : Crossing). old ++ listed x) same ∙ ap (λ (w : List Float). w ++ listed (crossing_at c.args.s.now row.b row.y row.z row.xs.now e q)) (turn.invariant q l).1
          ∙ at_more c.args.s.now row.b row.y row.z row.xs.now list q turn.i-index low,
    )
