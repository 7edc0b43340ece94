-- `row::at_points` meets its contract: the region of each point passed has one crossing more, if there is one, and no other changes. Assumes nothing.
use Prim.Native.Nat.{◌≤◌, ◌<◌, ◌+◌, ◌*◌}
use mathlib.Core.Path.{◌≡◌, ◌∙◌, ap}
use mathlib.Core.List.{List}
use native.Mathlib.Omega.{arith}
use lib.ListN.{length, get_or, set}
use lib.Ieee.{Float}
use Rattle.filling.specs.Inside.{listed}
use Rattle.row.specs.Row.{stored, region, crossing_up_to}
use Rattle.row.proofs.Laws.{turn_done, turn_rest, up_is}
use Rattle.row.proofs.at_points.Goals as goal

pub loop-q-preserved : goal.loop-q-preserved
loop-q-preserved c =
    let turn = c.loop-q in
    let xs = c.args.row.now.xs.now in
    let fl₀ = c.args.fl.now in
    let k₀ = c.args.counts.now in
    let len = c.args.len in
    let q = turn.q in
    let low : q < length xs = omega arith in
    let room : q < length turn.counts = omega arith in
    let fits : length xs * len ≤ length turn.fl = omega (arith, c.requires.room) in
    let f = crossing_up_to c.args.top c.args.t c.args.row.now.y c.args.row.now.z xs c.args.row.now.ix.now in
    let made = c.store-r in
    let hit = c.crossing_up_to-c in
    let same = up_is c.args.top c.args.t c.args.row.now.y c.args.row.now.z xs c.args.row.now.ix.now q hit.result hit.ensures in
    let now = made.new.fl in
    let r = made.result in
    let e : now ≡ stored turn.fl (q * len + get_or turn.counts q 0) (f q) = made.ensures.stored ∙ ap (λ x. stored turn.fl (q * len + get_or turn.counts q 0) x) same in
    let v : r ≡ get_or turn.counts q 0 + length (listed (f q)) = made.ensures.count ∙ ap (λ x. get_or turn.counts q 0 + length (listed x)) same in record {
      done = λ p l.
          let h = turn_done fl₀ turn.fl k₀ turn.counts len (length xs) q f low room fits c.requires.free turn.invariant.done turn.invariant.rest r v p l in
          (h.0, ap (λ (w : List Float). region w (set turn.counts q r) len p) e ∙ h.1);
      rest = λ p a l.
          let h = turn_rest fl₀ turn.fl k₀ turn.counts len (length xs) q f low room fits c.requires.free turn.invariant.done turn.invariant.rest r p a l in
          (h.0, ap (λ (w : List Float). region w (set turn.counts q r) len p) e ∙ h.1);
    }
