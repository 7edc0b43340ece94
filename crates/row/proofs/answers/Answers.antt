-- `row::answers` meets its contract: each region is sorted in its place, and those behind it stay. Assumes nothing.
use borrow.Rule.Slice.PartMut.{mid_len}
use Prim.Native.Nat.{◌≤◌, ◌<◌, ◌-◌, ◌+◌, ◌*◌}
use mathlib.Core.Path.{◌≡◌, ◌∙◌, ap}
use mathlib.Core.List.{List}
use lib.Ieee.{Float}
use native.Mathlib.Omega.{arith}
use lib.ListN.{length, get_or}
use Rattle.filling.specs.Inside.{odd_rest, yes}
use Rattle.row.specs.Row.{region}
use Rattle.row.proofs.Laws.{apart, region_kept, answer_step, region_lent}
use Rattle.row.proofs.answers.Goals as goal

pub loop-q-preserved : goal.loop-q-preserved
loop-q-preserved c =
    let turn = c.loop-q in
    let q = turn.q in
    let len = c.args.len in
    let n = length c.args.out.now in
    let ks = c.args.counts.now in
    let low : q < n = omega arith in
    let few = c.requires.few q low in
    let g = apart q n len low in
    let fits : q * len + get_or ks q 0 ≤ length turn.fl = omega (arith, c.requires.room) in
    let under : q * len ≤ length turn.fl = omega arith in
    let made = c.answer in
    let last = made.new.h in
    let fl₀ = c.args.fl.now in
    let out = turn.out in
    let room : q < length out = omega arith in
    let long : length last ≡ q * len + get_or ks q 0 - q * len = made.auto.h ∙ mid_len (q * len) (q * len + get_or ks q 0) turn.fl fits in
    let value : made.result ≡ yes (odd_rest (region fl₀ ks len q)) =
    made.ensures ∙ ap (λ (l : List Float). yes (odd_rest l)) (region_lent turn.fl ks len q ∙ turn.invariant.ahead q (omega arith)) in record {
      answered = answer_step out q made.result (λ p. yes (odd_rest (region fl₀ ks len p))) room value turn.invariant.answered;
      ahead = λ p l. region_kept turn.fl last ks len n q p (omega arith) few fits long ∙ turn.invariant.ahead p (omega arith);
    }
