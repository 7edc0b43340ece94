-- `sums::ordered::out_records` meets its contract: what stands, with the numbers to come, is all of it. Assumes nothing.
use Prim.Native.Nat.{◌+◌, ◌*◌}
use mathlib.Core.Path.{◌≡◌, refl}
use native.Mathlib.Omega.{arith}
use Rattle.sums.proofs.Order.{counting_turn, counting_end}
use Rattle.sums.proofs.ordered.out_records.Goals as goal

pub loop-k-preserved : goal.loop-k-preserved
loop-k-preserved c =
    let a = c.args in
    let l = c.loop-k in
    let at : a.from + 4 * (l.k + 1) ≡ a.from + 4 * l.k + 4 = omega arith in
    let on : a.r.index + (l.k + 1) ≡ a.r.index + l.k + 1 = omega arith in
    rw (at, on)
    (counting_turn (a.r.index + a.r.count) a.out.now a.from a.r.index (omega (arith, c.requires)) l.out c.out_u32.new.s (a.from + 4 * l.k) (a.r.index + l.k) (omega (arith, c.loop-k-test.true)) c.out_u32.ensures l.invariant)

pub returns : goal.returns
returns c =
    let a = c.args in
    let l = c.loop-k in
    let all = counting_end (a.r.index + a.r.count) a.out.now a.from a.r.index a.r.count l.out (a.from + 4 * l.k) (a.r.index + l.k) refl (omega (arith, c.loop-k-test.false)) l.invariant in
    (all.0, refl)
