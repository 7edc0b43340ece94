-- `opening::fold::fold` meets its contract: without the room, it is 9. Assumes nothing.
use native.Mathlib.Omega.{arith}
use Rattle.rym1.specs.Causes.{number, judged, told}
use Rattle.opening.proofs.Outcomes.{passed, fold_9}
use Rattle.opening.proofs.fold.fold.Goals as goal

pub returns-then-out-length : goal.returns-then-out-length
unfolding number judged told
returns-then-out-length c =
    let a = c.in_ok-accepted in
    let k = c.measure-form in
    let lent = passed _ _ _ a.ensures.cause a.ensures.file in
    (rw (← a.ensures.file) (fold_9 _ _ _ a.accepted.accepted lent k.result.occupied k.ensures.0.count_is c.if-out-length.true), λ b. absurd (omega (arith, b)))
