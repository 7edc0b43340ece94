-- `points::judge::points_cause` meets its contract: the invariant: the cause of all records is that of the records left. Assumes nothing.
use Prim.Native.Nat.{ℕ, ◌+◌, ◌*◌, ◌-◌}
use mathlib.Core.Path.{◌≡◌, refl, sym, ap₂, ◌∙◌}
use native.Mathlib.Omega.{arith}
use Rattle.std.proofs.lemmas.Result.{err_from_is_err_and}
use Rattle.rym1.specs.Causes.{number, judged}
use Rattle.rym1.specs.File.{size, points_at, points_cause}
use Rattle.rym1.proofs.Causes.{number_pos}
use Rattle.points.proofs.Turns.{cause_stop, cause_go, cause_end}
use Rattle.points.proofs.judge.points_cause.Goals as goal

pub point_at-requires : goal.point_at-requires
unfolding size
point_at-requires c = omega arith

pub returns-in_err-point_cause : goal.returns-in_err-point_cause
unfolding judged
returns-in_err-point_cause c =
    let p = err_from_is_err_and c.from_residual.result c.from_residual.ensures.1 in
    let e = c.in_err-point_cause in
    let i = c.loop-i.i in
    rw (p.1, p.2)
    (cause_stop c.args.file.now c.args.g (64 + 16 * i) (c.args.n - i) (number e.field-0.0) c.point_at.result (omega arith) c.point_at.ensures e.ensures (number_pos e.field-0.0)
    ∙ sym c.loop-i.invariant)

pub loop-i-preserved : goal.loop-i-preserved
unfolding judged
loop-i-preserved c =
    let i = c.loop-i.i in
    let on : 64 + 16 * i + 16 ≡ 64 + 16 * (i + 1) = omega arith in
    let left : c.args.n - i - 1 ≡ c.args.n - (i + 1) = omega arith in
    c.loop-i.invariant
    ∙ cause_go c.args.file.now c.args.g (64 + 16 * i) (c.args.n - i) 0 c.point_at.result (omega arith) c.point_at.ensures c.in_ok-point_cause.ensures refl
    ∙ ap₂ (λ (a k : ℕ). points_cause c.args.g (points_at c.args.file.now a k)) on left

pub returns : goal.returns
unfolding judged
returns c =
    let i = c.loop-i.i in
    sym (c.loop-i.invariant ∙ cause_end c.args.file.now c.args.g (64 + 16 * i) (c.args.n - i) (omega arith))
