-- `points::judge::point_cause` meets its contract: the place's cause if there is one, else that of the masses. Assumes nothing.
use mathlib.Core.Path.{sym, ◌∙◌}
use Rattle.std.proofs.lemmas.Result.{err_from_is_err_and}
use Rattle.rym1.specs.Causes.{number, judged}
use Rattle.rym1.specs.File.{point_cause}
use Rattle.rym1.proofs.Causes.{number_pos, first_found, first_none}
use Rattle.points.proofs.judge.point_cause.Goals as goal

pub returns-in_err-place_cause : goal.returns-in_err-place_cause
unfolding judged point_cause
returns-in_err-place_cause c =
    let p = err_from_is_err_and c.from_residual.result c.from_residual.ensures.1 in
    let e = c.in_err-place_cause in
    rw (p.1, p.2, ← e.ensures) (sym (first_found (number e.field-0.0) _ (number_pos e.field-0.0)))

pub returns : goal.returns
unfolding judged point_cause
returns c = c.mass_cause.ensures ∙ sym (first_none _ _ (sym c.in_ok-place_cause.ensures))
