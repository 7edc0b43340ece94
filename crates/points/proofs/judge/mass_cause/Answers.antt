-- `points::judge::mass_cause` meets its contract: each way out rewrites with the tests that led there. Assumes nothing.
use mathlib.Core.Path.{sym, ◌∙◌}
use Rattle.rym1.specs.Causes.{number, judged, when}
use Rattle.rym1.specs.File.{mass_cause}
use Rattle.points.proofs.judge.mass_cause.Goals.{else-is_finite-via-then-is_finite+else-is_finite-2, else-is_finite-via-else-is_finite}
use Rattle.points.proofs.judge.mass_cause.Goals as goal

pub returns-then-is_finite-2 : goal.returns-then-is_finite-2
unfolding judged mass_cause when
returns-then-is_finite-2 c = rw (sym c.if-is_finite.ensures, sym c.if-is_finite-2.ensures)

pub returns : goal.returns
unfolding number judged mass_cause when
returns c = elim c.else-is_finite.branch [
  | else-is_finite-via-then-is_finite+else-is_finite-2 w ↦ rw (sym c.is_finite.ensures ∙ w.if-is_finite.true, sym w.is_finite-then-is_finite.ensures ∙ w.if-is_finite-2.false)
  | else-is_finite-via-else-is_finite w ↦ rw (sym c.is_finite.ensures ∙ w.if-is_finite.false)
]
