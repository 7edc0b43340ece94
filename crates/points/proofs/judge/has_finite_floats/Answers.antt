-- `points::judge::has_finite_floats` meets its contract: the nine floats are three times three. Assumes nothing.
use mathlib.Core.Path.{sym, ◌∙◌}
use mathlib.Core.Bool.{true≢false}
use Rattle.points.proofs.Refused.{nine_floats}
use Rattle.points.proofs.judge.has_finite_floats.Goals.{then-are_finite, else-are_finite}
use Rattle.points.proofs.judge.has_finite_floats.Goals as goal

pub returns-then-are_finite-2 : goal.returns-then-are_finite-2
returns-then-are_finite-2 c = elim c.if-are_finite.branch [
  | then-are_finite w ↦ rw (
    nine_floats c.args.file.now,
    sym c.are_finite.ensures ∙ w.if-are_finite.true,
    sym w.are_finite-then-are_finite.ensures ∙ sym w.value-is ∙ c.if-are_finite-2.true,
  ) c.are_finite-then-are_finite-2.ensures
  | else-are_finite w ↦ absurd (true≢false (sym c.if-are_finite-2.true ∙ w.value-is ∙ w.if-are_finite.false))
]

pub returns-else-are_finite-2 : goal.returns-else-are_finite-2
returns-else-are_finite-2 c = elim c.if-are_finite.branch [
  | then-are_finite w ↦ rw (
    nine_floats c.args.file.now,
    sym c.are_finite.ensures ∙ w.if-are_finite.true,
    sym w.are_finite-then-are_finite.ensures ∙ sym w.value-is ∙ c.if-are_finite-2.false,
  ) c.if-are_finite-2.false
  | else-are_finite w ↦ rw (nine_floats c.args.file.now, sym c.are_finite.ensures ∙ w.if-are_finite.false, w.value-is ∙ w.if-are_finite.false)
]
