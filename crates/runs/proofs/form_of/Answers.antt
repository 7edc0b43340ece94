-- `runs::form_of` meets its contract: by what is against the working form. Assumes nothing.
use mathlib.Core.Path.{sym}
use native.Mathlib.Omega.{arith}
use Rattle.rym1.specs.Causes.{judged}
use Rattle.rym1.proofs.Causes.{number_pos}
use Rattle.runs.proofs.Runs.{form_marks, form_words}
use Rattle.runs.proofs.form_of.Goals as goal

pub returns-in-Ok : goal.returns-in-Ok
unfolding judged
returns-in-Ok c = form_marks _ (sym c.in-Ok.ensures.cause)

pub returns-in-Err : goal.returns-in-Err
unfolding judged
returns-in-Err c = form_words _ (λ e. let some = number_pos c.in-Err.field-0 in omega (arith, some, c.in-Err.ensures.cause, e))
