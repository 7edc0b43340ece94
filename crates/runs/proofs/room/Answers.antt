-- `runs::room` meets its contract: each form has its own. Assumes nothing.
use mathlib.Core.Path.{sym, ap, ◌∙◌}
use Rattle.runs.specs.declared.Form.{Form}
use Rattle.runs.specs.Runs.{room_of}
use Rattle.runs.proofs.room.Goals as goal

pub returns-in-Marks : goal.returns-in-Marks
unfolding room_of
returns-in-Marks c = let a = c.args in c.room.ensures.0 ∙ ap (λ (form : Form). room_of form a.g) (sym c.in-Marks.is)

pub returns-in-Words : goal.returns-in-Words
unfolding room_of
returns-in-Words c = let a = c.args in c.cells.ensures.0 ∙ ap (λ (form : Form). room_of form a.g) (sym c.in-Words.is)
