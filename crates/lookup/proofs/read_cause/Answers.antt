-- `lookup::read_cause` meets its contract: each way out is its own. Assumes nothing.
use mathlib.Core.Path.{sym, ap, ◌∙◌}
use Rattle.std.proofs.lemmas.Result.{err_from_is_err_and}
use Rattle.rym1.specs.Causes.{number, judged}
use Rattle.rym1.specs.File.{grid, cube}
use Rattle.rym1.proofs.Causes.{number_pos}
use Rattle.lookup.proofs.Reading.{read_file, read_8, read_none}
use Rattle.lookup.proofs.read_cause.Goals as goal

pub returns-in_err-accepted-clause-cause : goal.returns-in_err-accepted-clause-cause
unfolding judged
returns-in_err-accepted-clause-cause c =
    let p = err_from_is_err_and c.from_residual.result c.from_residual.ensures.1 in
    let e = c.in_err-accepted in
    rw (p.1, p.2) (read_file _ _ (number e.field-0.0) e.ensures.cause (number_pos e.field-0.0))

pub returns-then-words-cells-clause-cause : goal.returns-then-words-cells-clause-cause
unfolding number judged
returns-then-words-cells-clause-cause c =
    read_8 _ _ (sym c.in_ok-accepted.ensures.cause) c.cells.result (c.cells.ensures.0 ∙ ap cube (c.grid.ensures.value ∙ ap grid c.in_ok-accepted.ensures.file)) c.if-words-cells.true

pub returns-clause-cause : goal.returns-clause-cause
unfolding judged
returns-clause-cause c =
    read_none _ _ (sym c.in_ok-accepted.ensures.cause) c.cells.result (c.cells.ensures.0 ∙ ap cube (c.grid.ensures.value ∙ ap grid c.in_ok-accepted.ensures.file)) c.if-words-cells.false
