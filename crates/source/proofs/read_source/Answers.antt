-- `source::read_source` meets its contract: what 1 to 7 do not refuse is accepted. Assumes nothing.
use Rattle.std.proofs.lemmas.Result.{err_from_is_err_and}
use Rattle.rym1.specs.Causes.{judged}
use Rattle.rym1.proofs.Causes.{number_pos}
use Rattle.source.proofs.Ways.{way_file}
use Rattle.source.proofs.read_source.Goals as goal

pub returns-in_err-accepted : goal.returns-in_err-accepted
unfolding judged
returns-in_err-accepted c =
    let p = err_from_is_err_and c.from_residual.result c.from_residual.ensures.1 in
    let e = c.in_err-accepted in
    rw (p.1, p.2) (way_file _ _ e.field-0.0 e.ensures.cause (number_pos e.field-0.0))
