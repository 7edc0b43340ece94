-- `points::judge::parse_mascon_bytes` meets its contract: the header's cause if there is one, else that of the records. Assumes nothing.
use mathlib.Core.Path.{sym}
use Rattle.std.proofs.lemmas.Result.{err_from_is_err_and}
use Rattle.rym1.specs.Causes.{number, judged, first}
use Rattle.rym1.specs.File.{points, file_cause}
use Rattle.rym1.proofs.Causes.{number_pos, first_found}
use Rattle.rym1.proofs.Accepted.{accepted_header}
use Rattle.points.proofs.judge.parse_mascon_bytes.Goals as goal

pub returns-in_err-header_cause-clause-cause : goal.returns-in_err-header_cause-clause-cause
unfolding judged file_cause
returns-in_err-header_cause-clause-cause c =
    let p = err_from_is_err_and c.from_residual.result c.from_residual.ensures.1 in
    let e = c.in_err-header_cause in
    rw (p.1, p.2, ← e.ensures) (sym (first_found (number e.field-0.0) _ (number_pos e.field-0.0)))

pub grid-requires : goal.grid-requires
unfolding judged
grid-requires c = (accepted_header c.args.file.now (sym c.in_ok-header_cause.ensures)).long

pub count-requires : goal.count-requires
unfolding judged
count-requires c = (accepted_header c.args.file.now (sym c.in_ok-header_cause.ensures)).long

pub points_cause-requires : goal.points_cause-requires
unfolding judged
points_cause-requires c = rw c.count.ensures (accepted_header c.args.file.now (sym c.in_ok-header_cause.ensures)).room

pub returns-in_err-points_cause-clause-cause : goal.returns-in_err-points_cause-clause-cause
unfolding judged file_cause points first
returns-in_err-points_cause-clause-cause c =
    let p = err_from_is_err_and c.from_residual-in_err-points_cause.result c.from_residual-in_err-points_cause.ensures.1 in
    let e = c.in_err-points_cause in
    rw (p.1, p.2, ← c.in_ok-header_cause.ensures, ← c.grid.ensures, ← c.count.ensures) e.ensures

pub invariant_of-result : goal.invariant_of-result
unfolding judged file_cause points first
invariant_of-result c = record { accepted = rw (← c.in_ok-header_cause.ensures, ← c.grid.ensures, ← c.count.ensures) (sym c.in_ok-points_cause.ensures) }

pub returns-clause-cause : goal.returns-clause-cause
unfolding judged file_cause points first
returns-clause-cause c = rw (← c.in_ok-header_cause.ensures, ← c.grid.ensures, ← c.count.ensures) c.in_ok-points_cause.ensures
