-- `edits::remove` meets its contract: each way out is its outcome's. Assumes nothing.
use mathlib.Core.Path.{sym, ap, ◌∙◌}
use Rattle.std.proofs.lemmas.Result.{err_from_is_err_and}
use Rattle.rym1.specs.Causes.{number, judged, told}
use Rattle.rym1.specs.File.{grid}
use Rattle.rym1.specs.Journal.{push_cause}
use Rattle.rym1.proofs.Causes.{number_pos}
use Rattle.edits.proofs.Removing.{way_empty, way_full, way_rest}
use Rattle.edits.proofs.remove.Goals as goal

pub returns-in_err-push_cause-in-Ok : goal.returns-in_err-push_cause-in-Ok
unfolding judged told
returns-in_err-push_cause-in-Ok c =
    let a = c.in_ok-working in
    let f = c.args.file.now in
    let j = c.args.journal.now in
    let ok = sym a.ensures.cause in
    let g = c.grid-g.ensures.value ∙ ap grid a.ensures.same.0 in
    let own = c.cell_number-c in
    let rest = way_rest f j c.args.x c.args.y c.args.z ok own.result c.grid-g.result own.ensures.0 g (sym c.in_ok-place_cause.ensures) in
    let p = err_from_is_err_and c.from_residual-in_err-push_cause-in-Ok.result c.from_residual-in_err-push_cause-in-Ok.ensures.1 in
    let e = c.in_err-push_cause-in-Ok in
    rw (p.1, p.2) (way_full f j own.result c.in-Ok.i (rw a.ensures.same.0 at c.in-Ok.ensures) (number e.field-0.0) (e.ensures ∙ ap push_cause a.ensures.same.1) (number_pos e.field-0.0) ∙ rest)

pub returns-in-Err : goal.returns-in-Err
unfolding judged
returns-in-Err c =
    let a = c.in_ok-working in
    let f = c.args.file.now in
    let j = c.args.journal.now in
    let ok = sym a.ensures.cause in
    let g = c.grid-g.ensures.value ∙ ap grid a.ensures.same.0 in
    let own = c.cell_number-c in
    let rest = way_rest f j c.args.x c.args.y c.args.z ok own.result c.grid-g.result own.ensures.0 g (sym c.in_ok-place_cause.ensures) in
    way_empty f j own.result _ (rw a.ensures.same.0 at c.in-Err.ensures) ∙ rest
