-- `mascon_tree::build_mascon_tree` meets its contract: a refusal is 1 to 8, or 21. Assumes nothing.
use Rattle.std.proofs.lemmas.Result.{err_from_is_err_and}
use Rattle.mascon_tree.proofs.Outcomes.{way_refused}
use Rattle.mascon_tree.proofs.build_mascon_tree.Goals as goal

pub returns-in_err-form : goal.returns-in_err-form
returns-in_err-form c =
    let p = err_from_is_err_and c.from_residual.result c.from_residual.ensures.1 in
    rw (p.1, p.2) (way_refused _ _ _ _ _ c.in_err-form.ensures)
