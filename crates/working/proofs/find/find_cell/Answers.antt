-- `working::find::find_cell` meets its contract: the records' cells ascend, so the search finds the cell's record or its place. Assumes nothing.
use native.Mathlib.Omega.{arith}
use borrow.Author.Rules.{rules}
use Rattle.std.proofs.lemmas.Fn.{always_returns_same}
use Rattle.rym1.specs.File.{size}
use Rattle.rym1.proofs.Accepted.{accepted}
use Rattle.working.proofs.Finding.{cell_in, rising, found, missing}
use Rattle.working.proofs.find.find_cell.Goals as goal

pub slice_bounds-as_chunks-end : goal.slice_bounds-as_chunks-end
unfolding size
slice_bounds-as_chunks-end c = omega (arith, c.count.ensures, (accepted c.args.file.file.bytes.now c.args.file.file.accepted).room)

pub returns-in-Ok : goal.returns-in-Ok
returns-in-Ok c =
    found c.args.file.file.bytes.now c.args.c c.grid-g.result c.count.result c.as_chunks.result.0.now c.args.file.works (accepted c.args.file.file.bytes.now c.args.file.file.accepted).room c.grid-g.ensures.value c.count.ensures
    c.as_chunks.ensures.front c.as_chunks.ensures.front_len c.in-Ok.i c.in-Ok.ensures.bound
    (c.in-Ok.ensures.position (cell_in c.grid-g.result) (always_returns_same _ _ _ (λ a r s k. search rules)))

pub returns-in-Err : goal.returns-in-Err
returns-in-Err c =
    missing c.args.file.file.bytes.now c.args.c c.grid-g.result c.count.result c.as_chunks.result.0.now c.args.file.works (accepted c.args.file.file.bytes.now c.args.file.file.accepted).room c.grid-g.ensures.value c.count.ensures
    c.as_chunks.ensures.front c.as_chunks.ensures.front_len c.in-Err.i c.in-Err.ensures.bound
    (c.in-Err.ensures.position (cell_in c.grid-g.result) (always_returns_same _ _ _ (λ a r s k. search rules))
    (rising c.args.file.file.bytes.now c.args.c c.grid-g.result c.count.result c.as_chunks.result.0.now c.args.file.works (accepted c.args.file.file.bytes.now c.args.file.file.accepted).room c.grid-g.ensures.value c.count.ensures
    c.as_chunks.ensures.front c.as_chunks.ensures.front_len))
