-- `runs::Rest::worded_run` meets its contract: the cells before the one that the loop is at have no point. Assumes nothing.
use native.Mathlib.Omega.{arith}
use Rattle.runs.proofs.Runs.{grid_few, worded_none, worded_one, passed_first, passed_none, passed_end, passed_run, row_in, row_word}
use Rattle.runs.proofs.Rest.worded_run.Goals as goal

pub cell_number-row-requires-clause-grid_few : goal.cell_number-row-requires-clause-grid_few
cell_number-row-requires-clause-grid_few c = grid_few c.args.self.now.lookup.ready

-- ---- the first cell

pub overflow_add-first : goal.overflow_add-first
overflow_add-first c =
    let a = c.args.self.now in
    record { fits = omega (arith, (row_in a.lookup.ready c.requires.form a.x a.x1 a.y a.z c.cell_number-row.result c.cell_number-row.ensures.0 a.some a.x_in a.y_in a.z_in).2) }

pub bounds-self-row : goal.bounds-self-row
bounds-self-row c =
    let a = c.args.self.now in
    let low = row_in a.lookup.ready c.requires.form a.x a.x1 a.y a.z c.cell_number-row.result c.cell_number-row.ensures.0 a.some a.x_in a.y_in a.z_in in
    omega (arith, low.0, low.1)

pub returns-then-first-ne0 : goal.returns-then-first-ne0
returns-then-first-ne0 c =
    let a = c.args.self.now in
    let s = a.lookup in
    let word = row_word s.ready c.requires.form a.x a.x1 a.y a.z c.cell_number-row.result c.cell_number-row.ensures.0 a.some a.x_in a.y_in a.z_in in
    worded_one s.file.bytes.now s.ready.accepted s.g s.ready.gridded a.x a.x1 a.y a.z a.some a.x_in a.y_in a.z_in _ word c.if-first-ne0.true (omega arith)

-- ---- those behind it

pub loop-x-init : goal.loop-x-init
loop-x-init c =
    let a = c.args.self.now in
    let s = a.lookup in
    let word = row_word s.ready c.requires.form a.x a.x1 a.y a.z c.cell_number-row.result c.cell_number-row.ensures.0 a.some a.x_in a.y_in a.z_in in
    passed_first s.file.bytes.now s.g a.z a.y a.x a.x1 (worded_none s.file.bytes.now s.ready.accepted s.g s.ready.gridded a.x a.x1 a.y a.z a.some a.x_in a.y_in a.z_in _ word c.if-first-ne0.false)

pub overflow_add-word : goal.overflow_add-word
overflow_add-word c =
    let a = c.args.self.now in
    record { fits = omega (arith, (row_in a.lookup.ready c.requires.form c.loop-x.x a.x1 a.y a.z c.cell_number-row.result c.cell_number-row.ensures.0 c.loop-x-test.true a.x_in a.y_in a.z_in).2) }

pub bounds-self-row-in-loop-x : goal.bounds-self-row-in-loop-x
bounds-self-row-in-loop-x c =
    let a = c.args.self.now in
    let low = row_in a.lookup.ready c.requires.form c.loop-x.x a.x1 a.y a.z c.cell_number-row.result c.cell_number-row.ensures.0 c.loop-x-test.true a.x_in a.y_in a.z_in in
    omega (arith, low.0, low.1)

pub loop-x-preserved : goal.loop-x-preserved
loop-x-preserved c =
    let a = c.args.self.now in
    let s = a.lookup in
    let at = c.loop-x.x in
    let word = row_word s.ready c.requires.form at a.x1 a.y a.z c.cell_number-row.result c.cell_number-row.ensures.0 c.loop-x-test.true a.x_in a.y_in a.z_in in
    passed_none s.file.bytes.now s.g a.z a.y a.x a.x1 at c.loop-x.invariant (worded_none s.file.bytes.now s.ready.accepted s.g s.ready.gridded at a.x1 a.y a.z c.loop-x-test.true a.x_in a.y_in a.z_in _ word c.if-word-ne0.false)

pub returns-then-word-ne0 : goal.returns-then-word-ne0
returns-then-word-ne0 c =
    let a = c.args.self.now in
    let s = a.lookup in
    let at = c.loop-x.x in
    let word = row_word s.ready c.requires.form at a.x1 a.y a.z c.cell_number-row.result c.cell_number-row.ensures.0 c.loop-x-test.true a.x_in a.y_in a.z_in in
    passed_run s.file.bytes.now s.g a.z a.y a.x a.x1 at c.loop-x.invariant _ (worded_one s.file.bytes.now s.ready.accepted s.g s.ready.gridded at a.x1 a.y a.z c.loop-x-test.true a.x_in a.y_in a.z_in _ word c.if-word-ne0.true (omega arith))

pub returns : goal.returns
returns c =
    let a = c.args.self.now in
    passed_end a.lookup.file.bytes.now a.lookup.g a.z a.y a.x a.x1 c.loop-x.x c.loop-x.invariant a.some (omega (arith, c.loop-x-test.false))
