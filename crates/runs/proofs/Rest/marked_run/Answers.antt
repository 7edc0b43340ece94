-- `runs::Rest::marked_run` meets its contract. Assumes nothing.
use Prim.Native.Nat.{◌+◌, ◌-◌, ◌≤◌}
use native.Mathlib.Omega.{arith}
use Rattle.rym1.specs.File.{grid, cube, groups}
use Rattle.rym1.proofs.Accepted.{accepted}
use Rattle.rym1.proofs.Cells.{cube_few}
use Rattle.runs.proofs.Runs.{marks_held, row_fits, miss_is, marked_row, marked_none}
use Rattle.runs.proofs.Rest.marked_run.Goals as goal

pub cell_number-c-requires : goal.cell_number-c-requires
cell_number-c-requires c =
    record { grid_few = rw c.args.self.now.lookup.ready.gridded (accepted _ c.args.self.now.lookup.ready.accepted).grid_few; inside = record { x_low = omega (arith, c.args.self.now.some, c.args.self.now.x_in); y_low = c.args.self.now.y_in; z_low = c.args.self.now.z_in } }

pub overflow_add-c : goal.overflow_add-c
overflow_add-c c =
    let row : c.cell_number-c.result + (c.args.self.now.x1 - c.args.self.now.x) ≤ cube (grid c.args.self.now.lookup.file.bytes.now) = let a = c.args in let n = c.cell_number-c in row_fits a.self.now.lookup.file.bytes.now a.self.now.lookup.g a.self.now.x a.self.now.x1 a.self.now.y a.self.now.z n.result c.args.self.now.lookup.ready.gridded n.ensures.0 c.args.self.now.some c.args.self.now.x_in c.args.self.now.y_in c.args.self.now.z_in in
    let few : cube (grid c.args.self.now.lookup.file.bytes.now) ≤ 16777216 = cube_few (grid c.args.self.now.lookup.file.bytes.now) (accepted _ c.args.self.now.lookup.ready.accepted).grid_few in
    record { fits = omega (arith, row, few) }

pub next-requires : goal.next-requires
unfolding groups
next-requires c =
    let row : c.cell_number-c.result + (c.args.self.now.x1 - c.args.self.now.x) ≤ cube (grid c.args.self.now.lookup.file.bytes.now) = let a = c.args in let n = c.cell_number-c in row_fits a.self.now.lookup.file.bytes.now a.self.now.lookup.g a.self.now.x a.self.now.x1 a.self.now.y a.self.now.z n.result c.args.self.now.lookup.ready.gridded n.ensures.0 c.args.self.now.some c.args.self.now.x_in c.args.self.now.y_in c.args.self.now.z_in in
    let few : cube (grid c.args.self.now.lookup.file.bytes.now) ≤ 16777216 = cube_few (grid c.args.self.now.lookup.file.bytes.now) (accepted _ c.args.self.now.lookup.ready.accepted).grid_few in
    (omega (arith, row, few), omega (arith, row, (marks_held c.args.self.now.lookup.ready c.requires.form).1.entered.room))

pub returns-in_default : goal.returns-in_default
returns-in_default c =
    let row : c.cell_number-c.result + (c.args.self.now.x1 - c.args.self.now.x) ≤ cube (grid c.args.self.now.lookup.file.bytes.now) = let a = c.args in let n = c.cell_number-c in row_fits a.self.now.lookup.file.bytes.now a.self.now.lookup.g a.self.now.x a.self.now.x1 a.self.now.y a.self.now.z n.result c.args.self.now.lookup.ready.gridded n.ensures.0 c.args.self.now.some c.args.self.now.x_in c.args.self.now.y_in c.args.self.now.z_in in
    let a = c.args in
    let n = c.cell_number-c in
    let r = c.next in
    marked_none a.self.now.lookup.file.bytes.now c.args.self.now.lookup.ready.accepted (marks_held c.args.self.now.lookup.ready c.requires.form).0 a.self.now.lookup.g c.args.self.now.lookup.ready.gridded a.self.now.x a.self.now.x1 a.self.now.y a.self.now.z c.args.self.now.some c.args.self.now.x_in c.args.self.now.y_in c.args.self.now.z_in n.result n.ensures.0
    (miss_is a.self.now.lookup.words.now a.self.now.lookup.file.bytes.now (marks_held c.args.self.now.lookup.ready c.requires.form).1.entered n.result (n.result + (a.self.now.x1 - a.self.now.x)) row r.result.cell r.ensures.0 c.in_default.is)

pub invariant_of-held : goal.invariant_of-held
invariant_of-held c = record { filled = (marks_held c.args.self.now.lookup.ready c.requires.form).1 }

pub index_of-index-requires : goal.index_of-index-requires
index_of-index-requires c =
    let row : c.cell_number-c.result + (c.args.self.now.x1 - c.args.self.now.x) ≤ cube (grid c.args.self.now.lookup.file.bytes.now) = let a = c.args in let n = c.cell_number-c in row_fits a.self.now.lookup.file.bytes.now a.self.now.lookup.g a.self.now.x a.self.now.x1 a.self.now.y a.self.now.z n.result c.args.self.now.lookup.ready.gridded n.ensures.0 c.args.self.now.some c.args.self.now.x_in c.args.self.now.y_in c.args.self.now.z_in in
    omega (arith, c.args.self.now.some, row)

pub count_of-count-requires : goal.count_of-count-requires
count_of-count-requires c =
    let row : c.cell_number-c.result + (c.args.self.now.x1 - c.args.self.now.x) ≤ cube (grid c.args.self.now.lookup.file.bytes.now) = let a = c.args in let n = c.cell_number-c in row_fits a.self.now.lookup.file.bytes.now a.self.now.lookup.g a.self.now.x a.self.now.x1 a.self.now.y a.self.now.z n.result c.args.self.now.lookup.ready.gridded n.ensures.0 c.args.self.now.some c.args.self.now.x_in c.args.self.now.y_in c.args.self.now.z_in in
    (omega (arith, c.args.self.now.some), row, c.index_of-index.ensures.0)

pub returns : goal.returns
returns c =
    let a = c.args in
    let n = c.cell_number-c in
    marked_row a.self.now.lookup.file.bytes.now c.args.self.now.lookup.ready.accepted (marks_held c.args.self.now.lookup.ready c.requires.form).0 a.self.now.lookup.g c.args.self.now.lookup.ready.gridded a.self.now.x a.self.now.x1 a.self.now.y a.self.now.z c.args.self.now.some c.args.self.now.x_in c.args.self.now.y_in c.args.self.now.z_in
    n.result _ _ n.ensures.0 c.index_of-index.ensures.0 c.count_of-count.ensures
