-- `marks::Marks::index_of` meets its contract. Assumes nothing.
use native.Mathlib.Omega.{arith}
use Rattle.rym1.specs.File.{grid, cube}
use Rattle.rym1.proofs.Accepted.{accepted}
use Rattle.rym1.proofs.Cells.{cube_few}
use Rattle.marks.proofs.Index.{group_of, index_code, tally_few}
use Rattle.marks.proofs.Marks.index_of.Goals as goal

pub bounds-self-at : goal.bounds-self-at
bounds-self-at c =
    omega (arith, group_of (cube (grid c.args.self.file.bytes.now)) c.args.c c.requires, c.args.self.filled.entered.room)

pub bounds-self-at-2 : goal.bounds-self-at-2
bounds-self-at-2 c =
    omega (arith, group_of (cube (grid c.args.self.file.bytes.now)) c.args.c c.requires, c.args.self.filled.entered.room)

pub overflow_add-result-2 : goal.overflow_add-result-2
overflow_add-result-2 c =
    let f = c.args.self.file.bytes.now in
    let is = index_code c.args.self.words.now f c.args.self.filled c.args.c c.requires in
    record { fits = omega (arith, is, tally_few f 0 c.args.c, c.requires, cube_few (grid f) (accepted f c.args.self.file.accepted).grid_few) }

pub returns : goal.returns
returns c =
    let f = c.args.self.file.bytes.now in
    let is = index_code c.args.self.words.now f c.args.self.filled c.args.c c.requires in
    (is, omega (arith, is, tally_few f 0 c.args.c))
