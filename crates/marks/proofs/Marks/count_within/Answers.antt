-- `marks::Marks::count_within` meets its contract: the ones of the word's marks from the cell on, masked; all of them where the mask is full. Assumes nothing.
use native.Mathlib.Omega.{arith}
use Rattle.rym1.specs.File.{grid, cube}
use Rattle.marks.proofs.Index.{group_of, part_ones, part_full, tally_few}
use Rattle.marks.proofs.Marks.count_within.Goals as goal

pub bounds-self-c : goal.bounds-self-c
bounds-self-c c =
    omega (arith, group_of (cube (grid c.args.self.file.bytes.now)) c.args.c c.requires.0, c.args.self.filled.entered.room)

pub returns-then-marks-mask : goal.returns-then-marks-mask
returns-then-marks-mask c =
    let a = c.args in
    (part_full a.self.words.now a.self.file.bytes.now c.args.self.filled.entered a.c a.w c.requires.0 c.requires.1 c.requires.2 c.if-marks-mask.true, omega arith)

pub returns : goal.returns
returns c =
    let a = c.args in
    let is = part_ones a.self.words.now a.self.file.bytes.now c.args.self.filled.entered a.c a.w c.requires.0 c.requires.1 c.requires.2 in
    (is, omega (arith, is, tally_few a.self.file.bytes.now a.c a.w))
