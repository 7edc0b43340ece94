-- `marks::Marks::count_of` meets its contract: within one word, or the total before the last word and its marks, less the index. Assumes nothing.
use Prim.Native.Nat.{ℕ, ◌+◌, ◌-◌, ◌*◌, ◌/◌, ◌<◌, ◌≤◌, ◌%◌}
use mathlib.Core.Path.{◌≡◌, refl}
use mathlib.Core.List.{List}
use native.Mathlib.Omega.{arith}
use lib.ListN.{get_or}
use Rattle.rym1.specs.File.{grid, cube, file_cause}
use Rattle.rym1.proofs.Accepted.{accepted}
use Rattle.rym1.proofs.Cells.{cube_few}
use Rattle.marks.specs.Marks.{mark, tally, Marked}
use Rattle.marks.proofs.Index.{group_of, across, tally_few}
use Rattle.marks.proofs.Marks.count_of.Goals as goal

through : (words f : List ℕ) → Marked words f → (c w n : ℕ) → 0 < w → c + w ≤ cube (grid f)
    → n ≡ tally (mark f) (c + (w - 1) - (c + (w - 1)) % 32) ((c + (w - 1)) % 32 + 1)
    → get_or words (2 * ((c + (w - 1)) / 32) + 1) 0 + n ≡ tally (mark f) 0 c + tally (mark f) c w
through words f d c w n pos fits en =
    rw (d.totals ((c + (w - 1)) / 32) (group_of (cube (grid f)) (c + (w - 1)) (omega arith)), en) (across (mark f) c w (c + (w - 1)) pos refl)

few : (f : List ℕ) → file_cause f ≡ 0 → cube (grid f) ≤ 16777216
few f ok = cube_few (grid f) (accepted f ok).grid_few

pub overflow_add-c : goal.overflow_add-c
overflow_add-c c = let h = few c.args.self.file.bytes.now c.args.self.file.accepted in record { fits = omega (arith, h) }

pub overflow_add-last : goal.overflow_add-last
overflow_add-last c = let h = few c.args.self.file.bytes.now c.args.self.file.accepted in record { fits = omega (arith, h) }

pub bounds-self-last : goal.bounds-self-last
bounds-self-last c =
    omega (arith, group_of (cube (grid c.args.self.file.bytes.now)) (c.args.c + (c.args.w - 1)) (omega arith), c.args.self.filled.entered.room)

pub overflow_add-result : goal.overflow_add-result
overflow_add-result c =
    let f = c.args.self.file.bytes.now in
    let sum = through c.args.self.words.now f c.args.self.filled c.args.c c.args.w c.count_within-2.result c.requires.0 c.requires.1 c.count_within-2.ensures.0 in
    record { fits = omega (arith, sum, tally_few f 0 c.args.c, tally_few f c.args.c c.args.w, few f c.args.self.file.accepted) }

pub overflow_sub-result : goal.overflow_sub-result
overflow_sub-result c =
    let sum = through c.args.self.words.now c.args.self.file.bytes.now c.args.self.filled c.args.c c.args.w c.count_within-2.result c.requires.0 c.requires.1 c.count_within-2.ensures.0 in
    omega (arith, sum, c.requires.2)

pub returns : goal.returns
returns c =
    let sum = through c.args.self.words.now c.args.self.file.bytes.now c.args.self.filled c.args.c c.args.w c.count_within-2.result c.requires.0 c.requires.1 c.count_within-2.ensures.0 in
    omega (arith, sum, c.requires.2)
