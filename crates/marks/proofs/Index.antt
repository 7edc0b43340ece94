-- The index of a cell by marks: the total before its word plus the ones below it in the word. For a file in working form it is the lookup's. Assumes nothing.
use Prim.Native.Nat.{ℕ, zero, suc, ◌+◌, ◌-◌, ◌*◌, ◌/◌, ◌%◌, ◌^◌, ◌≤◌, ◌<◌}
use mathlib.Core.Path.{◌≡◌, refl, sym, ap, ◌∙◌}
use mathlib.Core.Option.{Option, none, some}
use mathlib.Core.List.{List}
use native.Mathlib.Nat.{zero-add, sub-zero, one-mul, pow-suc}
use native.Mathlib.Omega.{arith}
use lib.ListN.{length, get_or}
use lib.Bits.{bit_and}
use lib.Pow.{shl_exact, pow_pos}
use lib.Count.{ones, ones-ones}
use Rattle.rym1.specs.File.{grid, cube, file_cause, work_cause, groups}
use Rattle.rym1.specs.Cells.{Masses, look, look_from, mass_map, at_cell, records_from, records}
use Rattle.rym1.specs.Open.{occupied_of}
use Rattle.rym1.proofs.Cells.{slot_at, look_records}
use Rattle.rym1.proofs.Opened.{working_points}
use Rattle.marks.specs.Marks.{one, mark, tally, mark_word, Entered, Marked}
use Rattle.marks.proofs.Digits.{word_high, ones_masked, tally_more}

pub mark_bit : (f : List ℕ) (c : ℕ) → mark f c < 2
unfolding mark one
mark_bit f c = go (mass_map f c)
  where
    go : (o : Option Masses) → one o < 2
    go none = omega arith
    go (some m) = omega arith

-- occupied cells are the records of the file's map
pub tally_records : (f : List ℕ) (c k : ℕ) → tally (mark f) c k ≡ length (records_from (grid f) (mass_map f) c k)
unfolding tally records_from
tally_records f c zero = refl
tally_records f c (suc k) = rw (tally_records f (suc c) k) (go (mass_map f c) refl)
  where
    go : (o : Option Masses) → mass_map f c ≡ o → mark f c + length (records_from (grid f) (mass_map f) (suc c) k) ≡ length (at_cell (grid f) c (mass_map f c) (records_from (grid f) (mass_map f) (suc c) k))
    go none e = unfold mark one at_cell in rw e (zero-add _)
    go (some m) e = unfold mark one at_cell in rw e (omega arith)

-- the lookup's index counts the lower marks
pub look_marked : (f : List ℕ) → file_cause f ≡ 0 → work_cause f ≡ 0 → (c : ℕ) → c < cube (grid f) → look f c ≡ slot_at (tally (mark f) 0 c) (mass_map f c)
look_marked f ok works c low =
    let g = grid f in
    let m = mass_map f in
    let all : look f c ≡ look_from g 0 (records_from g m 0 (cube g)) c = unfold look in ap (λ ps. look_from g 0 ps c) (sym (working_points f ok works) ∙ (unfold occupied_of records in refl)) in
    all ∙ look_records g 0 m 0 (cube g) c (omega arith) (rw (zero-add (cube g)) low)
    ∙ ap (λ (n : ℕ). slot_at n (m c)) (zero-add _ ∙ ap (λ (k : ℕ). length (records_from g m 0 k)) (sub-zero c) ∙ sym (tally_records f 0 c))

-- the total before the word, and the ones below the cell in it
pub index_is : (words f : List ℕ) → Marked words f → (c : ℕ) → c / 32 < groups (cube (grid f))
    → get_or words (2 * (c / 32) + 1) 0 + ones (bit_and (get_or words (2 * (c / 32)) 0) (2 ^ (c % 32) - 1)) ≡ tally (mark f) 0 c
index_is words f d c low =
    let k = c / 32 in
    let j = c % 32 in
    let whole : 32 * k + j ≡ c = omega arith in
    let part : j + (32 - j) ≡ 32 = omega arith in
    let below : ones (bit_and (mark_word (mark f) (32 * k) 32) (2 ^ j - 1)) ≡ tally (mark f) (32 * k) j =
    rw part at (ones_masked (mark f) (mark_bit f) (32 * k) j (32 - j)) in
    rw (d.totals k low, d.entered.marks k low, below)
    (sym (rw (zero-add (32 * k)) at (tally_more (mark f) 0 (32 * k) j)) ∙ ap (tally (mark f) 0) whole)

-- ---- as the code has it

pub group_of : (n c : ℕ) → c < n → c / 32 < groups n
unfolding groups
group_of n c h = omega arith

-- a mask of j ones, made by a shift
pub shifted : (j : ℕ) → j < 32 → 1 * 2 ^ j % 4294967296 ≡ 2 ^ j
shifted j h = shl_exact {a = 1} 1 j 32 (omega arith) (omega arith) ∙ one-mul (2 ^ j)

pub index_code : (words f : List ℕ) → Marked words f → (c : ℕ) → c < cube (grid f)
    → get_or words (2 * (c / 32) + 1) 0 + ones (bit_and (get_or words (2 * (c / 32)) 0) (1 * 2 ^ (c % 32) % 4294967296 - 1)) ≡ tally (mark f) 0 c
index_code words f d c low = rw (shifted (c % 32) (omega arith)) (index_is words f d c (group_of (cube (grid f)) c low))

pub tally_few : (f : List ℕ) (c k : ℕ) → tally (mark f) c k ≤ k
unfolding tally
tally_few f c zero = omega arith
tally_few f c (suc k) = omega (arith, mark_bit f c, tally_few f (suc c) k)

-- ---- the marks from a cell on, in its word

-- the word, shifted down to the cell
pub word_from : (words f : List ℕ) → Entered words f → (c : ℕ) → c < cube (grid f) → get_or words (2 * (c / 32)) 0 / 2 ^ (c % 32) ≡ mark_word (mark f) c (32 - c % 32)
word_from words f d c low =
    let k = c / 32 in
    let j = c % 32 in
    let whole : 32 * k + j ≡ c = omega arith in
    let part : j + (32 - j) ≡ 32 = omega arith in
    ap (λ (n : ℕ). n / 2 ^ j) (d.marks k (group_of (cube (grid f)) c low)) ∙ rw (part, whole) at (word_high (mark f) (mark_bit f) (32 * k) j (32 - j))

-- w of them
pub ones_part : (words f : List ℕ) → Entered words f → (c w : ℕ) → c < cube (grid f) → c % 32 + w ≤ 32
    → ones (bit_and (get_or words (2 * (c / 32)) 0 / 2 ^ (c % 32)) (2 ^ w - 1)) ≡ tally (mark f) c w
ones_part words f d c w low fits =
    let rest : w + (32 - c % 32 - w) ≡ 32 - c % 32 = omega arith in
    rw (word_from words f d c low) (rw rest at (ones_masked (mark f) (mark_bit f) c w (32 - c % 32 - w)))

-- their mask as the code has it: w ones
pub mask_is : (w : ℕ) → 0 < w → w ≤ 32 → 2 * (1 * 2 ^ (w - 1) % 4294967296 - 1) + 1 ≡ 2 ^ w - 1
mask_is w pos few =
    let up : suc (w - 1) ≡ w = omega arith in
    rw (shifted (w - 1) (omega arith)) (twice (w - 1) ∙ ap (λ (k : ℕ). 2 ^ k - 1) up)
  where
    twice : (j : ℕ) → 2 * (2 ^ j - 1) + 1 ≡ 2 ^ suc j - 1
    twice j = rw (pow-suc 2 j) (omega (arith, pow_pos j))

module _ (words f : List ℕ) (d : Entered words f) (c w : ℕ) (low : c < cube (grid f)) (pos : 0 < w) (fits : c % 32 + w ≤ 32) where
  abbrev mask : ℕ
  mask = 2 * (1 * 2 ^ (w - 1) % 4294967296 - 1) + 1

  abbrev marks : ℕ
  marks = bit_and (get_or words (2 * (c / 32)) 0 / 2 ^ (c % 32)) mask

  pub part_ones : ones marks ≡ tally (mark f) c w
  part_ones = rw (mask_is w pos (omega arith)) (ones_part words f d c w low fits)

  -- all of them are set
  pub part_full : marks ≡ mask → w ≡ tally (mark f) c w
  part_full e = sym (ones-ones w) ∙ ap ones (sym (mask_is w pos (omega arith))) ∙ ap ones (sym e) ∙ part_ones

-- across words: the total before the last one, and the marks in it up to the last cell
pub across : (p : ℕ → ℕ) (c w last : ℕ) → 0 < w → last ≡ c + (w - 1) → tally p 0 (32 * (last / 32)) + tally p (last - last % 32) (last % 32 + 1) ≡ tally p 0 c + tally p c w
across p c w last pos e =
    let k = last % 32 in
    let start : last - k ≡ 32 * (last / 32) = omega arith in
    let end : 32 * (last / 32) + (k + 1) ≡ c + w = omega arith in
    rw start (sym (rw (zero-add (32 * (last / 32))) at (tally_more p 0 (32 * (last / 32)) (k + 1))) ∙ ap (tally p 0) end ∙ rw (zero-add c) at (tally_more p 0 c w))
