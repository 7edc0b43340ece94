-- The occupied cells of a point file as marks in words with running totals. Definitions only.
use Rattle.std.specs.Prelude.{ℕ, zero, suc, ◌+◌, ◌*◌, ◌<◌, ◌≤◌, ◌≡◌, List, length, get_or}
use Rattle.std.proofs.Math.Option.{Option, none, some}
use Rattle.rym1.specs.File.{grid, cube, groups}
use Rattle.rym1.specs.Cells.{Masses, mass_map}

-- 1 for an occupied cell, else 0
unfoldable pub one : Option Masses → ℕ
one none = 0
one (some m) = 1

unfoldable pub mark : List ℕ → ℕ → ℕ
mark f c = one (mass_map f c)

-- how many of k cells, from cell c on, are occupied, p giving their marks
unfoldable pub tally : (ℕ → ℕ) → ℕ → ℕ → ℕ
tally p c zero = 0
tally p c (suc k) = p c + tally p (suc c) k

-- k marks as one number, cell c's lowest
unfoldable pub mark_word : (ℕ → ℕ) → ℕ → ℕ → ℕ
mark_word p c zero = 0
mark_word p c (suc k) = p c + 2 * mark_word p (suc c) k

-- word 2·i has the marks of cells 32·i to 32·i + 31
pub record Entered (words f : List ℕ) : Type 0 where
  pub room : 2 * groups (cube (grid f)) ≤ length words
  pub marks : (i : ℕ) → i < groups (cube (grid f)) → get_or words (2 * i) 0 ≡ mark_word (mark f) (32 * i) 32

-- and word 2·i + 1 the running total: how many lower cells are occupied
pub record Marked (words f : List ℕ) : Type 0 where
  pub entered : Entered words f
  pub totals : (i : ℕ) → i < groups (cube (grid f)) → get_or words (2 * i + 1) 0 ≡ tally (mark f) 0 (32 * i)
