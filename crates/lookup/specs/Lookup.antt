-- The lookup of a point file as lent words. Definitions only.
use Rattle.std.specs.Prelude.{ℕ, suc, ◌≤◌, ◌<◌, ◌≡◌, List, length, get_or}
use Rattle.rym1.specs.File.{grid, cube}
use Rattle.rym1.specs.Cells.{Slot, vacant, held, look}

-- a slot as a word: 0, or one more than its point's index
unfoldable pub slot_word : Slot → ℕ
slot_word vacant = 0
slot_word (held i m) = suc i

-- the first words hold what the file says of each cell
pub record Looked (words f : List ℕ) : Type 0 where
  pub room : cube (grid f) ≤ length words
  pub each : (c : ℕ) → c < cube (grid f) → get_or words c 0 ≡ slot_word (look f c)
