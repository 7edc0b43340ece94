-- Lists of entries, as little-endian bytes: when all of them are within bounds, and when a list is not. Definitions only.
use Rattle.std.specs.Prelude.{ℕ, zero, suc, ◌+◌, ◌/◌, ◌%◌, Bool, true, not, ◌&&◌, ◌||◌, List, length, eqb, ltb}

-- of n entries on end, size bytes each, from byte `at` on; good: of the entry at a byte
unfoldable pub all_good : ℕ → (ℕ → Bool) → ℕ → ℕ → Bool
all_good size good at zero = true
all_good size good at (suc n) = good at && all_good size good (at + size) n

-- a list that ends inside an entry, has more than `most` bytes or has an entry outside its bounds
unfoldable pub list_wrong : ℕ → ℕ → (ℕ → Bool) → List ℕ → Bool
list_wrong size most good s = not (eqb (length s % size) 0) || (ltb most (length s) || not (all_good size good 0 (length s / size)))
