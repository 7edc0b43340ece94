-- The next occupied cell, and how many mark words have to be read for it. Definitions only.
use Rattle.std.specs.Prelude.{ℕ, zero, suc, ◌-◌, ◌*◌, ◌/◌, ◌%◌, ◌^◌, cond, List, get_or, eqb, ltb, Option, Some, None}
use Rattle.rym1.specs.File.{groups}

-- cell c's mark in the words: word 2·i has those of cells 32·i to 32·i + 31, the lowest first
unfoldable pub bit_at : List ℕ → ℕ → ℕ
bit_at words c = get_or words (2 * (c / 32)) 0 / 2 ^ (c % 32) % 2

-- the least occupied of k cells from c on, or none, p giving their marks
unfoldable pub least : (ℕ → ℕ) → ℕ → ℕ → Option ℕ
least p c zero = None
least p c (suc k) = cond (eqb (p c) 0) (least p (suc c) k) (Some c)

-- from a first cell up to an end, end excluded
unfoldable pub next : (ℕ → ℕ) → ℕ → ℕ → Option ℕ
next p first end = least p first (end - first)

-- how many mark words have a cell from `first` up to `stop`, stop excluded
unfoldable pub touched : ℕ → ℕ → ℕ
touched first stop = cond (ltb first stop) (groups stop - first / 32) 0

-- up to where cells are looked at: through the one that is found, or else up to the end
unfoldable pub stop_of : Option ℕ → ℕ → ℕ
stop_of None end = end
stop_of (Some c) end = suc c

-- how many mark words the search reads
unfoldable pub words_read : (ℕ → ℕ) → ℕ → ℕ → ℕ
words_read p first end = touched first (stop_of (next p first end) end)
