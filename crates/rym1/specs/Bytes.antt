-- Little-endian numbers in a list of bytes, and the part of a list that a write replaces. Definitions only.
use Rattle.std.specs.Prelude.{ℕ, zero, suc, ◌+◌, ◌*◌, ◌/◌, ◌%◌, List, [], ◌∷◌, ◌++◌, length, get_or, take, drop}

-- what stands in k bytes from `at` on, the lowest first
unfoldable pub word : ℕ → List ℕ → ℕ → ℕ
word zero s at = 0
word (suc k) s at = get_or s at 0 + 256 * word k s (at + 1)

-- a number as k bytes, the lowest first: what does not fit in them is dropped
unfoldable pub le : ℕ → ℕ → List ℕ
le zero n = []
le (suc k) n = n % 256 ∷ le k (n / 256)

-- the three widths of 01: u16, word (u32), and binary64 patterns
abbrev pub word16 : List ℕ → ℕ → ℕ
word16 s at = word 2 s at

abbrev pub word32 : List ℕ → ℕ → ℕ
word32 s at = word 4 s at

abbrev pub word64 : List ℕ → ℕ → ℕ
word64 s at = word 8 s at

abbrev pub le16 : ℕ → List ℕ
le16 n = le 2 n

abbrev pub le32 : ℕ → List ℕ
le32 n = le 4 n

abbrev pub le64 : ℕ → List ℕ
le64 n = le 8 n

-- words on end
unfoldable pub words_bytes : List ℕ → List ℕ
words_bytes [] = []
words_bytes (w ∷ ws) = le32 w ++ words_bytes ws

-- s with `new` in the place of as many elements from `at` on: nothing else changes
unfoldable pub splice : List ℕ → ℕ → List ℕ → List ℕ
splice s at new = take at s ++ (new ++ drop (at + length new) s)
