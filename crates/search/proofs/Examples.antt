-- Searches, computed: cells 3, 40 and 64 are occupied. Assumes nothing.
use Prim.Native.Nat.{ℕ}
use mathlib.Core.Path.{◌≡◌, refl}
use Rattle.std.specs.Prelude.{Option, Some, None}
use mathlib.Core.List.{List, [], ◌∷◌}
use Rattle.rym1.specs.File.{groups}
use Rattle.search.specs.Next.{bit_at, least, next, touched, stop_of, words_read}

-- three mark words, each with a total behind it, which is not read
abbrev words : List ℕ
words = 8 ∷ 7 ∷ 256 ∷ 7 ∷ 1 ∷ 7 ∷ []

abbrev at : ℕ → ℕ → Option ℕ
at first end = next (bit_at words) first end

abbrev count : ℕ → ℕ → ℕ
count first end = words_read (bit_at words) first end

found : (at 0 96 ≡ Some 3) × (at 4 96 ≡ Some 40) × (at 40 41 ≡ Some 40) × (at 41 96 ≡ Some 64) × (at 4 40 ≡ None) × (at 41 64 ≡ None) × (at 64 64 ≡ None) × (at 70 64 ≡ None) × (at 4 32 ≡ None) × (at 31 33 ≡ None)
unfolding bit_at next least
found = (refl, refl, refl, refl, refl, refl, refl, refl, refl, refl)

-- in the same order; an end at a word's first cell does not touch that word
read : (count 0 96 ≡ 1) × (count 4 96 ≡ 2) × (count 40 41 ≡ 1) × (count 41 96 ≡ 2) × (count 4 40 ≡ 2) × (count 41 64 ≡ 1) × (count 64 64 ≡ 0) × (count 70 64 ≡ 0) × (count 4 32 ≡ 1) × (count 31 33 ≡ 2)
unfolding bit_at next least words_read touched groups stop_of
read = (refl, refl, refl, refl, refl, refl, refl, refl, refl, refl)
