-- The journal of edits: 32-bit words. Definitions only.
use Rattle.std.specs.Prelude.{ℕ, suc, ◌+◌, ◌-◌, ◌*◌, ◌/◌, ◌%◌, not, ◌||◌, List, [], ◌∷◌, length, get_or, eqb, ltb}
use Rattle.rym1.specs.Bytes.{splice}
use Rattle.rym1.specs.Causes.{when}

-- ---- word 0: the top two bits, and the entry count e, at most 2^24

unfoldable pub top : ℕ → ℕ
top w = w / 1073741824

unfoldable pub entries : List ℕ → ℕ
entries j = get_or j 0 0 % 1073741824

unfoldable pub most : ℕ
most = 16777216

-- the word at which entry i starts; as many words has a journal of i entries
unfoldable pub entry_at : ℕ → ℕ
entry_at i = 1 + 3 * i

-- 11: empty of words, top bits or e wrong, or 1 + 3e words not there
unfoldable pub journal_cause : List ℕ → ℕ
journal_cause j =
    when
    (eqb (length j) 0 || (not (eqb (top (get_or j 0 0)) 0) || (ltb most (entries j) || ltb (length j) (entry_at (entries j)))))
    11

-- 13: no three words for an entry, or e is 2^24
unfoldable pub push_cause : List ℕ → ℕ
push_cause j = when (ltb (length j) (entry_at (suc (entries j))) || eqb (entries j) most) 13

-- ---- an entry: a head word with kind in its top two bits, bits 24 to 29 zero, cell number below; the two masses that the cell held before

pub record Entry : Type 0 where
  pub kind : ℕ
  pub gap : ℕ
  pub cell : ℕ
  pub cauchy : ℕ
  pub elliptic : ℕ

unfoldable pub entry_of : List ℕ → ℕ → Entry
entry_of j at =
    record {
      kind = top (get_or j at 0) % 4;
      gap = get_or j at 0 / 16777216 % 64;
      cell = get_or j at 0 % 16777216;
      cauchy = get_or j (at + 1) 0;
      elliptic = get_or j (at + 2) 0;
    }

-- the last entry
unfoldable pub last_entry : List ℕ → Entry
last_entry j = entry_of j (entry_at (entries j - 1))

unfoldable pub entry_words : ℕ → ℕ → ℕ → ℕ → List ℕ
entry_words kind c cauchy elliptic = (kind * 1073741824 + c) ∷ cauchy ∷ elliptic ∷ []

-- one entry more; and the last one zeroed and no longer counted
unfoldable pub pushed : List ℕ → List ℕ → List ℕ
pushed j words = splice (splice j (entry_at (entries j)) words) 0 (suc (entries j) ∷ [])

unfoldable pub popped : List ℕ → List ℕ
popped j = splice (splice j (entry_at (entries j - 1)) (0 ∷ 0 ∷ 0 ∷ [])) 0 ((entries j - 1) ∷ [])
