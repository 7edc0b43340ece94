-- A search word by word: the digits of a mark word from a cell on, its trailing zeros, and what the loop keeps. Assumes nothing.
use Prim.Native.Nat.{ℕ, zero, suc, ◌+◌, ◌-◌, ◌*◌, ◌/◌, ◌%◌, ◌^◌, ◌≤◌, ◌<◌}
use mathlib.Core.Path.{◌≡◌, refl, sym, ap, ◌∙◌}
use mathlib.Core.Logic.{◌⊎◌, inl, inr, ⊎_elim}
use Rattle.std.specs.Prelude.{Some, None}
use mathlib.Core.List.{List}
use native.Mathlib.Nat.{pow-suc, zero-add, div-one, lt_of_le_of_lt, lt_of_lt_of_le}
use native.Mathlib.Omega.{arith}
use native.Mathlib.Decide.{dec_lt}
use lib.ListN.{get_or}
use lib.Count.{count_trailing_zeros, under}
use lib.Pow.{shr-shr, shr_lt, shr_le, pow_mono, pow_pos}
use Rattle.rym1.specs.File.{grid, cube}
use Rattle.marks.specs.Marks.{mark, Entered}
use Rattle.marks.proofs.Digits.{word_odd}
use Rattle.marks.proofs.Index.{mark_bit, word_from}
use Rattle.search.specs.Next.{bit_at, next, touched, stop_of, words_read}
use Rattle.search.proofs.Least.{Unmarked, LeastMarked, next_some, next_none, next_same, touched_some, touched_none}

-- ---- digits of a word

abbrev digit : ℕ → ℕ → ℕ
digit w j = w / 2 ^ j % 2

digit_up : (w j : ℕ) → digit (w / 2) j ≡ digit w (suc j)
digit_up w j = ap (λ (n : ℕ). n % 2) (shr-shr w 1 j ∙ ap (λ (k : ℕ). w / 2 ^ k) (suc_of j))
  where
    suc_of : (j : ℕ) → 1 + j ≡ suc j
    suc_of j = omega arith

digit_first : (w : ℕ) → digit w 0 ≡ w % 2
digit_first w = ap (λ (n : ℕ). n % 2) (div-one w)

digit_none : (w j : ℕ) → w < 2 ^ j → digit w j ≡ 0
digit_none w j h =
    let low : w / 2 ^ j < 1 = shr_lt 0 j (rw (zero-add j) h) in
    let no : w / 2 ^ j ≡ 0 = omega (arith, low) in
    ap (λ (n : ℕ). n % 2) no

-- t is the lowest digit that is set
record Lowest (w t : ℕ) : Type 0 where
  pub set : digit w t ≡ 1
  pub below : (j : ℕ) → j < t → digit w j ≡ 0

-- trailing zeros lead to it
lowest : (k w : ℕ) → w < 2 ^ k → (w ≡ 0 → ⊥) → Lowest w (count_trailing_zeros k w)
unfolding count_trailing_zeros
lowest zero w h other = absurd (other (omega arith))
lowest (suc k) w h other = go (w % 2) refl (omega arith) (λ z. lowest k (w / 2) (omega (arith, h, pow-suc 2 k)) z)
  where
    go : (b : ℕ) → w % 2 ≡ b → b < 2 → ((w / 2 ≡ 0 → ⊥) → Lowest (w / 2) (count_trailing_zeros k (w / 2))) → Lowest w (under b (count_trailing_zeros k (w / 2)))
    go zero q l ih =
        let m = ih (λ z. other (omega (arith, z, q))) in
        record { set = sym (digit_up w (count_trailing_zeros k (w / 2))) ∙ m.set; below = λ j b. below m j b }
      where
        below : Lowest (w / 2) (count_trailing_zeros k (w / 2)) → (j : ℕ) → j < suc (count_trailing_zeros k (w / 2)) → digit w j ≡ 0
        below m zero b = digit_first w ∙ q
        below m (suc j) b = sym (digit_up w j) ∙ m.below j (omega arith)
    go (suc b) q l ih = record { set = digit_first w ∙ omega (arith, q); below = λ j h. absurd (omega arith) }

-- ---- the marks from a cell on, in its word

-- w is the word of cell c, shifted down to it
module _ (words : List ℕ) (c at below w : ℕ) (there : at ≡ 2 * (c / 32)) (low : below ≡ c % 32) (fits : get_or words at 0 < 2 ^ 32) (is : w ≡ get_or words at 0 / 2 ^ below) where
  cell_digit : (j : ℕ) → below + j < 32 → bit_at words (c + j) ≡ digit w j
  unfolding bit_at
  cell_digit j h =
      let word : 2 * ((c + j) / 32) ≡ at = omega (arith, there, low) in
      let place : (c + j) % 32 ≡ below + j = omega (arith, low) in
      rw (word, place, is) (ap (λ (n : ℕ). n % 2) (sym (shr-shr (get_or words at 0) below j)))

  -- 0: none up to the word's end
  pub none_in_word : w ≡ 0 → Unmarked (bit_at words) c (c + (32 - below))
  none_in_word z i l h =
      let place : c + (i - c) ≡ i = omega arith in
      let free : digit w (i - c) ≡ 0 = ap (λ (n : ℕ). digit n (i - c)) z ∙ digit_none 0 (i - c) (pow_pos (i - c)) in
      rw place at (cell_digit (i - c) (omega arith) ∙ free)

  -- any other: the first is behind its trailing zeros
  pub first_in_word : (w ≡ 0 → ⊥) → LeastMarked (bit_at words) c (c + (32 - below)) (c + count_trailing_zeros 32 w)
  first_in_word other =
      record {
        marked = λ z. absurd (omega (arith, sym (cell_digit t (omega (arith, few_zeros))) ∙ z, m.set));
        from = omega arith;
        before = omega (arith, few_zeros);
        lower = λ i l h. lower i l h;
      }
    where
      t : ℕ
      t = count_trailing_zeros 32 w

      few : w < 2 ^ (32 - below)
      few =
          let part : (32 - below) + below ≡ 32 = omega (arith, low) in
          rw is (shr_lt (32 - below) below (rw part fits))

      m : Lowest w t
      m = lowest 32 w (rw is (lt_of_le_of_lt (shr_le (get_or words at 0) below) fits)) other

      few_zeros : t < 32 - below
      few_zeros = elim (dec_lt t (32 - below)) [
        | yes l ↦ l
        | no l ↦ absurd (omega (arith, m.set, digit_none w t (lt_of_lt_of_le few (pow_mono (omega arith)))))
      ]

      lower : (i : ℕ) → c ≤ i → i < c + t → bit_at words i ≡ 0
      lower i l h =
          let place : c + (i - c) ≡ i = omega arith in
          rw place at (cell_digit (i - c) (omega (arith, few_zeros)) ∙ m.below (i - c) (omega arith))

-- ---- the words of a file

pub bit_mark : (words f : List ℕ) → Entered words f → (c : ℕ) → c < cube (grid f) → bit_at words c ≡ mark f c
unfolding bit_at
bit_mark words f d c low =
    let more : 32 - c % 32 ≡ suc (31 - c % 32) = omega arith in
    rw (word_from words f d c low, more) (word_odd (mark f) (mark_bit f) c (31 - c % 32))

-- the search in them finds the file's next occupied cell
pub file_next : (words f : List ℕ) → Entered words f → (first end : ℕ) → end ≤ cube (grid f) → next (bit_at words) first end ≡ next (mark f) first end
file_next words f d first end low = next_same (bit_at words) (mark f) first end (λ c h. bit_mark words f d c (omega arith))

-- ---- the loop

-- no cell from `first` up to c is marked, where a word starts unless it is the first cell
pub record Searching (p : ℕ → ℕ) (first end c n : ℕ) : Type 0 where
  pub from : first ≤ c
  pub none_yet : Unmarked p first c
  pub counted : n ≡ touched first c
  pub aligned : (c ≡ first) ⊎ ((c % 32 ≡ 0) × (c < end + 32) × (first < end) × (first < c))

module _ (p : ℕ → ℕ) (first end : ℕ) where
  pub search_start : Searching p first end first 0
  search_start =
      record {
        from = omega arith;
        none_yet = λ i l h. absurd (omega arith);
        counted = sym (touched_none first first (omega arith));
        aligned = inl refl;
      }

  module _ (c n : ℕ) (s : Searching p first end c n) where
    -- one word more, up to a cell of it
    read_more : (r : ℕ) → c ≤ r → r / 32 ≡ c / 32 → n + 1 ≡ touched first (suc r)
    read_more r low same =
        ⊎_elim
        (λ e. omega (arith, s.counted, e, touched_none first c (omega arith), touched_some first (suc r) (omega arith)))
        (λ e. omega (arith, s.counted, e.0, e.3, touched_some first c e.3, touched_some first (suc r) (omega (arith, e.3))))
        s.aligned

    both : (r : ℕ) → Unmarked p c r → Unmarked p first r
    both r free i l h = elim (dec_lt i c) [
      | yes b ↦ s.none_yet i l b
      | no b ↦ free i (omega arith) h
    ]

    module _ (below : ℕ) (place : below ≡ c % 32) (low : c < end) where
      -- a mark is found before the end
      pub search_hit : (r : ℕ) → LeastMarked p c (c + (32 - below)) r → r < end → (Some r ≡ next p first end) × (n + 1 ≡ words_read p first end)
      search_hit r m h = (sym is, unfold words_read in rw is (unfold stop_of in read_more r m.from (omega (arith, place, m.from, m.before))))
        where
          is : next p first end ≡ Some r
          is = (next_some p first end r).1 (record { marked = m.marked; from = omega (arith, s.from, m.from); before = h; lower = both r m.lower })

      -- the word's first mark stands at the end or behind it
      pub search_out : (r : ℕ) → LeastMarked p c (c + (32 - below)) r → end ≤ r → (None ≡ next p first end) × (n + 1 ≡ words_read p first end)
      search_out r m h = (sym is, unfold words_read in rw is (unfold stop_of in rw last at (read_more (end - 1) (omega arith) (omega (arith, place, m.before)))))
        where
          is : next p first end ≡ None
          is = (next_none p first end).1 (both end (λ i l b. m.lower i l (omega arith)))

          last : suc (end - 1) ≡ end
          last = omega arith

      -- the word has none
      pub search_on : Unmarked p c (c + (32 - below)) → Searching p first end (c + (32 - below)) (n + 1)
      search_on free =
          let c' = c + (32 - below) in
          let last : suc (c' - 1) ≡ c' = omega (arith, place) in
          record {
            from = omega (arith, s.from);
            none_yet = both c' free;
            counted = rw last at (read_more (c' - 1) (omega (arith, place)) (omega (arith, place)));
            aligned = inr (omega (arith, place), omega arith, omega (arith, s.from), omega (arith, place, s.from));
          }

    pub search_end : end ≤ c → (None ≡ next p first end) × (n ≡ words_read p first end)
    search_end h = (sym is, unfold words_read in rw is (unfold stop_of in counts))
      where
        is : next p first end ≡ None
        is = (next_none p first end).1 (λ i l b. s.none_yet i l (omega arith))

        counts : n ≡ touched first end
        counts =
            ⊎_elim
            (λ e. omega (arith, s.counted, e, touched_none first c (omega arith), touched_none first end (omega arith)))
            (λ e. omega (arith, s.counted, e.0, e.1, touched_some first c e.3, touched_some first end e.2))
            s.aligned
