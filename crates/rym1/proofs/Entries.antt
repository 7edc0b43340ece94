-- Laws of the journal's words: what an entry that was pushed reads as, and what is left when it is popped. Assumes nothing.
use Prim.Native.Nat.{ℕ, suc, ◌+◌, ◌-◌, ◌*◌, ◌/◌, ◌%◌, ◌≤◌, ◌<◌}
use mathlib.Core.Path.{◌≡◌, refl, sym, ◌∙◌}
use mathlib.Core.List.{List, [], ◌∷◌, ◌++◌, append_assoc}
use native.Mathlib.Omega.{arith}
use lib.ListN.{length, get_or, length-append}
use lib.Seq.{get_or-append-add}
use borrow.Author.Tests.{le-ltb, eq-eqb, ne_eqb}
use Rattle.rym1.specs.Bytes.{splice}
use Rattle.rym1.specs.Causes.{when}
use Rattle.rym1.specs.Journal.{top, entries, most, entry_at, journal_cause, entry_of, last_entry, entry_words, pushed, popped}
use Rattle.rym1.proofs.Changes.{splice_at}

-- ---- e, then the words of e entries, then a rest

module _ (n : ℕ) (few : n ≤ 16777216) where
  pub entries_is : (t : List ℕ) → entries (n ∷ t) ≡ n
  unfolding entries
  entries_is t = omega arith

  module _ (W : List ℕ) (long : length W ≡ 3 * n) where
    pub journal_fine : (rest : List ℕ) → journal_cause (n ∷ (W ++ rest)) ≡ 0
    unfolding journal_cause entry_at most top when
    journal_fine rest =
        let no_top : n / 1073741824 ≡ 0 = omega arith in
        rw (
          ne_eqb (length (n ∷ (W ++ rest))) 0 (λ e. omega arith),
          entries_is (W ++ rest),
          eq-eqb (n / 1073741824) 0 no_top,
          le-ltb 16777216 n few,
          le-ltb (suc (length (W ++ rest))) (1 + 3 * n) (omega (arith, length-append W rest)),
        )

    -- three words in the place of three
    pub pushed_is : (gap ws rest : List ℕ) → length gap ≡ 3 → length ws ≡ 3 → pushed (n ∷ (W ++ (gap ++ rest))) ws ≡ suc n ∷ ((W ++ ws) ++ rest)
    unfolding pushed entry_at splice
    pushed_is gap ws rest lg lw =
        rw (entries_is (W ++ (gap ++ rest)), splice_at (n ∷ W) gap ws rest (1 + 3 * n) (omega arith) (lw ∙ sym lg), append_assoc W ws rest)

-- the last of them
module _ (n : ℕ) (few : suc n ≤ 16777216) (W : List ℕ) (long : length W ≡ 3 * n) where
  pub popped_is : (ws rest : List ℕ) → length ws ≡ 3 → popped (suc n ∷ ((W ++ ws) ++ rest)) ≡ n ∷ (W ++ (0 ∷ 0 ∷ 0 ∷ rest))
  unfolding popped entry_at splice
  popped_is ws rest lw =
      let less : suc n - 1 ≡ n = omega arith in
      rw (
        entries_is (suc n) few ((W ++ ws) ++ rest),
        less,
        append_assoc W ws rest,
        splice_at (suc n ∷ W) ws (0 ∷ 0 ∷ 0 ∷ []) rest (1 + 3 * n) (omega arith) (sym lw),
      )

  word_last : (ws rest : List ℕ) (k at : ℕ) → at ≡ 1 + 3 * n + k → get_or (suc n ∷ ((W ++ ws) ++ rest)) at 0 ≡ get_or (ws ++ rest) k 0
  word_last ws rest k at e =
      let there : at ≡ length (suc n ∷ W) + k = omega arith in
      rw (append_assoc W ws rest, there) (get_or-append-add (suc n ∷ W) (ws ++ rest) k 0)

  pub last_is : (kind c a b : ℕ) (rest : List ℕ) → kind < 4 → c < 16777216
      → last_entry (suc n ∷ ((W ++ entry_words kind c a b) ++ rest)) ≡ record { kind = kind; gap = 0; cell = c; cauchy = a; elliptic = b }
  unfolding last_entry entry_of entry_at top entry_words
  last_is kind c a b rest hk hc =
      let less : suc n - 1 ≡ n = omega arith in
      let ws : List ℕ = (kind * 1073741824 + c) ∷ a ∷ b ∷ [] in
      let w0 : get_or (suc n ∷ ((W ++ ws) ++ rest)) (1 + 3 * n) 0 ≡ kind * 1073741824 + c = word_last ws rest 0 (1 + 3 * n) (omega arith) in
      let w1 : get_or (suc n ∷ ((W ++ ws) ++ rest)) (1 + 3 * n + 1) 0 ≡ a = word_last ws rest 1 (1 + 3 * n + 1) refl in
      let w2 : get_or (suc n ∷ ((W ++ ws) ++ rest)) (1 + 3 * n + 2) 0 ≡ b = word_last ws rest 2 (1 + 3 * n + 2) refl in
      let h0 : (kind * 1073741824 + c) / 1073741824 % 4 ≡ kind = omega arith in
      let h1 : (kind * 1073741824 + c) / 16777216 % 64 ≡ 0 = omega arith in
      let h2 : (kind * 1073741824 + c) % 16777216 ≡ c = omega arith in
      rw (entries_is (suc n) few ((W ++ ws) ++ rest), less, w0, w1, w2, h0, h1, h2)
