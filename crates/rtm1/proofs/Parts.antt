-- Bytes that stand somewhere in a list, and the words that are read there. Assumes nothing.
use Prim.Native.Nat.{ℕ, zero, suc, ◌+◌, ◌*◌, ◌%◌, ◌≤◌, ◌<◌}
use mathlib.Core.Path.{◌≡◌, refl, sym, ap, ap₂, ◌∙◌}
use mathlib.Core.List.{List, [], ◌∷◌, ◌++◌, Memᴰ}
use native.Mathlib.Nat.{mod-eq_of_lt}
use native.Mathlib.Omega.{arith}
use lib.ListN.{length, get_or, length-append, get_or-append}
use lib.Seq.{get_or-append-add}
use Rattle.rym1.specs.Bytes.{word, word32, le, words_bytes}
use Rattle.rym1.proofs.Bytes.{length_le, word_same, word_le}
use Rattle.rtm1.specs.Read.{words_at}

-- the bytes b stand in s from `at` on
abbrev pub Part : List ℕ → ℕ → List ℕ → Type 0
Part s at b = (m : ℕ) → m < length b → get_or s (at + m) 0 ≡ get_or b m 0

-- every element is a 32-bit word
abbrev pub AllWords : List ℕ → Type 0
AllWords ws = (w : ℕ) → Memᴰ w ws → w < 4294967296

module _ (s : List ℕ) where
  pub part_left : (a b : List ℕ) (at : ℕ) → Part s at (a ++ b) → Part s at a
  part_left a b at h m l = h m (omega (arith, length-append a b)) ∙ get_or-append a b 0 m l

  pub part_right : (a b : List ℕ) (at k : ℕ) → at + length a ≡ k → Part s at (a ++ b) → Part s k b
  part_right a b at k e h m l =
      let there : k + m ≡ at + (length a + m) = omega arith in
      ap (λ (n : ℕ). get_or s n 0) there ∙ h (length a + m) (omega (arith, length-append a b)) ∙ get_or-append-add a b m 0

  pub part_word : (k : ℕ) (b : List ℕ) (at i : ℕ) → Part s at b → i + k ≤ length b → word k s (at + i) ≡ word k b i
  part_word k b at i h l =
      word_same k s b (at + i) i (λ m n. ap (λ (j : ℕ). get_or s j 0) (assoc at i m) ∙ h (i + m) (omega arith))
    where
      assoc : (a b c : ℕ) → a + b + c ≡ a + (b + c)
      assoc a b c = omega arith

  first_word : (w : ℕ) (ws : List ℕ) (at : ℕ) → Part s at (words_bytes (w ∷ ws)) → word 4 s at ≡ w % 4294967296
  unfolding words_bytes
  first_word w ws at h =
      let e : at + 0 ≡ at = omega arith in
      ap (word 4 s) (sym e)
      ∙ part_word 4 (le 4 w ++ words_bytes ws) at 0 h (omega (arith, length-append (le 4 w) (words_bytes ws), length_le 4 w))
      ∙ word_le 4 w [] (words_bytes ws) 0 refl

  rest_words : (w : ℕ) (ws : List ℕ) (at : ℕ) → Part s at (words_bytes (w ∷ ws)) → Part s (at + 4) (words_bytes ws)
  unfolding words_bytes
  rest_words w ws at h = part_right (le 4 w) (words_bytes ws) at (at + 4) (omega (arith, length_le 4 w)) h

  -- word k of words that stand there
  pub words_word : (ws : List ℕ) (at k : ℕ) → Part s at (words_bytes ws) → k < length ws → word32 s (at + 4 * k) ≡ get_or ws k 0 % 4294967296
  words_word [] at k h l = absurd (omega arith)
  words_word (w ∷ ws) at zero h l =
      let e : at + 4 * 0 ≡ at = omega arith in
      ap (word 4 s) e ∙ first_word w ws at h
  words_word (w ∷ ws) at (suc k) h l =
      let e : at + 4 * suc k ≡ at + 4 + 4 * k = omega arith in
      ap (word 4 s) e ∙ words_word ws (at + 4) k (rest_words w ws at h) (omega arith)

  pub words_word_fits : (ws : List ℕ) (at k : ℕ) → Part s at (words_bytes ws) → k < length ws → get_or ws k 0 < 4294967296 → word32 s (at + 4 * k) ≡ get_or ws k 0
  words_word_fits ws at k h l b = words_word ws at k h l ∙ mod-eq_of_lt b

  -- all of them
  pub words_back : (ws : List ℕ) (at : ℕ) → Part s at (words_bytes ws) → AllWords ws → words_at s at (length ws) ≡ ws
  unfolding words_at
  words_back [] at h b = refl
  words_back (w ∷ ws) at h b =
      ap₂ (λ (v : ℕ) (vs : List ℕ). v ∷ vs)
      (first_word w ws at h ∙ mod-eq_of_lt (b w (Memᴰ.head refl)))
      (words_back ws (at + 4) (rest_words w ws at h) (λ v m. b v (Memᴰ.tail m)))

-- in front of a list
pub part_front : (a b : List ℕ) → Part (a ++ b) 0 a
part_front a b m l = ap (λ (n : ℕ). get_or (a ++ b) n 0) (nought m) ∙ get_or-append a b 0 m l
  where
    nought : (m : ℕ) → 0 + m ≡ m
    nought m = omega arith
