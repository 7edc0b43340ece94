-- Laws of narrowing a list, one number at a time. Assumes nothing.
use Rattle.std.specs.Prelude.{Option, Some, None}
use Prim.Native.Nat.{ℕ, suc, ◌+◌, ◌<◌}
use mathlib.Core.Path.{◌≡◌, refl, sym, ap, ap₂, ◌∙◌}
use mathlib.Core.Bool.{Bool, true, false, not, ◌&&◌, ◌||◌}
use mathlib.Core.List.{List, [], ◌∷◌, ◌++◌}
use native.Mathlib.Numerals.{add-one}
use native.Mathlib.Omega.{arith}
use lib.ListN.{length, get_or, take, drop, set, length-set}
use lib.Seq.{take-suc, take-set-le, get_or-set_same, drop-cons}
use lib.Ieee.{Float, nan}
use Rattle.float.specs.Narrow.{is_large, float_word, float_words, any_large, Told}
use Rattle.rym1.specs.File.{finite, all_finite}

-- ---- what is written so far

words_snoc : (xs : List Float) (x : Float) → float_words (xs ++ (x ∷ [])) ≡ float_words xs ++ (float_word x ∷ [])
unfolding float_words
words_snoc [] x = refl
words_snoc (y ∷ xs) x = ap (λ (l : List ℕ). float_word y ∷ l) (words_snoc xs x)

-- one more of them stored
pub words_done : (ws : List ℕ) (xs : List Float) (i : ℕ) → i < length xs → i < length ws → take i ws ≡ float_words (take i xs)
    → take (i + 1) (set ws i (float_word (get_or xs i nan))) ≡ float_words (take (i + 1) xs)
words_done ws xs i hx hw e =
    let w = float_word (get_or xs i nan) in
    let long = length-set ws i w in
    rw (add-one i)
    (take-suc (set ws i w) i 0 (omega arith)
    ∙ ap₂ (λ (l : List ℕ) (v : ℕ). l ++ (v ∷ [])) (take-set-le i ws i w (omega arith) ∙ e) (get_or-set_same ws i w 0 hw)
    ∙ sym (words_snoc (take i xs) (get_or xs i nan))
    ∙ ap float_words (sym (take-suc xs i nan hx)))

-- ---- what is left

-- the pattern of a number is finite exactly where the number is not too large
pub word_finite : (x : Float) (r : Option Float) → Told x r → finite (float_word x) ≡ not (is_large r)
unfolding finite
word_finite x r t = t.tells

pub word_large : (x : Float) (r : Option Float) → Told x r → r ≡ None → finite (float_word x) ≡ false
unfolding is_large
word_large x r t e = word_finite x r t ∙ ap (λ (a : Option Float). not (is_large a)) e

pub word_small : (x v : Float) (r : Option Float) → Told x r → r ≡ Some v → finite (float_word x) ≡ true
unfolding is_large
word_small x v r t e = word_finite x r t ∙ ap (λ (a : Option Float). not (is_large a)) e

module _ (xs : List Float) (i : ℕ) (h : i < length xs) (r : Option Float) (t : Told (get_or xs i nan) r) where
  rest : drop i xs ≡ get_or xs i nan ∷ drop (suc i) xs
  rest = drop-cons xs i nan h

  large_from : any_large (drop i xs) ≡ (is_large r || any_large (drop (suc i) xs))
  unfolding any_large
  large_from = ap any_large rest ∙ ap (λ (a : Option Float). is_large a || any_large (drop (suc i) xs)) (sym t.is)

  finite_from : all_finite (float_words (drop i xs)) ≡ (not (is_large r) && all_finite (float_words (drop (suc i) xs)))
  unfolding all_finite float_words
  finite_from = ap (λ (l : List Float). all_finite (float_words l)) rest ∙ ap (λ (b : Bool). b && all_finite (float_words (drop (suc i) xs))) (word_finite _ r t)

  pub large_ends : r ≡ None → (any_large (drop i xs) ≡ true) × (all_finite (float_words (drop i xs)) ≡ false)
  unfolding is_large
  large_ends e = (rw e at large_from, rw e at finite_from)

  pub finite_goes : (v : Float) → r ≡ Some v
      → (any_large (drop i xs) ≡ any_large (drop (i + 1) xs)) × (all_finite (float_words (drop i xs)) ≡ all_finite (float_words (drop (i + 1) xs)))
  unfolding is_large
  finite_goes v e = rw (add-one i) (rw e at large_from, rw e at finite_from)
