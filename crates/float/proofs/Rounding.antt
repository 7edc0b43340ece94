-- Rounding to nearest, on plain numbers: what `closest` gives is the standard's nearest number (`Nearest`), and facts about q and k that the rule asks. Nothing here is about a format. Assumes nothing.
use mathlib.Core.Path.{◌≡◌, refl, sym, ap, ◌∙◌, subst}
use mathlib.Core.Logic.{◌⊎◌, inl, inr}
use mathlib.Core.Bool.{not}
use Prim.Native.Nat.{ℕ, zero, suc, ◌+◌, ◌*◌, ◌/◌, ◌%◌, ◌≤◌, ◌<◌, compare, Ordering}
use native.Mathlib.Nat.{le_trans, le_of_eq, le_of_lt, lt_of_lt_of_le, lt_irrefl, add-mul, suc-mul, one-mul, mul-le-mul_right, le_of_mul-le-mul_right, div-add-mod', mod-lt}
use native.Mathlib.Omega.{arith}
use lib.Dec.{T, is_le, compare_is_eq, eqb, leb→le, nleb→lt, eqb→eq, eqb_refl}
use lib.Arith.{lt_of_le-ne}
use lib.Pow.{pow_pos}
use lib.Ieee.{nearest}
use lib.Ieee.Nearest.{closest}
use Rattle.float.specs.Rule.{Nearest}

-- ---- what `compare` says
abbrev pub Cmp : Ordering → ℕ → ℕ → Type 0
Cmp Ordering.lt a b = a < b
Cmp Ordering.eq a b = a ≡ b
Cmp Ordering.gt a b = b < a

pub cmp : (a b : ℕ) → Cmp (compare a b) a b
cmp a b = go (compare a b) (leb→le a b) (nleb→lt a b) (eqb→eq a b) (λ (e : a ≡ b). subst (λ (x : ℕ). T (eqb a x)) e (eqb_refl a))
  where
    go : (o : Ordering) → (T (is_le o) → a ≤ b) → (T (not (is_le o)) → b < a) → (T (compare_is_eq o) → a ≡ b) → (a ≡ b → T (compare_is_eq o)) → Cmp o a b
    go Ordering.lt h k e n = lt_of_le-ne (h tt) n
    go Ordering.eq h k e n = e tt
    go Ordering.gt h k e n = k tt

-- ---- the nearest number, by how twice the remainder r compares with the divisor u
even_tie : (w : ℕ) → (w + w % 2) % 2 ≡ 0
even_tie w = omega arith

-- q * u is one number to `omega`, so each lemma says what it is
module _ (n u w r q : ℕ) (U : 0 < u) (R : r < u) (e : w * u + r ≡ n) where
  stays : q * u ≡ w * u → r * 2 < u → Nearest n u q
  stays p c = record { above = omega arith; below = omega arith; tie_above = λ t. absurd (no t); tie_below = λ t. absurd (nb t) }
    where
      no : n * 2 ≡ q * u * 2 + u → ⊥
      no t = omega arith

      nb : q * u * 2 ≡ n * 2 + u → ⊥
      nb t = omega arith

  moves : q * u ≡ w * u + u → u < r * 2 → Nearest n u q
  moves p c = record { above = omega arith; below = omega arith; tie_above = λ t. absurd (no t); tie_below = λ t. absurd (nb t) }
    where
      no : n * 2 ≡ q * u * 2 + u → ⊥
      no t = omega arith

      nb : q * u * 2 ≡ n * 2 + u → ⊥
      nb t = omega arith

  ties : (q * u ≡ w * u) ⊎ (q * u ≡ w * u + u) → r * 2 ≡ u → q % 2 ≡ 0 → Nearest n u q
  ties (inl p) c z = record { above = omega arith; below = omega arith; tie_above = λ t. z; tie_below = λ t. z }
  ties (inr p) c z = record { above = omega arith; below = omega arith; tie_above = λ t. z; tie_below = λ t. z }

zero_or_one : (w : ℕ) → (w % 2 ≡ 0) ⊎ (w % 2 ≡ 1)
zero_or_one w = go (w % 2) (mod-lt w (pow_pos 1))
  where
    go : (r : ℕ) → r < 2 → (r ≡ 0) ⊎ (r ≡ 1)
    go zero h = inl refl
    go (suc zero) h = inr refl
    go (suc (suc r)) h = absurd (lt_irrefl 0 (below r h))
      where
        below : (r : ℕ) → suc (suc r) < 2 → 0 < 0
        below r h = omega arith

step : (w u : ℕ) → (w + w % 2) * u ≡ w * u + (w % 2) * u
step w u = add-mul w (w % 2) u

picked : (o : Ordering) (n u w r : ℕ) → 0 < u → r < u → w * u + r ≡ n → Cmp o (r * 2) u → Nearest n u (nearest w o)
picked Ordering.lt n u w r U R e c = stays n u w r w U R e refl c
picked Ordering.eq n u w r U R e c = ties n u w r (w + w % 2) U R e (go (zero_or_one w)) c (even_tie w)
  where
    go : (w % 2 ≡ 0) ⊎ (w % 2 ≡ 1) → ((w + w % 2) * u ≡ w * u) ⊎ ((w + w % 2) * u ≡ w * u + u)
    go (inl z) = inl (ap (λ (k : ℕ). k * u) (plus_none w (w % 2) z))
      where
        plus_none : (w p : ℕ) → p ≡ 0 → w + p ≡ w
        plus_none w p h = omega arith
    go (inr z) = inr (step w u ∙ ap (λ (k : ℕ). w * u + k) (ap (λ (k : ℕ). k * u) z ∙ one-mul u))
picked Ordering.gt n u w r U R e c = moves n u w r (suc w) U R e (suc-mul w u) c

pub closest_nearest : (n u : ℕ) → 0 < u → Nearest n u (closest n u)
closest_nearest n u U = picked (compare (n % u * 2) u) n u (n / u) (n % u) U (mod-lt n U) (div-add-mod' n u) (cmp (n % u * 2) u)

-- ---- the same, for code: what `closest` is by the test on the remainder
pub closest_down : (n u : ℕ) → n % u * 2 < u → closest n u ≡ n / u
closest_down n u h = go (compare (n % u * 2) u) (cmp (n % u * 2) u)
  where
    go : (o : Ordering) → Cmp o (n % u * 2) u → nearest (n / u) o ≡ n / u
    go Ordering.lt c = refl
    go Ordering.eq c = absurd (lt_irrefl u (subst (λ (k : ℕ). k < u) c h))
    go Ordering.gt c = absurd (lt_irrefl u (lt_of_lt_of_le c (le_of_lt h)))

pub closest_tie : (n u : ℕ) → n % u * 2 ≡ u → closest n u ≡ n / u + n / u % 2
closest_tie n u h = go (compare (n % u * 2) u) (cmp (n % u * 2) u)
  where
    go : (o : Ordering) → Cmp o (n % u * 2) u → nearest (n / u) o ≡ n / u + n / u % 2
    go Ordering.lt c = absurd (lt_irrefl u (subst (λ (k : ℕ). k < u) h c))
    go Ordering.eq c = refl
    go Ordering.gt c = absurd (lt_irrefl u (subst (λ (k : ℕ). u < k) h c))

pub closest_up : (n u : ℕ) → u < n % u * 2 → closest n u ≡ suc (n / u)
closest_up n u h = go (compare (n % u * 2) u) (cmp (n % u * 2) u)
  where
    go : (o : Ordering) → Cmp o (n % u * 2) u → nearest (n / u) o ≡ suc (n / u)
    go Ordering.lt c = absurd (lt_irrefl u (lt_of_lt_of_le h (le_of_lt c)))
    go Ordering.eq c = absurd (lt_irrefl u (subst (λ (k : ℕ). u < k) c h))
    go Ordering.gt c = refl

-- ---- bounds on q from bounds on n
module _ {n u q : ℕ} (U : 0 < u) (N : Nearest n u q) where
  -- n / u is below a whole number P: q is at most P
  pub nearest_le : (P : ℕ) → n < P * u → q ≤ P
  nearest_le P h = other (λ (g : suc P ≤ q). no N.below (le_trans (le_of_eq (sym (suc-mul P u))) (mul-le-mul_right u g)))
    where
      no : q * u * 2 ≤ n * 2 + u → P * u + u ≤ q * u → ⊥
      no a b = omega arith

      other : (suc P ≤ q → ⊥) → q ≤ P
      other k = omega arith

  -- n / u is at least a whole number P: so is q
  pub nearest_ge : (P : ℕ) → P * u ≤ n → P ≤ q
  nearest_ge P h = other (λ (g : suc q ≤ P). no N.above (le_trans (le_of_eq (sym (suc-mul q u))) (mul-le-mul_right u g)))
    where
      no : n * 2 ≤ q * u * 2 + u → q * u + u ≤ P * u → ⊥
      no a b = omega arith

      other : (suc q ≤ P → ⊥) → P ≤ q
      other k = omega arith

  -- from P - 1/2 on, for an even P: q is at least P
  pub half_above : (P : ℕ) → P % 2 ≡ 0 → P * u * 2 ≤ n * 2 + u → P ≤ q
  half_above P z h = other (λ (g : suc q ≤ P). at (le_trans (le_of_eq (sym (suc-mul q u))) (mul-le-mul_right u g)) g)
    where
      other : (suc q ≤ P → ⊥) → P ≤ q
      other k = omega arith

      -- q + 1 is P, and n / u is q + 1/2, so q is even, and so is q + 1
      at : q * u + u ≤ P * u → suc q ≤ P → ⊥
      at b g = odd (N.tie_above (tie b N.above h)) same
        where
          tie : q * u + u ≤ P * u → n * 2 ≤ q * u * 2 + u → P * u * 2 ≤ n * 2 + u → n * 2 ≡ q * u * 2 + u
          tie a b c = omega arith

          eq : q * u + u ≤ P * u → n * 2 ≤ q * u * 2 + u → P * u * 2 ≤ n * 2 + u → P * u ≤ q * u + u
          eq a b c = omega arith

          same : P ≤ suc q
          same = le_of_mul-le-mul_right (le_trans (eq b N.above h) (le_of_eq (sym (suc-mul q u)))) U

          odd : q % 2 ≡ 0 → P ≤ suc q → ⊥
          odd a b = omega arith
