-- The nearest multiple of the quantum is the nearest of all values that the format has: below the threshold, no pattern's magnitude is nearer to the value than the result's (`best_of_all`). Assumes nothing.
use mathlib.Core.Path.{◌≡◌, sym, ap, ◌∙◌}
use mathlib.Core.Logic.{◌⊎◌, inl, inr}
use mathlib.Core.Bool.{Bool, true, false, not}
use Prim.Native.Nat.{ℕ, suc, ◌+◌, ◌-◌, ◌*◌, ◌^◌, ◌≤◌, ◌<◌}
use native.Mathlib.Nat.{le_trans, le_of_eq, le_of_lt, suc-mul, mul-le-mul_right, mod-lt}
use native.Mathlib.Omega.{arith}
use lib.Dec.{T, leb, leb→le, nleb→lt}
use lib.Pow.{pow-add, pow_pos, pow_mono}
use Rattle.float.specs.Layout.{lowest, exp_field, frac_field, digits_of, magnitude}
use Rattle.float.specs.Rule.{Quantum, Nearest, Rounds, threshold}
use Rattle.float.proofs.Generic.{three_ways, pow_2, pow_eq, digits_lt_pow, less_one}

-- how far two numbers are apart
abbrev pub apart : ℕ → ℕ → ℕ
apart a b = a - b + (b - a)

-- ---- among the multiples of u
multiple : {n u q : ℕ} → Nearest n u q → (r : ℕ) → apart n (q * u) ≤ apart n (r * u)
multiple {n} {u} {q} N r = go (three_ways q r)
  where
    later : q < r → q * u + u ≤ r * u
    later h = le_trans (le_of_eq (sym (suc-mul q u))) (mul-le-mul_right u h)

    sooner : r < q → r * u + u ≤ q * u
    sooner h = le_trans (le_of_eq (sym (suc-mul r u))) (mul-le-mul_right u h)

    up_to : (a b : ℕ) → n * 2 ≤ a * 2 + u → a * 2 ≤ n * 2 + u → a + u ≤ b → n - a + (a - n) ≤ n - b + (b - n)
    up_to a b x y z = omega arith

    down_to : (a b : ℕ) → n * 2 ≤ a * 2 + u → a * 2 ≤ n * 2 + u → b + u ≤ a → n - a + (a - n) ≤ n - b + (b - n)
    down_to a b x y z = omega arith

    go : (q < r) ⊎ ((q ≡ r) ⊎ (r < q)) → apart n (q * u) ≤ apart n (r * u)
    go (inl h) = up_to (q * u) (r * u) N.above N.below (later h)
    go (inr (inl e)) = le_of_eq (ap (λ (y : ℕ). apart n (y * u)) e)
    go (inr (inr h)) = down_to (q * u) (r * u) N.above N.below (sooner h)

-- ---- among all numbers m * 2 ^ j with m of at most f + 1 digits
module _ {f n c k q : ℕ} (Q : Quantum (suc f) n c k) (N : Nearest n (c * 2 ^ k) q) where
  abbrev u : ℕ
  u = c * 2 ^ k

  -- a multiple of the quantum
  whole : (m j : ℕ) → k ≤ j → m * 2 ^ j * c ≡ m * 2 ^ (j - k) * u
  whole m j h =
      ap (λ (y : ℕ). m * y * c) (pow_eq (split k j h) ∙ pow-add 2 (j - k) k) ∙ go m (2 ^ (j - k)) (2 ^ k) c
    where
      split : (k j : ℕ) → k ≤ j → j ≡ j - k + k
      split k j h = omega arith

      go : (m a b c : ℕ) → m * (a * b) * c ≡ m * a * (c * b)
      go m a b c = omega arith

  -- a smaller step: the number lies below the binade of n / c, whose first number is a multiple of the quantum
  under : (m j : ℕ) → m < 2 ^ suc f → j < k → m * 2 ^ j * c ≤ 2 ^ f * u
  under m j M h =
      le_trans (mul-le-mul_right c (le_trans (mul-le-mul_right (2 ^ j) (le_of_lt M)) (le_trans (le_of_eq (pow_2 (suc f) j)) (le_trans (pow_mono (room f j k h)) (le_of_eq (pow-add 2 f k))))))
      (le_of_eq (go (2 ^ f) (2 ^ k) c))
    where
      room : (f j k : ℕ) → j < k → suc f + j ≤ f + k
      room f j k h = omega arith

      go : (a b c : ℕ) → a * b * c ≡ a * (c * b)
      go a b c = omega arith

  first_le : (j : ℕ) → j < k → 2 ^ f * u ≤ n
  first_le j h = go Q.least
    where
      none : j < k → k ≡ 0 → ⊥
      none a b = omega arith

      swap : (a b c : ℕ) → a * (c * b) ≡ a * b * c
      swap a b c = omega arith

      go : (k ≡ 0) ⊎ (2 ^ (suc f - 1 + k) * c ≤ n) → 2 ^ f * u ≤ n
      go (inl z) = absurd (none h z)
      go (inr d) = le_trans (le_of_eq (swap (2 ^ f) (2 ^ k) c ∙ ap (λ (y : ℕ). y * c) (pow_2 f k ∙ pow_eq (sym (less_one f k))))) d

  pub nearest_of_all : (m j : ℕ) → m < 2 ^ suc f → apart n (q * u) ≤ apart n (m * 2 ^ j * c)
  nearest_of_all m j M = go (leb k j) (leb→le k j) (nleb→lt k j)
    where
      further : (a b : ℕ) → b ≤ a → a ≤ n → n - a + (a - n) ≤ n - b + (b - n)
      further a b x y = omega arith

      go : (b : Bool) → (T b → k ≤ j) → (T (not b) → j < k) → apart n (q * u) ≤ apart n (m * 2 ^ j * c)
      go true p z = le_trans (multiple N (m * 2 ^ (j - k))) (le_of_eq (ap (λ (y : ℕ). apart n y) (sym (whole m j (p tt)))))
      go false p z = le_trans (multiple N (2 ^ f)) (further (2 ^ f * u) (m * 2 ^ j * c) (under m j M (z tt)) (first_le j (z tt)))

-- ---- among all patterns of the format
pub best_of_all : {e f a c r : ℕ} → Rounds e f a c r → a * 2 ^ lowest e f < threshold e f * c → (s : ℕ) → apart (a * 2 ^ lowest e f) (magnitude e f r * c) ≤ apart (a * 2 ^ lowest e f) (magnitude e f s * c)
best_of_all {e} {f} {a} {c} {r} R h s =
    let n = a * 2 ^ lowest e f in
    le_trans (le_of_eq (ap (λ (y : ℕ). apart n y) (ap (λ (y : ℕ). y * c) (R.finite h).1 ∙ swap R.q (2 ^ R.k) c)))
    (nearest_of_all R.quantum R.nearest (digits_of f (exp_field e f s) (frac_field f s)) (exp_field e f s - 1) (digits_lt_pow f (exp_field e f s) (frac_field f s) (mod-lt s (pow_pos f))))
  where
    swap : (q b c : ℕ) → q * b * c ≡ q * (c * b)
    swap q b c = omega arith
