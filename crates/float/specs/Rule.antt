-- IEEE 754's rule of rounding to nearest, ties to even (4.3.1), for any format: e is its exponent's length and f its fraction's.
-- It is said of a fraction n / c that counts units of the format's smallest positive value, and by no computation. Definitions only.
use Rattle.std.specs.Prelude.{◌≡◌, ◌⊎◌, ℕ, suc, ◌+◌, ◌-◌, ◌*◌, ◌%◌, ◌^◌, ◌≤◌, ◌<◌}
use Rattle.float.specs.Layout.{bias, full, lowest, infinity, quiet, sign_field, exp_field, frac_field, magnitude}

-- 2 ^ k is the quantum at n / c, for p digits: n / c is below 2 ^ (p + k), and no smaller k will do. So the quotient by 2 ^ k has at most p digits before the point, and exactly p where k is above 0.
pub record Quantum (p n c k : ℕ) : Type 0 where
  pub under : n < 2 ^ (p + k) * c
  pub least : (k ≡ 0) ⊎ (2 ^ (p - 1 + k) * c ≤ n)

-- q is the whole number nearest to n / u, and of two that are as near the even one: n / u lies between q - 1/2 and q + 1/2, and at either end only where q is even.
pub record Nearest (n u q : ℕ) : Type 0 where
  pub above : n * 2 ≤ q * u * 2 + u
  pub below : q * u * 2 ≤ n * 2 + u
  pub tie_above : n * 2 ≡ q * u * 2 + u → q % 2 ≡ 0
  pub tie_below : q * u * 2 ≡ n * 2 + u → q % 2 ≡ 0

-- From this many units on the result is an infinity: 2 ^ (bias + 1) - 2 ^ (bias - (f + 1)), which at binary32 is 2 ^ 128 - 2 ^ 103.
abbrev pub threshold : ℕ → ℕ → ℕ
threshold e f = 2 ^ (lowest e f + bias e + 1) - 2 ^ (lowest e f + bias e - (f + 1))

-- r, a pattern of the format with its sign's bit clear, is what a / c rounds to.
pub record Rounds (e f a c r : ℕ) : Type 0 where
  -- the exponent of the quantum, and the number of quanta
  pub k : ℕ
  pub q : ℕ
  pub quantum : Quantum (suc f) (a * 2 ^ lowest e f) c k
  pub nearest : Nearest (a * 2 ^ lowest e f) (c * 2 ^ k) q
  pub finite : a * 2 ^ lowest e f < threshold e f * c → (r < infinity e f) × (magnitude e f r ≡ q * 2 ^ k)
  pub infinite : threshold e f * c ≤ a * 2 ^ lowest e f → r ≡ infinity e f

-- r, a pattern of the narrow format (en, fn), is what the wide pattern b (ew, fw) narrows to. A finite b stands for magnitude / 2 ^ lowest, with its sign: the sign stays, and the magnitude rounds.
-- An infinity keeps its sign. Of a NaN the standard leaves sign and payload open: here it is the one quiet pattern.
pub record Narrows (ew fw en fn b r : ℕ) : Type 0 where
  pub finite : (exp_field ew fw b ≡ full ew → ⊥)
      → (sign_field en fn r ≡ sign_field ew fw b) × Rounds en fn (magnitude ew fw b) (2 ^ lowest ew fw) (r % 2 ^ (en + fn))
  pub infinite : exp_field ew fw b ≡ full ew → frac_field fw b ≡ 0 → r ≡ sign_field ew fw b * 2 ^ (en + fn) + infinity en fn
  pub not_a_number : exp_field ew fw b ≡ full ew → (frac_field fw b ≡ 0 → ⊥) → r ≡ quiet en fn
