-- The rule leaves no choice: of one value there is one quantum, one number of quanta, and one pattern (`rounds_unique`). So `Rounds` and `Narrows` say all that narrowing gives (`narrows_unique`). Assumes nothing.
use mathlib.Core.Path.{◌≡◌, sym, ap, ◌∙◌, subst}
use mathlib.Core.Logic.{◌⊎◌, inl, inr}
use mathlib.Core.Bool.{Bool, true, false, not}
use Prim.Native.Nat.{ℕ, zero, suc, ◌+◌, ◌-◌, ◌*◌, ◌/◌, ◌%◌, ◌^◌, ◌≤◌, ◌<◌}
use native.Mathlib.Nat.{le_trans, le_of_eq, lt_of_lt_of_le, lt_of_le_of_lt, lt_irrefl, lt_of_not-le, zero-lt-suc, mul-pos, mul-one, suc-mul, mul-le-mul_right, mul-lt-mul_of_pos_right, le_of_mul-le-mul_right, lt_of_mul-lt-mul_right, eq_of_mul-eq-mul_right, mod-lt, mod-eq_of_lt, div-lt_iff_lt-mul, div-add-mod', pow-succ'}
use native.Mathlib.Omega.{arith}
use lib.Dec.{T, leb, eqb, leb→le, nleb→lt, eqb→eq, T_not}
use lib.Pow.{pow_pos, pow_mono}
use lib.Ieee.Fits.{eq→eqb}
use Rattle.float.specs.Layout.{full, lowest, infinity, exp_field, frac_field, digits_of, magnitude}
use Rattle.float.specs.Rule.{Quantum, Nearest, Rounds, Narrows, threshold}
use Rattle.float.proofs.Generic.{three_ways, pow_2, pow_eq, digits_suc, pred_suc}

-- ---- one quantum
pow_back : (a b : ℕ) → 2 ^ a < 2 ^ b → a < b
pow_back a b h = lt_of_not-le (λ (g : b ≤ a). lt_irrefl (2 ^ a) (lt_of_lt_of_le h (pow_mono g)))

no_later : {p n c k l : ℕ} → 0 < p → Quantum p n c k → Quantum p n c l → k < l → ⊥
no_later {p} {n} {c} {k} {l} P Q R h = go R.least
  where
    none : k < l → l ≡ 0 → ⊥
    none a z = omega arith

    order : 0 < p → p - 1 + l < p + k → k < l → ⊥
    order a b d = omega arith

    go : (l ≡ 0) ⊎ (2 ^ (p - 1 + l) * c ≤ n) → ⊥
    go (inl z) = none h z
    go (inr d) = order P (pow_back (p - 1 + l) (p + k) (lt_of_mul-lt-mul_right c (lt_of_le_of_lt d Q.under))) h

pub quantum_unique : {p n c k l : ℕ} → 0 < p → Quantum p n c k → Quantum p n c l → k ≡ l
quantum_unique {p} {n} {c} {k} {l} P Q R = go (three_ways k l)
  where
    go : (k < l) ⊎ ((k ≡ l) ⊎ (l < k)) → k ≡ l
    go (inl h) = absurd (no_later P Q R h)
    go (inr (inl e)) = e
    go (inr (inr h)) = absurd (no_later P R Q h)

-- ---- one nearest number
no_next : {n u q r : ℕ} → 0 < u → Nearest n u q → Nearest n u r → q < r → ⊥
no_next {n} {u} {q} {r} U N M h =
    let step : q * u + u ≤ r * u = le_trans (le_of_eq (sym (suc-mul q u))) (mul-le-mul_right u h) in
    let up_to : n * 2 ≤ q * u * 2 + u = N.above in
    let down_to : r * u * 2 ≤ n * 2 + u = M.below in
    let tie : n * 2 ≡ q * u * 2 + u = omega arith in
    let tie' : r * u * 2 ≡ n * 2 + u = omega arith in
    let near : r * u ≤ q * u + u = omega arith in
    odd (N.tie_above tie) (M.tie_below tie') h (le_of_mul-le-mul_right (le_trans near (le_of_eq (sym (suc-mul q u)))) U)
  where
    odd : q % 2 ≡ 0 → r % 2 ≡ 0 → q < r → r ≤ suc q → ⊥
    odd a b c d = omega arith

pub nearest_unique : {n u q r : ℕ} → 0 < u → Nearest n u q → Nearest n u r → q ≡ r
nearest_unique {n} {u} {q} {r} U N M = go (three_ways q r)
  where
    go : (q < r) ⊎ ((q ≡ r) ⊎ (r < q)) → q ≡ r
    go (inl h) = absurd (no_next U N M h)
    go (inr (inl e)) = e
    go (inr (inr h)) = absurd (no_next U M N h)

-- ---- one pattern of a magnitude
-- the magnitude of an exponent's field x and a fraction t
abbrev mag : ℕ → ℕ → ℕ → ℕ
mag f x t = digits_of f x t * 2 ^ (x - 1)

mag_suc : (f x t : ℕ) → mag f (suc x) t ≡ (2 ^ f + t) * 2 ^ x
mag_suc f x t = ap (λ (y : ℕ). y * 2 ^ (suc x - 1)) (digits_suc f x t) ∙ ap (λ (y : ℕ). (2 ^ f + t) * 2 ^ y) (pred_suc x)

-- a later field is a larger magnitude
mag_below : (f x t : ℕ) → t < 2 ^ f → mag f x t < 2 ^ (f + x)
mag_below f zero t h = lt_of_le_of_lt (le_of_eq (mul-one t)) (lt_of_lt_of_le h (pow_mono (le_of_eq (plus f))))
  where
    plus : (f : ℕ) → f ≡ f + 0
    plus f = omega arith
mag_below f (suc x) t h =
    lt_of_le_of_lt (le_of_eq (mag_suc f x t)) (lt_of_lt_of_le (mul-lt-mul_of_pos_right (twice (2 ^ f) (2 ^ suc f) (pow-succ' 2 f) h) (pow_pos x)) (le_of_eq (pow_2 (suc f) x ∙ pow_eq (move f x))))
  where
    twice : (p w : ℕ) → w ≡ 2 * p → t < p → p + t < w
    twice p w e l = omega arith

    move : (f x : ℕ) → suc f + x ≡ f + suc x
    move f x = omega arith

mag_above : (f x t : ℕ) → 2 ^ (f + x) ≤ mag f (suc x) t
mag_above f x t = le_trans (le_of_eq (sym (pow_2 f x))) (le_trans (mul-le-mul_right (2 ^ x) (more (2 ^ f))) (le_of_eq (sym (mag_suc f x t))))
  where
    more : (p : ℕ) → p ≤ p + t
    more p = omega arith

mag_order : (f x y t s : ℕ) → t < 2 ^ f → x < y → mag f x t < mag f y s
mag_order f x zero t s h l = absurd (none x l)
  where
    none : (x : ℕ) → x < 0 → ⊥
    none x l = omega arith
mag_order f x (suc y) t s h l = lt_of_lt_of_le (mag_below f x t h) (le_trans (pow_mono (le x y l)) (mag_above f y s))
  where
    le : (x y : ℕ) → x < suc y → f + x ≤ f + y
    le x y l = omega arith

mag_same : (f x t s : ℕ) → mag f x t ≡ mag f x s → t ≡ s
mag_same f zero t s e = sym (mul-one t) ∙ e ∙ mul-one s
mag_same f (suc x) t s e = cancel (2 ^ f) (eq_of_mul-eq-mul_right (2 ^ x) (pow_pos x) (2 ^ f + t) (2 ^ f + s) (sym (mag_suc f x t) ∙ e ∙ mag_suc f x s))
  where
    cancel : (p : ℕ) → p + t ≡ p + s → t ≡ s
    cancel p h = omega arith

-- a pattern below the infinity's is its two fields
two_fields : (e f r : ℕ) → r < infinity e f → (exp_field e f r * 2 ^ f + frac_field f r ≡ r)
two_fields e f r h =
    ap (λ (y : ℕ). y * 2 ^ f + r % 2 ^ f) (mod-eq_of_lt (lt_of_lt_of_le ((div-lt_iff_lt-mul (pow_pos f)).1 h) (less (2 ^ e)))) ∙ div-add-mod' r (2 ^ f)
  where
    less : (p : ℕ) → p - 1 ≤ p
    less p = omega arith

pub magnitude_unique : (e f r s : ℕ) → r < infinity e f → s < infinity e f → magnitude e f r ≡ magnitude e f s → r ≡ s
magnitude_unique e f r s R S h = go (three_ways x y)
  where
    x : ℕ
    x = exp_field e f r

    y : ℕ
    y = exp_field e f s

    t : ℕ
    t = frac_field f r

    w : ℕ
    w = frac_field f s

    go : (x < y) ⊎ ((x ≡ y) ⊎ (y < x)) → r ≡ s
    go (inl l) = absurd (lt_irrefl (mag f x t) (lt_of_lt_of_le (mag_order f x y t w (mod-lt r (pow_pos f)) l) (le_of_eq (sym h))))
    go (inr (inl i)) =
        sym (two_fields e f r R)
        ∙ ap (λ (z : ℕ). z * 2 ^ f + t) i
        ∙ ap (λ (z : ℕ). y * 2 ^ f + z) (mag_same f y t w (ap (λ (z : ℕ). mag f z t) (sym i) ∙ h))
        ∙ two_fields e f s S
    go (inr (inr l)) = absurd (lt_irrefl (mag f y w) (lt_of_lt_of_le (mag_order f y x w t (mod-lt s (pow_pos f)) l) (le_of_eq h)))

-- ---- one result
pub rounds_unique : {e f a c r s : ℕ} → 0 < c → Rounds e f a c r → Rounds e f a c s → r ≡ s
rounds_unique {e} {f} {a} {c} {r} {s} C A B = go (leb (threshold e f * c) n) (leb→le (threshold e f * c) n) (nleb→lt (threshold e f * c) n)
  where
    n : ℕ
    n = a * 2 ^ lowest e f

    same_k : A.k ≡ B.k
    same_k = quantum_unique (zero-lt-suc f) A.quantum B.quantum

    same_q : A.q ≡ B.q
    same_q = nearest_unique (mul-pos C (pow_pos B.k)) (subst (λ (i : ℕ). Nearest n (c * 2 ^ i) A.q) same_k A.nearest) B.nearest

    go : (b : Bool) → (T b → threshold e f * c ≤ n) → (T (not b) → n < threshold e f * c) → r ≡ s
    go true p q = A.infinite (p tt) ∙ sym (B.infinite (p tt))
    go false p q =
        let x = A.finite (q tt) in
        let y = B.finite (q tt) in
        magnitude_unique e f r s x.0 y.0 (x.1 ∙ ap (λ (i : ℕ). i * 2 ^ A.k) same_q ∙ ap (λ (i : ℕ). B.q * 2 ^ i) same_k ∙ sym y.1)

-- ---- one narrowed pattern
-- a number is its part above 2 ^ w and its rest
joined : (w r s : ℕ) → r / 2 ^ w ≡ s / 2 ^ w → r % 2 ^ w ≡ s % 2 ^ w → r ≡ s
joined w r s p q = sym (div-add-mod' r (2 ^ w)) ∙ ap (λ (y : ℕ). y * 2 ^ w + r % 2 ^ w) p ∙ ap (λ (y : ℕ). s / 2 ^ w * 2 ^ w + y) q ∙ div-add-mod' s (2 ^ w)

pub narrows_unique : {ew fw en fn b r s : ℕ} → Narrows ew fw en fn b r → Narrows ew fw en fn b s → r ≡ s
narrows_unique {ew} {fw} {en} {fn} {b} {r} {s} A B = go (eqb x (full ew)) (eqb→eq x (full ew)) (λ n e. T_not (eqb x (full ew)) n (eq→eqb e))
  where
    x : ℕ
    x = exp_field ew fw b

    t : ℕ
    t = frac_field fw b

    special : x ≡ full ew → (c : Bool) → (T c → t ≡ 0) → (T (not c) → t ≡ 0 → ⊥) → r ≡ s
    special e true p q = A.infinite e (p tt) ∙ sym (B.infinite e (p tt))
    special e false p q = A.not_a_number e (q tt) ∙ sym (B.not_a_number e (q tt))

    go : (c : Bool) → (T c → x ≡ full ew) → (T (not c) → x ≡ full ew → ⊥) → r ≡ s
    go true p q = special (p tt) (eqb t 0) (eqb→eq t 0) (λ n e. T_not (eqb t 0) n (eq→eqb e))
    go false p q =
        let a = A.finite (q tt) in
        let c = B.finite (q tt) in
        joined (en + fn) r s (a.0 ∙ sym c.0) (rounds_unique (pow_pos (lowest ew fw)) a.1 c.1)
