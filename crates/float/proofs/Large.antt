-- The answer of narrowing: which numbers are too large, for every exponent and fraction length, and what a finite answer is. Assumes nothing.
use Rattle.std.specs.Prelude.{Option, Some, None}
use mathlib.Core.Path.{◌≡◌, refl, sym, ap, ◌∙◌, subst}
use mathlib.Core.Bool.{Bool, true, false, not, cond, true≢false}
use Prim.Native.Nat.{ℕ, ◌+◌, ◌-◌, ◌*◌, ◌/◌, ◌%◌, ◌^◌, ◌≤◌, ◌<◌}
use native.Mathlib.Nat.{le_of_eq, mod-lt, mod-eq_of_lt, mul-lt-mul_of_pos_right}
use native.Mathlib.Decide.{ℕ_discrete}
use native.Mathlib.Omega.{arith}
use lib.Dec.{T, eqb, leb, lit≤}
use lib.Arith.{digits_lt, digits_mod}
use lib.Pow.{pow-add, pow_pos, pow-lt}
use borrow.Author.Tests.{lt-ltb, le-leb, lt-leb, eq-eqb, ne_eqb, leb-true, leb-false}
use lib.Ieee.{Float, binary32, binary64, fits, of_bits, to_bits, is_nan, ne}
use lib.Ieee.Scale.{finite}
use lib.Ieee.Bits.{to_bits-lt}
use Rattle.float.specs.Layout.{full, lowest, infinity, quiet, sign_field, exp_field, frac_field, magnitude}
use Rattle.float.specs.Rule.{threshold}
use Rattle.float.specs.Narrow.{narrow64, narrowed, too_large, narrowing, is_large, float_word, Told}
use Rattle.float.proofs.Generic.{narrow_rounds, narrow_infinite, narrow_nan}
use Rattle.float.proofs.Finite.{bits_finite}
use Rattle.float.proofs.Kit.{nan_told, is_nan_law, back, narrow_value, narrowed_fits}

-- ---- the code's three ways

pub told_large : (x : Float) (r : Bool) → r ≡ is_nan x → r ≡ true → None ≡ narrowing x
told_large x r e h = subst (λ (v : Float). None ≡ narrowing v) (sym (nan_told x r e h)) (unfold narrowing narrowed in refl)

pub nan_large : (x : Float) → ne x x ≡ true → None ≡ narrowing x
unfolding is_nan
nan_large x h = told_large x true (sym (ap is_nan (is_nan_law x h))) refl

module _ (x : Float) (held : T (fits binary64 x)) (r : ℕ) (e : r ≡ narrow64 (to_bits binary64 x)) where
  pub pattern_large : (t : Bool) → t ≡ finite (of_bits binary32 r) → t ≡ false → None ≡ narrowing x
  unfolding narrowing
  pattern_large t et h = rw (sym (ap finite (back x held r e)) ∙ sym et ∙ h)

  pub pattern_finite : (t : Bool) → t ≡ finite (of_bits binary32 r) → t ≡ true → Some (of_bits binary32 r) ≡ narrowing x
  unfolding narrowing
  pattern_finite t et h = rw (sym (ap finite (back x held r e)) ∙ sym et ∙ h) (ap (λ (v : Float). Some v) (back x held r e))

-- ---- a finite answer is the narrowed value, and its pattern what is written

pub finite_is : (x v : Float) → narrowing x ≡ Some v → (v ≡ narrowed x) × (finite (narrowed x) ≡ true)
unfolding narrowing
finite_is x v e = go (finite (narrowed x)) refl e
  where
    go : (t : Bool) → finite (narrowed x) ≡ t → cond t (Some (narrowed x)) None ≡ Some v → (v ≡ narrowed x) × (finite (narrowed x) ≡ true)
    go true q d = (let s : narrowed x ≡ v = cc in sym s, q)
    go false q d = absurd (let z : ◌≡◌ {A = ℕ} 0 1 = cc in omega arith)

pub finite_written : (x v : Float) → T (fits binary64 x) → narrowing x ≡ Some v → to_bits binary32 v ≡ narrow64 (to_bits binary64 x)
finite_written x v held e = ap (to_bits binary32) (finite_is x v e).0 ∙ sym (narrow_value x held)

-- ---- all that an answer says

-- it has 32 bits
pub float_small : (x : Float) → T (fits binary64 x) → float_word x < 4294967296
unfolding float_word
float_small x held = rw (narrow_value x held) (to_bits-lt binary32 (narrowed x) (narrowed_fits x))

told_finite : (x : Float) → finite (narrowed x) ≡ not (is_large (narrowing x))
unfolding narrowing is_large
told_finite x = go (finite (narrowed x))
  where
    go : (t : Bool) → t ≡ not (is_large (cond t (Some (narrowed x)) None))
    go true = refl
    go false = refl

pub told : (x : Float) → T (fits binary64 x) → (r : Option Float) → r ≡ narrowing x → Told x r
unfolding float_word
told x held r e =
    record {
      is = e;
      written = λ v q. finite_written x v held (sym e ∙ q);
      value = λ v q. back x held _ refl ∙ sym (finite_is x v (sym e ∙ q)).0;
      tells = rw (lt-ltb (float_word x) 4294967296 (float_small x held)) (ap finite (back x held _ refl) ∙ told_finite x ∙ ap (λ (a : Option Float). not (is_large a)) (sym e));
    }

-- ---- for all lengths: from the threshold on, and an infinity or a NaN, is too large, and nothing else

module _ (ew fw en fn : ℕ) (E : 2 ≤ en) (EE : en ≤ ew) (F : fn ≤ fw) where
  pub from_threshold : (b : ℕ) → (exp_field ew fw b ≡ full ew → ⊥) → threshold en fn * 2 ^ lowest ew fw ≤ magnitude ew fw b * 2 ^ lowest en fn → too_large ew fw en fn b ≡ true
  unfolding too_large
  from_threshold b n h = le-leb (infinity en fn) _ (le_of_eq (sym ((narrow_rounds ew fw en fn E EE F b n).1.infinite h)))

  pub below_threshold : (b : ℕ) → (exp_field ew fw b ≡ full ew → ⊥) → magnitude ew fw b * 2 ^ lowest en fn < threshold en fn * 2 ^ lowest ew fw → too_large ew fw en fn b ≡ false
  unfolding too_large
  below_threshold b n h = lt-leb (infinity en fn) _ ((narrow_rounds ew fw en fn E EE F b n).1.finite h).0

  full_lt : full en < 2 ^ en
  full_lt = let p : 0 < 2 ^ en = pow_pos en in omega arith

  pub no_number : 1 ≤ fn → (b : ℕ) → exp_field ew fw b ≡ full ew → too_large ew fw en fn b ≡ true
  unfolding too_large
  no_number one b e = elim (ℕ_discrete (frac_field fw b) 0) [
    | yes z ↦
        let small : infinity en fn < 2 ^ (en + fn) = rw (pow-add 2 en fn) (mul-lt-mul_of_pos_right full_lt (pow_pos fn)) in
        le-leb (infinity en fn) _ (le_of_eq (sym (ap (λ (y : ℕ). y % 2 ^ (en + fn)) (narrow_infinite ew fw en fn E EE F b e z) ∙ digits_mod (sign_field ew fw b) small)))
    | no z ↦
        let half : 2 ^ (fn - 1) < 2 ^ fn = pow-lt (omega arith) in
        let small : quiet en fn < 2 ^ (en + fn) = rw (pow-add 2 en fn) (digits_lt full_lt half) in
        le-leb (infinity en fn) _ (rw (narrow_nan ew fw en fn E EE F one b e z, mod-eq_of_lt small) (omega arith))
  ]

-- ---- from binary64 to binary32: the answer is too large exactly there

field_large : (q : ℕ) → q < 2147483648 → eqb (q / 8388608) 255 ≡ leb 2139095040 q
field_large q h = go (leb 2139095040 q) refl
  where
    go : (t : Bool) → leb 2139095040 q ≡ t → eqb (q / 8388608) 255 ≡ t
    go true e = eq-eqb (q / 8388608) 255 (omega (arith, leb-true 2139095040 q e, h))
    go false e = ne_eqb (q / 8388608) 255 (λ d. omega (arith, d, leb-false 2139095040 q e))

pub large_is : (x : Float) → T (fits binary64 x) → is_large (narrowing x) ≡ too_large 11 52 8 23 (to_bits binary64 x)
unfolding narrowing is_large too_large
large_is x held =
    let p = narrow64 (to_bits binary64 x) in
    let is : not (eqb (p % 2147483648 / 8388608) 255) ≡ finite (narrowed x) = bits_finite binary32 p ∙ ap finite (back x held p refl) in
    go (finite (narrowed x)) (eqb (p % 2147483648 / 8388608) 255) is ∙ field_large (p % 2147483648) (mod-lt p (lit≤ tt))
  where
    go : (t e : Bool) → not e ≡ t → is_large (cond t (Some (narrowed x)) None) ≡ e
    go true true q = absurd (true≢false (sym q))
    go true false q = refl
    go false true q = refl
    go false false q = absurd (true≢false q)
