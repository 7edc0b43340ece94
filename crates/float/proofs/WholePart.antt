-- The greatest whole number not above v is v's whole part, capped: `greatest_is`. A whole number k from 1 to 2 ^ 53 is not above v exactly where it is at most `to_unsigned 64 v` (`le_whole`).
-- And the definition says what its words say: `greatest_holds`. Assumes nothing.
use mathlib.Core.Path.{◌≡◌, refl, sym, ap, ◌∙◌, subst}
use mathlib.Core.Logic.{◌⊎◌, inl, inr}
use mathlib.Core.Bool.{Bool, true, false, not, cond, ◌&&◌, ◌||◌, true≢false}
use Prim.Native.Nat.{ℕ, zero, suc, ◌+◌, ◌-◌, ◌*◌, ◌/◌, ◌%◌, ◌^◌, ◌≤◌, ◌<◌, min}
use native.Mathlib.Nat.{le_trans, le_of_eq, le_of_lt, lt_of_lt_of_le, lt_irrefl, zero-lt-suc, mul-one, mul-pos, mul_assoc, mul_right_comm, mul-le-mul_right, mul-lt-mul_of_pos_right, le_of_mul-le-mul_right, le-div_iff_mul-le, eq-or-lt_of_le, div-eq_of_lt, mod-lt, mod-eq_of_lt}
use native.Mathlib.Omega.{arith}
use lib.IntN.{pos}
use lib.Dec.{T, leb, ltb, eqb, leb→le, le→leb, nleb→lt, ltb→lt, lt→ltb, eqb→eq, not_T, T_not, lit≤}
use lib.Pow.{pow_pos, pow_mono}
use lib.Bits.{bit_and, and_mask}
use lib.Ieee.{Float, nan, inf, fin, binary64, up, down, odd, of_int, of_fields, of_bits, is_nan, le, lt, eq, to_unsigned}
use lib.Ieee.Fits.{down_pos, eq→eqb}
use lib.Ieee.Bits.{is_true, is_false, nan_bits_is, nan_bits_above}
use lib.Ieee.Exact.{HasValue}
use lib.Ieee.Back.{round_whole}
use lib.Ieee.Nearest.{div_same}
use Rattle.float.specs.Layout.{exp_field, digits_of}
use Rattle.float.specs.Axis.{greatest, axis_index, Greatest}
use Rattle.float.proofs.Generic.{pow_2, pow_eq, digits_suc, digits_lt_pow}
use Rattle.float.proofs.Machine.{digits_is}
use Rattle.float.proofs.Kit.{pattern_64, nan_told}

-- ---- Bool tests
same_test : (a b : Bool) → (T a → T b) → (T b → T a) → a ≡ b
same_test true true p q = refl
same_test true false p q = absurd (p tt)
same_test false true p q = absurd (q tt)
same_test false false p q = refl

either : (p q : Bool) → T (p || (q && true)) → T p ⊎ T q
either true q h = inl tt
either false true h = inr tt
either false false h = absurd h

-- `le` of two values that are not negative tests less or equal
le_test : (a b : ℕ) → (ltb a b || (eqb a b && true)) ≡ leb a b
le_test a b = same_test (ltb a b || (eqb a b && true)) (leb a b) (λ t. le→leb a b (down_to (either (ltb a b) (eqb a b) t))) (λ t. up_to (eq-or-lt_of_le (leb→le a b t)))
  where
    down_to : T (ltb a b) ⊎ T (eqb a b) → a ≤ b
    down_to (inl t) = le_of_lt (ltb→lt a b t)
    down_to (inr t) = le_of_eq (eqb→eq a b t)

    left : (p q : Bool) → T p → T (p || q)
    left true q t = tt
    left false q t = absurd t

    right : (p q : Bool) → T q → T (p || (q && true))
    right true q t = tt
    right false true t = tt
    right false false t = absurd t

    up_to : (a ≡ b) ⊎ (a < b) → T (ltb a b || (eqb a b && true))
    up_to (inl e) = right (ltb a b) (eqb a b) (eq→eqb e)
    up_to (inr l) = left (ltb a b) (eqb a b && true) (lt→ltb a b l)

-- ---- a whole number against a float
cross : (A d k n e : ℕ) → 0 < d → A * 1 ≡ k * d → (A * e ≤ n * d → k * e ≤ n) × (k * e ≤ n → A * e ≤ n * d)
cross A d k n e D h =
    let is : A * e ≡ k * e * d = ap (λ (y : ℕ). y * e) (sym (mul-one A) ∙ h) ∙ mul_right_comm k d e in
    (λ l. le_of_mul-le-mul_right (le_trans (le_of_eq (sym is)) l) D, λ l. le_trans (le_of_eq is) (mul-le-mul_right d l))

no_size : (A d k : ℕ) → 0 < d → 0 < k → A * 1 ≡ k * d → A ≡ 0 → ⊥
no_size A d k D K h z = lt_irrefl 0 (lt_of_lt_of_le (mul-pos K D) (le_of_eq (sym h ∙ mul-one A ∙ z)))

capped : (k w c : ℕ) → k ≤ c - 1 → (k ≤ w → k ≤ min w (c - 1)) × (k ≤ min w (c - 1) → k ≤ w)
capped k w c h = (λ l. one l, λ l. two l)
  where
    one : k ≤ w → k ≤ min w (c - 1)
    one l = omega arith

    two : k ≤ min w (c - 1) → k ≤ w
    two l = omega arith

value_le : (x : Float) (k : ℕ) (v : Float) → HasValue x false k 1 → 0 < k → k ≤ 2 ^ 64 - 1 → le x v ≡ leb k (to_unsigned 64 v)
unfolding le lt eq to_unsigned
value_le nan k v h K L = absurd h
value_le (inf s) k v h K L = absurd h
value_le (fin true a d) k v h K L = absurd (true≢false h.0)
value_le (fin false a d) k nan h K L = sym (is_false (leb k 0) (not_T (leb k 0) (λ t. lt_irrefl 0 (lt_of_lt_of_le K (leb→le k 0 t)))))
value_le (fin false a d) k (inf true) h K L = sym (is_false (leb k 0) (not_T (leb k 0) (λ t. lt_irrefl 0 (lt_of_lt_of_le K (leb→le k 0 t)))))
value_le (fin false a d) k (inf false) h K L = sym (is_true (leb k (2 ^ 64 - 1)) (le→leb k (2 ^ 64 - 1) L))
value_le (fin false a d) k (fin true m e) h K L =
    let A = a * up d in
    let B = A * down e in
    let none : T (not (eqb B 0)) = not_T (eqb B 0) (λ t. lt_irrefl 0 (lt_of_lt_of_le (mul-pos (pos_of A (no_size A (down d) k (down_pos d) K h.1)) (down_pos e)) (le_of_eq (eqb→eq B 0 t)))) in
    both (eqb B (m * up e * down d)) (eqb B 0) none
    ∙ sym (is_false (leb k 0) (not_T (leb k 0) (λ t. lt_irrefl 0 (lt_of_lt_of_le K (leb→le k 0 t)))))
  where
    pos_of : (A : ℕ) → (A ≡ 0 → ⊥) → 0 < A
    pos_of A n = omega arith

    both : (p q : Bool) → T (not q) → (p && (false || q)) ≡ false
    both true true n = absurd n
    both true false n = refl
    both false q n = refl
value_le (fin false a d) k (fin false m e) h K L =
    let A = a * up d in
    let n = m * up e in
    let w = n / down e in
    let x = cross A (down d) k n (down e) (down_pos d) h.1 in
    let y = capped k w (2 ^ 64) L in
    le_test (A * down e) (n * down d)
    ∙ same_test (leb (A * down e) (n * down d)) (leb k (min w (2 ^ 64 - 1)))
    (λ t. le→leb k (min w (2 ^ 64 - 1)) (y.0 ((le-div_iff_mul-le (down_pos e)).1 (x.0 (leb→le (A * down e) (n * down d) t)))))
    (λ t. le→leb (A * down e) (n * down d) (x.1 ((le-div_iff_mul-le (down_pos e)).0 (y.1 (leb→le k (min w (2 ^ 64 - 1)) t)))))

of_int_value : (k : ℕ) → k ≤ 2 ^ 53 → HasValue (of_int binary64 (pos k)) false k 1
unfolding of_int
of_int_value k h = round_whole binary64 false k h

pub le_whole : (k : ℕ) (v : Float) → 0 < k → k ≤ 2 ^ 53 → le (of_int binary64 (pos k)) v ≡ leb k (to_unsigned 64 v)
le_whole k v K L = value_le (of_int binary64 (pos k)) k v (of_int_value k L) K (le_trans L (lit≤ tt))

-- ---- the definition, in closed form
pick_min : (k u : ℕ) → cond (leb (suc k) u) (suc k) (min u k) ≡ min u (suc k)
pick_min k u = go (leb (suc k) u) (leb→le (suc k) u) (nleb→lt (suc k) u)
  where
    top : suc k ≤ u → suc k ≡ min u (suc k)
    top l = omega arith

    less : u < suc k → min u k ≡ min u (suc k)
    less l = omega arith

    go : (b : Bool) → (T b → suc k ≤ u) → (T (not b) → u < suc k) → cond b (suc k) (min u k) ≡ min u (suc k)
    go true p q = top (p tt)
    go false p q = less (q tt)

min_zero : (u : ℕ) → 0 ≡ min u 0
min_zero u = omega arith

pub greatest_is : (n : ℕ) (v : Float) → n ≤ 2 ^ 53 → greatest n v ≡ min (to_unsigned 64 v) n
unfolding greatest
greatest_is zero v h = min_zero (to_unsigned 64 v)
greatest_is (suc k) v h =
    ap (λ (b : Bool). cond b (suc k) (greatest k v)) (le_whole (suc k) v (zero-lt-suc k) h)
    ∙ ap (λ (y : ℕ). cond (leb (suc k) (to_unsigned 64 v)) (suc k) y) (greatest_is k v (le_trans (up_one k) h))
    ∙ pick_min k (to_unsigned 64 v)
  where
    up_one : (k : ℕ) → k ≤ suc k
    up_one k = omega arith

-- ---- and in words
pub greatest_holds : (n : ℕ) (v : Float) → n ≤ 2 ^ 53 → Greatest n v (greatest n v)
greatest_holds n v h = subst (λ (r : ℕ). Greatest n v r) (sym (greatest_is n v h)) (record { capped = cap u n; not_above = here (min u n) refl; none_greater = every })
  where
    u : ℕ
    u = to_unsigned 64 v

    cap : (a b : ℕ) → min a b ≤ b
    cap a b = omega arith

    under : (r : ℕ) → r ≡ min u n → r ≤ u
    under r e = omega arith

    short : (r : ℕ) → r ≡ min u n → n ≤ 9007199254740992 → r ≤ 9007199254740992
    short r e l = omega arith

    here : (r : ℕ) → r ≡ min u n → T (le (of_int binary64 (pos r)) v) ⊎ (r ≡ 0)
    here zero e = inr refl
    here (suc r) e = inl (subst T (sym (le_whole (suc r) v (zero-lt-suc r) (short (suc r) e h))) (le→leb (suc r) u (under (suc r) e)))

    both : (i : ℕ) → i ≤ n → i ≤ u → i ≤ min u n
    both i a b = omega arith

    least : (r : ℕ) → 0 ≤ r
    least r = omega arith

    every : (i : ℕ) → i ≤ n → T (le (of_int binary64 (pos i)) v) → i ≤ min u n
    every zero l t = least (min u n)
    every (suc i) l t = both (suc i) l (leb→le (suc i) u (subst T (le_whole (suc i) v (zero-lt-suc i) (le_trans l h)) t))

-- ---- the whole part by the bits
axis_is : (v : Float) → axis_index v ≡ min (to_unsigned 64 v) 95
axis_is v = greatest_is 95 v (lit≤ tt)

-- of a value that is not negative
whole_of : (v : Float) (a c : ℕ) → 0 < c → HasValue v false a c → to_unsigned 64 v ≡ min (a / c) (2 ^ 64 - 1)
unfolding to_unsigned
whole_of nan a c C h = absurd h
whole_of (inf s) a c C h = absurd h
whole_of (fin s m e) a c C h =
    ap (λ (b : Bool). cond b 0 (min (m * up e / down e) (2 ^ 64 - 1))) h.0
    ∙ ap (λ (y : ℕ). min y (2 ^ 64 - 1)) (div_same (m * up e) (down e) a c (down_pos e) C h.1)

-- a negative has none, and a NaN has none
odd_none : (d q k l : ℕ) → to_unsigned 64 (odd d true q k l) ≡ 0
unfolding odd to_unsigned
odd_none d zero k l = refl
odd_none d (suc q) k l = refl

special_none : (b : Bool) → to_unsigned 64 (cond b (inf true) nan) ≡ 0
unfolding to_unsigned
special_none true = refl
special_none false = refl

negative_none : (x t : ℕ) → to_unsigned 64 (of_fields binary64 true x t) ≡ 0
unfolding of_fields
negative_none zero t = odd_none 53 t 0 1074
negative_none (suc x) t = go (eqb (suc x) 2047)
  where
    go : (b : Bool) → to_unsigned 64 (cond b (cond (eqb t 0) (inf true) nan) (odd 53 true (2 ^ 52 + t) x 1074)) ≡ 0
    go true = special_none (eqb t 0)
    go false = odd_none 53 (2 ^ 52 + t) x 1074

signed_none : (b : ℕ) → 2 ^ 63 ≤ b → to_unsigned 64 (of_bits binary64 b) ≡ 0
unfolding of_bits
signed_none b h =
    ap (λ (s : Bool). to_unsigned 64 (of_fields binary64 s (b % 2 ^ 63 / 2 ^ 52) (b % 2 ^ 52))) (is_true (leb (2 ^ 63) b) (le→leb (2 ^ 63) b h))
    ∙ negative_none (b % 2 ^ 63 / 2 ^ 52) (b % 2 ^ 52)

nan_none : (v : Float) → T (is_nan v) → to_unsigned 64 v ≡ 0
unfolding is_nan to_unsigned
nan_none nan h = refl
nan_none (inf s) h = absurd h
nan_none (fin s m e) h = absurd h

pattern_none : (b : ℕ) → b < 2 ^ 63 → 2047 * 2 ^ 52 < b → to_unsigned 64 (of_bits binary64 b) ≡ 0
pattern_none b h l =
    nan_none (of_bits binary64 b)
    (subst T (nan_bits_is binary64 b) (subst T (sym (nan_bits_above binary64 b)) (lt→ltb (2047 * 2 ^ 52) (b % 2 ^ 63) (subst (λ (y : ℕ). 2047 * 2 ^ 52 < y) (sym (mod-eq_of_lt h)) l))))

from_none : (v : Float) → to_unsigned 64 v ≡ 0 → 0 ≡ axis_index v
from_none v e = sym (axis_is v ∙ ap (λ (u : ℕ). min u 95) e)

pub none_above : (b : ℕ) → 0x7ff0_0000_0000_0001 ≤ b → 0 ≡ axis_index (of_bits binary64 b)
none_above b h = go (leb (2 ^ 63) b) (leb→le (2 ^ 63) b) (nleb→lt (2 ^ 63) b)
  where
    go : (t : Bool) → (T t → 2 ^ 63 ≤ b) → (T (not t) → b < 2 ^ 63) → 0 ≡ axis_index (of_bits binary64 b)
    go true p q = from_none (of_bits binary64 b) (signed_none b (p tt))
    go false p q = from_none (of_bits binary64 b) (pattern_none b (q tt) h)

infinity_top : 95 ≡ axis_index (of_bits binary64 0x7ff0_0000_0000_0000)
infinity_top = sym (axis_is (of_bits binary64 0x7ff0_0000_0000_0000) ∙ ap (λ (u : ℕ). min u 95) whole)
  where
    whole : to_unsigned 64 (of_bits binary64 0x7ff0_0000_0000_0000) ≡ 2 ^ 64 - 1
    whole = unfold to_unsigned of_bits in refl

-- a pattern of a number that is not negative, by its exponent field x and its fraction
module _ (b : ℕ) (low : b < 0x7ff0_0000_0000_0001) where
  abbrev x : ℕ
  x = b / 2 ^ 52

  abbrev t : ℕ
  t = b % 2 ^ 52

  x_small : b / 4503599627370496 < 2048
  x_small = omega arith

  plain : leb (2 ^ 63) b ≡ false
  plain = is_false (leb (2 ^ 63) b) (not_T (leb (2 ^ 63) b) (λ h. no (leb→le (2 ^ 63) b h)))
    where
      no : 9223372036854775808 ≤ b → ⊥
      no h = omega arith

  field_is : exp_field 11 52 b ≡ x
  field_is = mod-eq_of_lt x_small

  units_of : (x ≡ 2047 → ⊥) → HasValue (of_bits binary64 b) false (digits_of 52 x t * 2 ^ (x - 1)) (2 ^ 1074)
  units_of n =
      subst (λ (s : Bool). HasValue (of_bits binary64 b) s (digits_of 52 x t * 2 ^ (x - 1)) (2 ^ 1074)) plain
      (subst (λ (y : ℕ). HasValue (of_bits binary64 b) (leb (2 ^ 63) b) (digits_of 52 y t * 2 ^ (y - 1)) (2 ^ 1074)) field_is
      (pattern_64 b (λ e. n (sym field_is ∙ e))))

  axis_of : (x ≡ 2047 → ⊥) → axis_index (of_bits binary64 b) ≡ min (digits_of 52 x t * 2 ^ (x - 1) / 2 ^ 1074) 95
  axis_of n =
      axis_is (of_bits binary64 b)
      ∙ ap (λ (u : ℕ). min u 95) (whole_of (of_bits binary64 b) (digits_of 52 x t * 2 ^ (x - 1)) (2 ^ 1074) (pow_pos 1074) (units_of n))
      ∙ twice (digits_of 52 x t * 2 ^ (x - 1) / 2 ^ 1074)
    where
      twice : (w : ℕ) → min (min w 18446744073709551615) 95 ≡ min w 95
      twice w = omega arith

  not_ones : x < 2047 → x ≡ 2047 → ⊥
  not_ones h e = omega arith

  frac_lt : t < 2 ^ 52
  frac_lt = mod-lt b (pow_pos 52)

  -- below 1
  pub none_below : x < 1023 → 0 ≡ axis_index (of_bits binary64 b)
  none_below h =
      sym (axis_of (not_ones (less h))
      ∙ ap (λ (u : ℕ). min u 95)
      (div-eq_of_lt (lt_of_lt_of_le (mul-lt-mul_of_pos_right (digits_lt_pow 52 x t frac_lt) (pow_pos (x - 1)))
      (le_trans (le_of_eq (pow_2 53 (x - 1))) (pow_mono (room h))))))
    where
      less : x < 1023 → x < 2047
      less h = omega arith

      room : x < 1023 → 53 + (x - 1) ≤ 1074
      room h = omega arith

  -- from 128 up
  pub top_above : 1029 < x → 95 ≡ axis_index (of_bits binary64 b)
  top_above h = go (eqb x 2047) (eqb→eq x 2047) (λ c e. differs c (eq→eqb e))
    where
      big : (w : ℕ) → 128 ≤ w → 95 ≡ min w 95
      big w l = omega arith

      last : x ≡ 2047 → b ≡ 9218868437227405312
      last e = omega arith

      some : 1029 < x → 0 < x
      some l = omega arith

      room : 1029 < x → 7 + 1074 ≤ 52 + (x - 1)
      room l = omega arith

      at_least : (y : ℕ) → 0 < y → 2 ^ 52 ≤ digits_of 52 y t
      at_least zero l = absurd (lt_irrefl 0 l)
      at_least (suc y) l = le_trans (more (2 ^ 52)) (le_of_eq (sym (digits_suc 52 y t)))
        where
          more : (p : ℕ) → p ≤ p + t
          more p = omega arith

      differs : T (not (eqb x 2047)) → T (eqb x 2047) → ⊥
      differs a c = T_not (eqb x 2047) a c

      go : (c : Bool) → (T c → x ≡ 2047) → (T (not c) → x ≡ 2047 → ⊥) → 95 ≡ axis_index (of_bits binary64 b)
      go true p q = subst (λ (y : ℕ). 95 ≡ axis_index (of_bits binary64 y)) (sym (last (p tt))) infinity_top
      go false p q =
          big (digits_of 52 x t * 2 ^ (x - 1) / 2 ^ 1074)
          ((le-div_iff_mul-le (pow_pos 1074)).1
          (le_trans (le_of_eq (pow_2 7 1074)) (le_trans (pow_mono (room h)) (le_trans (le_of_eq (sym (pow_2 52 (x - 1)))) (mul-le-mul_right (2 ^ (x - 1)) (at_least x (some h)))))))
          ∙ sym (axis_of (q tt))

  -- from 1 up and below 128: the digits before the point
  whole_part : 1023 ≤ x → x ≤ 1029 → axis_index (of_bits binary64 b) ≡ min ((bit_and b (2 ^ 52 - 1) + 2 ^ 52) / 2 ^ (1075 - x)) 95
  whole_part l h =
      axis_of (not_ones (less h))
      ∙ ap (λ (u : ℕ). min u 95)
      (div_same (digits_of 52 x t * 2 ^ (x - 1)) (2 ^ 1074) (digits_of 52 x t) (2 ^ (1075 - x)) (pow_pos 1074) (pow_pos (1075 - x))
      (mul_assoc (digits_of 52 x t) (2 ^ (x - 1)) (2 ^ (1075 - x)) ∙ ap (λ (y : ℕ). digits_of 52 x t * y) (pow_2 (x - 1) (1075 - x) ∙ pow_eq (sum l h))))
      ∙ ap (λ (d : ℕ). min (d / 2 ^ (1075 - x)) 95) (digits_is x t (some l) ∙ ap (λ (y : ℕ). y + 2 ^ 52) (sym (and_mask b 52)))
    where
      less : x ≤ 1029 → x < 2047
      less h = omega arith

      sum : 1023 ≤ x → x ≤ 1029 → x - 1 + (1075 - x) ≡ 1074
      sum l h = omega arith

      some : 1023 ≤ x → 0 < x
      some l = omega arith

  -- w is what the code works out
  pub under_top : 1023 ≤ x → x ≤ 1029 → (bit_and b (2 ^ 52 - 1) + 2 ^ 52) / 2 ^ (1075 - x) < 95 → (bit_and b (2 ^ 52 - 1) + 2 ^ 52) / 2 ^ (1075 - x) ≡ axis_index (of_bits binary64 b)
  under_top l h g = sym (whole_part l h ∙ go ((bit_and b (2 ^ 52 - 1) + 2 ^ 52) / 2 ^ (1075 - x)) g)
    where
      go : (w : ℕ) → w < 95 → min w 95 ≡ w
      go w g = omega arith

  pub at_top : 1023 ≤ x → x ≤ 1029 → 95 ≤ (bit_and b (2 ^ 52 - 1) + 2 ^ 52) / 2 ^ (1075 - x) → 95 ≡ axis_index (of_bits binary64 b)
  at_top l h g = sym (whole_part l h ∙ go ((bit_and b (2 ^ 52 - 1) + 2 ^ 52) / 2 ^ (1075 - x)) g)
    where
      go : (w : ℕ) → 95 ≤ w → min w 95 ≡ 95
      go w g = omega arith

-- a NaN, as its test tells
pub none_at_nan : (v : Float) (r : Bool) → r ≡ is_nan v → r ≡ true → 0 ≡ axis_index v
none_at_nan v r e h = from_none v (subst (λ (y : Float). to_unsigned 64 y ≡ 0) (sym (nan_told v r e h)) (unfold to_unsigned in refl))
