-- Laws of floats up to the sign of a zero: a product by 0 or 1, a sum with a zero, and the tests, which do not see a zero's sign. Assumes nothing.
use Prim.Native.Nat.{ℕ, zero, suc, ◌+◌, ◌-◌, ◌*◌, ◌/◌, ◌%◌, ◌^◌, ◌≤◌, ◌<◌}
use native.Mathlib.Nat.{le_trans, le_of_eq, le_of_suc-le-suc, lt_of_not-le, lt_irrefl, not-le_of_lt, eq-zero-or-pos, zero-mul, mul-zero, mul-one, one-mul, mul_comm, mul_assoc, mul_right_comm, mul-pos, mul-le-mul_right, mul-lt-mul_of_pos_right, lt_of_mul-lt-mul_right, eq_of_mul-eq-mul_right, add_comm, add-mul, add-le-add}
use native.Mathlib.Omega.{arith}
use mathlib.Core.Path.{◌≡◌, refl, sym, ap, ◌∙◌, subst}
use mathlib.Core.Logic.{◌⊎◌, inl, inr}
use mathlib.Core.Bool.{Bool, true, false, not, ◌&&◌, ◌||◌, beq, cond}
use lib.IntN.{ℤ, pos, negsuc}
use lib.Dec.{T, leb, ltb, eqb, ltb→lt, nltb→le, lt→ltb, leb→le}
use lib.Pow.{pow-add, pow_pos, pow-lt}
use lib.Ieee.{Float, nan, inf, fin, Format, prec, emax, low, up, down, unlike, hid, top, size, odd, units, round, sum, neg, add, sub, mul, lt, eq, le, fits, of_bits, to_bits}
use lib.Ieee.Digits.{back}
use lib.Ieee.Fits.{round_is, round-fits, up_pos, down_pos, and_i, and_l, and_r, eq→eqb}
use lib.Ieee.Bits.{of_bits-to_bits}
use lib.Ieee.Back.{round_whole}
use lib.Ieee.Exact.{HasValue, round_exact}
use lib.Ieee.Nearest.{div_same}
use lib.Ieee.Order.{drop, kept, round_mono}
use lib.Ieee.Scale.{finite}
use lib.Ieee.Positive.{num, den, positive}

-- ---- a value has one form that fits

abbrev pattern : Format → Bool → ℕ → ℕ
pattern f s n = cond s (top f) 0 + (size n - prec f) * hid f + n / 2 ^ (size n - prec f)

pattern_of : (f : Format) (x : Float) (s : Bool) (a c : ℕ) → 0 < c → HasValue x s a c → to_bits f x ≡ pattern f s (a * 2 ^ low f / c)
unfolding to_bits
pattern_of f nan s a c C h = absurd h
pattern_of f (inf t) s a c C h = absurd h
pattern_of f (fin t m e) s a c C h =
    let l = 2 ^ low f in
    ap (λ (r : Bool). pattern f r (m * up e * l / down e)) h.0
    ∙ ap (λ (n : ℕ). pattern f s n)
    (div_same (m * up e * l) (down e) (a * l) c (down_pos e) C (mul_right_comm (m * up e) l c ∙ ap (λ (z : ℕ). z * l) h.1 ∙ mul_right_comm a (down e) l))

pub value_unique : (f : Format) (x y : Float) (s : Bool) (a c : ℕ) → 0 < c → T (fits f x) → T (fits f y) → HasValue x s a c → HasValue y s a c → x ≡ y
value_unique f x y s a c C p q h k =
    sym (of_bits-to_bits f x p)
    ∙ ap (λ (n : ℕ). of_bits f n) (pattern_of f x s a c C h ∙ sym (pattern_of f y s a c C k))
    ∙ of_bits-to_bits f y q

-- ---- a value that fits rounds to itself

pow_le_back : (a l : ℕ) → 2 ^ a ≤ 2 ^ l → a ≤ l
pow_le_back a l h = le_of_suc-le-suc (lt_of_not-le (λ (g : suc l ≤ a). not-le_of_lt (pow-lt g) h))

-- 2 ^ e in units of 2 ^ -l
place : (l : ℕ) (e : ℤ) → down e ≤ 2 ^ l → (j : ℕ) × ((m : ℕ) → m * up e * 2 ^ l ≡ m * 2 ^ j * down e)
place l (pos k) h = (k + l, λ (m : ℕ). mul_assoc m (2 ^ k) (2 ^ l) ∙ ap (λ (z : ℕ). m * z) (sym (pow-add 2 k l)) ∙ sym (mul-one (m * 2 ^ (k + l))))
place l (negsuc k) h = (
  l - suc k,
  λ (m : ℕ).
      ap (λ (z : ℕ). z * 2 ^ l) (mul-one m)
      ∙ ap (λ (z : ℕ). m * z) (ap (λ (z : ℕ). 2 ^ z) (sym (back l (suc k) (pow_le_back (suc k) l h))) ∙ pow-add 2 (l - suc k) (suc k))
      ∙ sym (mul_assoc m (2 ^ (l - suc k)) (2 ^ suc k)),
)

exact : (f : Format) (s : Bool) (m : ℕ) (e : ℤ) (a c : ℕ) → 0 < c → m < 2 ^ prec f → down e ≤ 2 ^ low f → m * up e < 2 ^ suc (emax f) * down e → a * down e ≡ m * up e * c
    → HasValue (round f s a c) s a c
exact f s m e a c C few near far h =
    let l = 2 ^ low f in
    let p = place (low f) e near in
    let j = p.0 in
    let at : m * up e * l ≡ m * 2 ^ j * down e = p.1 m in
    let less : m * 2 ^ j * down e < 2 ^ (low f + suc (emax f)) * down e =
    subst (λ (z : ℕ). z < 2 ^ (low f + suc (emax f)) * down e) at
    (subst (λ (z : ℕ). m * up e * l < z)
    (mul_right_comm (2 ^ suc (emax f)) (down e) l ∙ ap (λ (z : ℕ). z * down e) (mul_comm (2 ^ suc (emax f)) l ∙ sym (pow-add 2 (low f) (suc (emax f)))))
    (mul-lt-mul_of_pos_right far (pow_pos (low f)))) in
    let is : a * l * down e ≡ m * 2 ^ j * c * down e =
    mul_right_comm a l (down e) ∙ ap (λ (z : ℕ). z * l) h ∙ mul_right_comm (m * up e) c l ∙ ap (λ (z : ℕ). z * c) at ∙ mul_right_comm (m * 2 ^ j) (down e) c in
    round_exact f s a c m j C few (lt_of_mul-lt-mul_right (down e) less) (eq_of_mul-eq-mul_right (down e) (down_pos e) (a * l) (m * 2 ^ j * c) is)

-- a product that is 0 by a factor above 0
pub none : (n u : ℕ) → 0 < u → n * u ≡ 0 → n ≡ 0
none n u U h = elim (eq-zero-or-pos n) [ inl z ↦ z | inr p ↦ absurd (lt_irrefl 0 (subst (λ (k : ℕ). 0 < k) h (mul-pos p U))) ]

exact_zero : (f : Format) (s : Bool) (a c : ℕ) → 0 < c → a ≡ 0 → HasValue (round f s a c) s a c
exact_zero f s a c C z =
    round_exact f s a c 0 0 C (pow_pos (prec f)) (subst (λ (k : ℕ). k < 2 ^ (low f + suc (emax f))) (sym (zero-mul (2 ^ 0))) (pow_pos (low f + suc (emax f))))
    (ap (λ (k : ℕ). k * 2 ^ low f) z ∙ zero-mul (2 ^ low f) ∙ sym (ap (λ (k : ℕ). k * c) (zero-mul (2 ^ 0)) ∙ zero-mul c))

exact_fits : (f : Format) (s : Bool) (m : ℕ) (e : ℤ) → T (fits f (fin s m e)) → (a c : ℕ) → 0 < c → a * down e ≡ m * up e * c → HasValue (round f s a c) s a c
unfolding fits
exact_fits f s zero e p a c C h = exact_zero f s a c C (none a (down e) (down_pos e) (h ∙ ap (λ (k : ℕ). k * c) (zero-mul (up e)) ∙ zero-mul c))
exact_fits f s (suc m) e p a c C h =
    let w : Bool = eqb (suc m % 2) 1 in
    let x : Bool = ltb (suc m) (2 ^ prec f) in
    let y : Bool = leb (down e) (2 ^ low f) in
    let z : Bool = ltb (suc m * up e) (2 ^ suc (emax f) * down e) in
    exact f s (suc m) e a c C
    (ltb→lt (suc m) (2 ^ prec f) (and_r w x (and_l (w && x) y (and_l (w && x && y) z p))))
    (leb→le (down e) (2 ^ low f) (and_r (w && x) y (and_l (w && x && y) z p)))
    (ltb→lt (suc m * up e) (2 ^ suc (emax f) * down e) (and_r (w && x && y) z p))
    h

pub round_back : (f : Format) (s : Bool) (m : ℕ) (e : ℤ) → T (fits f (fin s m e)) → (a c : ℕ) → 0 < c → a * down e ≡ m * up e * c → round f s a c ≡ fin s m e
round_back f s m e p a c C h = value_unique f (round f s a c) (fin s m e) s a c C (round-fits f s a c) p (exact_fits f s m e p a c C h) (refl, sym h)

-- ---- zeros, and what is the same up to the sign of a zero

abbrev pub Zero : Float → Type 0
Zero nan = ⊥
Zero (inf s) = ⊥
Zero (fin s m e) = m ≡ 0

abbrev pub Same : Float → Float → Type 0
Same x y = (x ≡ y) ⊎ (Zero x × Zero y)

pub same_sym : (x y : Float) → Same x y → Same y x
same_sym x y (inl e) = inl (sym e)
same_sym x y (inr h) = inr (h.1, h.0)

pub same_zero : (x y : Float) → Same x y → Zero y → Zero x
same_zero x y (inl e) z = subst Zero (sym e) z
same_zero x y (inr h) z = h.0

pub same_trans : (x y z : Float) → Same x y → Same y z → Same x z
same_trans x y z (inl e) h = subst (λ (k : Float). Same k z) (sym e) h
same_trans x y z (inr h) k = inr (h.0, same_zero z y (same_sym y z k) h.1)

value_zero : (x : Float) (s : Bool) (a c : ℕ) → 0 < c → a ≡ 0 → HasValue x s a c → Zero x
value_zero nan s a c C z h = absurd h
value_zero (inf t) s a c C z h = absurd h
value_zero (fin t m e) s a c C z h = none m (up e) (up_pos e) (none (m * up e) c C (h.1 ∙ ap (λ (k : ℕ). k * down e) z ∙ zero-mul (down e)))

pub round_zero : (f : Format) (s : Bool) (a c : ℕ) → 0 < c → a ≡ 0 → Zero (round f s a c)
round_zero f s a c C z = value_zero (round f s a c) s a c C z (exact_zero f s a c C z)

-- ---- negation

pub neg_zero : (x : Float) → Zero x → Zero (neg x)
unfolding neg
neg_zero nan z = z
neg_zero (inf s) z = z
neg_zero (fin s m e) z = z

odd_neg : (d : ℕ) (s : Bool) (q k l : ℕ) → odd d (not s) q k l ≡ neg (odd d s q k l)
unfolding odd neg
odd_neg d s zero k l = refl
odd_neg d s (suc q) k l = refl

units_neg : (f : Format) (s : Bool) (q k : ℕ) → units f (not s) q k ≡ neg (units f s q k)
unfolding units neg
units_neg f s q k = go (ltb (q * 2 ^ k) (2 ^ (low f + suc (emax f))))
  where
    go : (b : Bool) → cond b (odd (suc (prec f)) (not s) q k (low f)) (inf (not s)) ≡ neg (cond b (odd (suc (prec f)) s q k (low f)) (inf s))
    go true = odd_neg (suc (prec f)) s q k (low f)
    go false = refl

pub round_neg : (f : Format) (s : Bool) (a c : ℕ) → round f (not s) a c ≡ neg (round f s a c)
round_neg f s a c =
    let n = a * 2 ^ low f in
    round_is f (not s) a c
    ∙ units_neg f s (kept (prec f) n c) (drop (prec f) n c)
    ∙ ap neg (sym (round_is f s a c))

unlike_not : (s t : Bool) → unlike s (not t) ≡ not (unlike s t)
unlike_not true true = refl
unlike_not true false = refl
unlike_not false true = refl
unlike_not false false = refl

inf_neg : (b s t : Bool) → cond b nan (inf (unlike s (not t))) ≡ neg (cond b nan (inf (unlike s t)))
unfolding neg
inf_neg true s t = refl
inf_neg false s t = ap inf (unlike_not s t)

pub mul_neg : (f : Format) (x y : Float) → mul f x (neg y) ≡ neg (mul f x y)
unfolding mul neg
mul_neg f nan y = refl
mul_neg f (inf s) nan = refl
mul_neg f (inf s) (inf t) = ap inf (unlike_not s t)
mul_neg f (inf s) (fin t n d) = inf_neg (eqb n 0) s t
mul_neg f (fin s m e) nan = refl
mul_neg f (fin s m e) (inf t) = inf_neg (eqb m 0) s t
mul_neg f (fin s m e) (fin t n d) =
    let a = m * up e * (n * up d) in
    let c = down e * down d in
    ap (λ (r : Bool). round f r a c) (unlike_not s t) ∙ round_neg f (unlike s t) a c

-- ---- a product by a zero, and by 1

nil_left : (a u v : ℕ) → a ≡ 0 → a * u * v ≡ 0
nil_left a u v z = ap (λ (k : ℕ). k * u * v) z ∙ ap (λ (k : ℕ). k * v) (zero-mul u) ∙ zero-mul v

nil_right : (a n u : ℕ) → n ≡ 0 → a * (n * u) ≡ 0
nil_right a n u z = ap (λ (k : ℕ). a * (k * u)) z ∙ ap (λ (k : ℕ). a * k) (zero-mul u) ∙ mul-zero a

pub zero_times : (f : Format) (x y : Float) → Zero x → T (finite y) → Zero (mul f x y)
unfolding mul
zero_times f nan y z h = absurd z
zero_times f (inf s) y z h = absurd z
zero_times f (fin s m e) nan z h = absurd h
zero_times f (fin s m e) (inf t) z h = absurd h
zero_times f (fin s m e) (fin t n d) z h =
    round_zero f (unlike s t) (m * up e * (n * up d)) (down e * down d) (mul-pos (down_pos e) (down_pos d)) (nil_left m (up e) (n * up d) z)

pub times_zero : (f : Format) (x y : Float) → T (finite x) → Zero y → Zero (mul f x y)
unfolding mul
times_zero f nan y h z = absurd h
times_zero f (inf s) y h z = absurd h
times_zero f (fin s m e) nan h z = absurd z
times_zero f (fin s m e) (inf t) h z = absurd z
times_zero f (fin s m e) (fin t n d) h z =
    round_zero f (unlike s t) (m * up e * (n * up d)) (down e * down d) (mul-pos (down_pos e) (down_pos d)) (nil_right (m * up e) n (up d) z)

inf_times_zero : (f : Format) (s : Bool) (y : Float) → Zero y → mul f (inf s) y ≡ nan
unfolding mul
inf_times_zero f s nan z = absurd z
inf_times_zero f s (inf t) z = absurd z
inf_times_zero f s (fin t n d) z = rw z

pub mul_same : (f : Format) (x y y' : Float) → Same y y' → Same (mul f x y) (mul f x y')
mul_same f x y y' (inl e) = inl (ap (λ (k : Float). mul f x k) e)
mul_same f nan y y' (inr h) = inl (nan_times y ∙ sym (nan_times y'))
  where
    nan_times : (k : Float) → mul f nan k ≡ nan
    nan_times k = unfold mul in refl
mul_same f (inf s) y y' (inr h) = inl (inf_times_zero f s y h.0 ∙ sym (inf_times_zero f s y' h.1))
mul_same f (fin s m e) y y' (inr h) = inr (times_zero f (fin s m e) y tt h.0, times_zero f (fin s m e) y' tt h.1)

unlike_false : (t : Bool) → unlike false t ≡ t
unlike_false true = refl
unlike_false false = refl

pub one_times : (f : Format) (x : Float) → T (fits f x) → mul f (fin false 1 (pos 0)) x ≡ x
unfolding mul
one_times f nan p = refl
one_times f (inf t) p = ap inf (unlike_false t)
one_times f (fin t n d) p =
    let a = 1 * up (pos 0) * (n * up d) in
    let c = down (pos 0) * down d in
    ap (λ (r : Bool). round f r a c) (unlike_false t)
    ∙ round_back f t n d p a c (mul-pos (pow_pos 0) (down_pos d)) (same (n * up d) (down d))
  where
    same : (u v : ℕ) → 1 * 1 * u * v ≡ u * (1 * v)
    same u v = ap (λ (k : ℕ). k * v) (one-mul u) ∙ ap (λ (k : ℕ). u * k) (sym (one-mul v))

-- ---- a sum

never : (a b : ℕ) → a < b → b < a → ⊥
never a b h k = omega arith

no_rest : (a b : ℕ) → a ≤ b → b ≤ a → a - b ≡ b - a
no_rest a b h k = omega arith

sum_unlike : (f : Format) (a b c : ℕ) (x y : Bool) → (T x → a < b) → (T (not x) → b ≤ a) → (T y → b < a) → (T (not y) → a ≤ b)
    → cond x (round f false (b - a) c) (round f y (a - b) c) ≡ cond y (round f true (a - b) c) (round f false (b - a) c)
sum_unlike f a b c true true h h' k k' = absurd (never a b (h tt) (k tt))
sum_unlike f a b c true false h h' k k' = refl
sum_unlike f a b c false true h h' k k' = refl
sum_unlike f a b c false false h h' k k' = ap (λ (n : ℕ). round f false n c) (no_rest a b (k' tt) (h' tt))

sum_sym : (f : Format) (s : Bool) (a : ℕ) (t : Bool) (b c : ℕ) → sum f s a t b c ≡ sum f t b s a c
unfolding sum
sum_sym f true a true b c = ap (λ (k : ℕ). round f true k c) (add_comm a b)
sum_sym f false a false b c = ap (λ (k : ℕ). round f false k c) (add_comm a b)
sum_sym f true a false b c = sum_unlike f a b c (ltb a b) (ltb b a) (ltb→lt a b) (nltb→le a b) (ltb→lt b a) (nltb→le b a)
sum_sym f false a true b c = sym (sum_unlike f b a c (ltb b a) (ltb a b) (ltb→lt b a) (nltb→le b a) (ltb→lt a b) (nltb→le a b))

inf_sym : (s t : Bool) → cond (beq s t) (inf s) nan ≡ cond (beq t s) (inf t) nan
inf_sym true true = refl
inf_sym true false = refl
inf_sym false true = refl
inf_sym false false = refl

pub add_sym : (f : Format) (x y : Float) → add f x y ≡ add f y x
unfolding add
add_sym f nan nan = refl
add_sym f nan (inf t) = refl
add_sym f nan (fin t n d) = refl
add_sym f (inf s) nan = refl
add_sym f (inf s) (inf t) = inf_sym s t
add_sym f (inf s) (fin t n d) = refl
add_sym f (fin s m e) nan = refl
add_sym f (fin s m e) (inf t) = refl
add_sym f (fin s m e) (fin t n d) =
    let a = m * up e * down d in
    let b = n * up d * down e in
    sum_sym f s a t b (down e * down d) ∙ ap (λ (c : ℕ). sum f t b s a c) (mul_comm (down e) (down d))

-- a zero and n * 2 ^ d, which is b / c
sum_zero : (f : Format) (s : Bool) (a : ℕ) (t : Bool) (b c n : ℕ) (d : ℤ) → 0 < c → a ≡ 0 → T (fits f (fin t n d)) → b * down d ≡ n * up d * c → Same (sum f s a t b c) (fin t n d)
unfolding sum
sum_zero f s a t b c n d C z p h = go s t p (ltb a b) (nltb→le a b)
  where
    plus : (a b : ℕ) → a ≡ 0 → a + b ≡ b
    plus a b z = omega arith

    less : (a b : ℕ) → a ≡ 0 → b - a ≡ b
    less a b z = omega arith

    over : (a b : ℕ) → a ≡ 0 → a - b ≡ 0
    over a b z = omega arith

    both : (a b : ℕ) → a ≡ 0 → b ≤ a → b ≡ 0
    both a b z l = omega arith

    is : (t : Bool) → T (fits f (fin t n d)) → (k : ℕ) → k ≡ b → round f t k c ≡ fin t n d
    is t p k e = round_back f t n d p k c C (ap (λ (i : ℕ). i * down d) e ∙ h)

    nothing : b ≡ 0 → n ≡ 0
    nothing e = none n (up d) (up_pos d) (none (n * up d) c C (sym h ∙ ap (λ (i : ℕ). i * down d) e ∙ zero-mul (down d)))

    unlike_signs : (r t : Bool) → T (fits f (fin t n d)) → (x : Bool) → (T (not x) → b ≤ a) → Same (cond x (round f t (b - a) c) (round f r (a - b) c)) (fin t n d)
    unlike_signs r t p true l = inl (is t p (b - a) (less a b z))
    unlike_signs r t p false l = inr (round_zero f r (a - b) c C (over a b z), nothing (both a b z (l tt)))

    go : (s t : Bool) → T (fits f (fin t n d)) → (x : Bool) → (T (not x) → b ≤ a)
        → Same (cond (beq s t) (round f s (a + b) c) (cond x (round f t (b - a) c) (round f (s && ltb b a) (a - b) c))) (fin t n d)
    go true true p x l = inl (is true p (a + b) (plus a b z))
    go false false p x l = inl (is false p (a + b) (plus a b z))
    go true false p x l = unlike_signs (true && ltb b a) false p x l
    go false true p x l = unlike_signs (false && ltb b a) true p x l

pub zero_plus : (f : Format) (x y : Float) → Zero x → T (fits f y) → Same (add f x y) y
unfolding add
zero_plus f nan y z p = absurd z
zero_plus f (inf s) y z p = absurd z
zero_plus f (fin s m e) nan z p = inl refl
zero_plus f (fin s m e) (inf t) z p = inl refl
zero_plus f (fin s m e) (fin t n d) z p =
    sum_zero f s (m * up e * down d) t (n * up d * down e) (down e * down d) n d (mul-pos (down_pos e) (down_pos d)) (nil_left m (up e) (down d) z) p
    (mul_assoc (n * up d) (down e) (down d))

pub plus_zero : (f : Format) (x y : Float) → T (fits f x) → Zero y → Same (add f x y) x
plus_zero f x y p z = subst (λ (k : Float). Same k x) (add_sym f y x) (zero_plus f y x z p)

pub add_same_left : (f : Format) (x x' y : Float) → T (fits f y) → Same x x' → Same (add f x y) (add f x' y)
add_same_left f x x' y p (inl e) = inl (ap (λ (k : Float). add f k y) e)
add_same_left f x x' y p (inr h) =
    same_trans (add f x y) y (add f x' y) (zero_plus f x y h.0 p) (same_sym (add f x' y) y (zero_plus f x' y h.1 p))

pub add_same : (f : Format) (x x' y y' : Float) → T (fits f x') → T (fits f y) → Same x x' → Same y y' → Same (add f x y) (add f x' y')
add_same f x x' y y' p q h k =
    let right : Same (add f y x') (add f y' x') = add_same_left f y y' x' p k in
    same_trans (add f x y) (add f x' y) (add f x' y') (add_same_left f x x' y q h)
    (subst (λ (i : Float). Same i (add f x' y')) (add_sym f y x') (subst (λ (i : Float). Same (add f y x') i) (add_sym f y' x') right))

-- ---- the tests of a zero

over_nothing : (a b : ℕ) → a ≡ 0 → 0 < b → a < b
over_nothing a b z h = subst (λ (k : ℕ). k < b) (sym z) h

some : (a b : ℕ) → 0 < b → 0 < a + b
some a b h = omega arith

pub zero_lt : (x y : Float) → Zero x → T (positive y) → T (lt x y)
unfolding lt
zero_lt nan y z p = absurd z
zero_lt (inf s) y z p = absurd z
zero_lt (fin s m e) nan z p = absurd p
zero_lt (fin s m e) (inf t) z p = absurd p
zero_lt (fin s m e) (fin true n d) z p = absurd p
zero_lt (fin true m e) (fin false n d) z p =
    let b = n * up d * down e in
    lt→ltb 0 (m * up e * down d + b) (some (m * up e * down d) b (mul-pos (mul-pos (ltb→lt 0 n p) (up_pos d)) (down_pos e)))
zero_lt (fin false m e) (fin false n d) z p =
    let b = n * up d * down e in
    lt→ltb (m * up e * down d) b (over_nothing (m * up e * down d) b (nil_left m (up e) (down d) z) (mul-pos (mul-pos (ltb→lt 0 n p) (up_pos d)) (down_pos e)))

or_left : (a b : Bool) → T a → T (a || b)
or_left true b t = tt
or_left false b t = absurd t

or_right : (a b : Bool) → T b → T (a || b)
or_right true b t = tt
or_right false b t = t

zero_eq : (x y : Float) → Zero x → Zero y → T (eq x y)
unfolding eq
zero_eq nan y z w = absurd z
zero_eq (inf s) y z w = absurd z
zero_eq (fin s m e) nan z w = absurd w
zero_eq (fin s m e) (inf t) z w = absurd w
zero_eq (fin s m e) (fin t n d) z w =
    let a = m * up e * down d in
    let b = n * up d * down e in
    let x : a ≡ 0 = nil_left m (up e) (down d) z in
    and_i (eqb a b) (beq s t || eqb a 0) (eq→eqb (x ∙ sym (nil_left n (up d) (down e) w))) (or_right (beq s t) (eqb a 0) (eq→eqb x))

pub zero_le_zero : (x y : Float) → Zero x → Zero y → T (le x y)
unfolding le
zero_le_zero x y z w = or_right (lt x y) (eq x y) (zero_eq x y z w)

pub zero_le_positive : (x y : Float) → Zero x → T (positive y) → T (le x y)
unfolding le
zero_le_positive x y z p = or_left (lt x y) (eq x y) (zero_lt x y z p)

-- ---- a difference of two numbers that are at most k is finite

odd_finite : (d : ℕ) (s : Bool) (q k l : ℕ) → T (finite (odd d s q k l))
unfolding odd
odd_finite d s zero k l = tt
odd_finite d s (suc q) k l = tt

inf_over : (y : Float) → T (finite y) → T (le (inf false) y) → ⊥
unfolding le
inf_over nan h k = h
inf_over (inf t) h k = h
inf_over (fin t n d) h k = k

units_finite : (f : Format) (s : Bool) (q k : ℕ) (y : Float) → T (finite y) → T (le (units f false q k) y) → T (finite (units f s q k))
unfolding units
units_finite f s q k y h = go (ltb (q * 2 ^ k) (2 ^ (low f + suc (emax f))))
  where
    go : (b : Bool) → T (le (cond b (odd (suc (prec f)) false q k (low f)) (inf false)) y) → T (finite (cond b (odd (suc (prec f)) s q k (low f)) (inf s)))
    go true l = odd_finite (suc (prec f)) s q k (low f)
    go false l = absurd (inf_over y h l)

value_finite : (x : Float) (s : Bool) (a c : ℕ) → HasValue x s a c → T (finite x)
value_finite nan s a c h = h
value_finite (inf t) s a c h = h
value_finite (fin t m e) s a c h = tt

round_finite : (f : Format) (s : Bool) (a c k : ℕ) → 0 < c → k ≤ 2 ^ prec f → a ≤ k * c → T (finite (round f s a c))
round_finite f s a c k C few h =
    let n = a * 2 ^ low f in
    let w = round f false k 1 in
    let l : T (le (round f false a c) w) = round_mono f a c k 1 C (pow_pos 0) (le_trans (le_of_eq (mul-one a)) h) in
    subst (λ (z : Float). T (finite z)) (sym (round_is f s a c))
    (units_finite f s (kept (prec f) n c) (drop (prec f) n c) w (value_finite w false k 1 (round_whole f false k few))
    (subst (λ (z : Float). T (le z w)) (round_is f false a c) l))

sum_finite : (f : Format) (s : Bool) (a : ℕ) (t : Bool) (b c k : ℕ) → 0 < c → k ≤ 2 ^ prec f → a + b ≤ k * c → T (finite (sum f s a t b c))
unfolding sum
sum_finite f s a t b c k C few h = go (beq s t) (ltb a b)
  where
    first : (n : ℕ) → a + b ≤ n → a - b ≤ n
    first n h = omega arith

    second : (n : ℕ) → a + b ≤ n → b - a ≤ n
    second n h = omega arith

    go : (x y : Bool) → T (finite (cond x (round f s (a + b) c) (cond y (round f t (b - a) c) (round f (s && ltb b a) (a - b) c))))
    go true y = round_finite f s (a + b) c k C few h
    go false true = round_finite f t (b - a) c k C few (second (k * c) h)
    go false false = round_finite f (s && ltb b a) (a - b) c k C few (first (k * c) h)

-- x is finite, of magnitude at most k
abbrev pub UpTo : ℕ → Float → Type 0
UpTo k x = T (finite x) × (num x ≤ k * den x)

pub sub_finite : (f : Format) (k : ℕ) (x y : Float) → k + k ≤ 2 ^ prec f → UpTo k x → UpTo k y → T (finite (sub f x y))
unfolding sub
sub_finite f k nan y few h g = absurd h.0
sub_finite f k (inf s) y few h g = absurd h.0
sub_finite f k (fin s m e) nan few h g = absurd g.0
sub_finite f k (fin s m e) (inf t) few h g = absurd g.0
sub_finite f k (fin s m e) (fin t n d) few h g =
    let a = m * up e * down d in
    let b = n * up d * down e in
    let c = down e * down d in
    let x : a ≤ k * c = le_trans (mul-le-mul_right (down d) h.1) (le_of_eq (mul_assoc k (down e) (down d))) in
    let y : b ≤ k * c = le_trans (mul-le-mul_right (down e) g.1) (le_of_eq (mul_assoc k (down d) (down e) ∙ ap (λ (z : ℕ). k * z) (mul_comm (down d) (down e)))) in
    sum_finite f s a (not t) b c (k + k) (mul-pos (down_pos e) (down_pos d)) few (le_trans (add-le-add x y) (le_of_eq (sym (add-mul k k c))))
