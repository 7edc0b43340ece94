-- Floats from 0 to a whole number k: sums, products and quotients of such, and that up to 2^24 they narrow to a finite float. Assumes nothing.
use Prim.Native.Nat.{ℕ, suc, ◌+◌, ◌*◌, ◌^◌, ◌≤◌, ◌<◌}
use native.Mathlib.Omega.{arith}
use native.Mathlib.Nat.{le_trans, le_of_eq, le_of_lt, mul-one, zero-mul, mul_comm, mul_assoc, mul_right_comm, mul-mul-mul_comm, mul-pos, mul-le-mul, mul-le-mul_right, le_of_mul-le-mul_right, add-mul, add-le-add, lt_irrefl}
use mathlib.Core.Path.{◌≡◌, refl, sym, ap, ◌∙◌, subst}
use mathlib.Core.Bool.{Bool, true, false, cond, ◌&&◌, ◌||◌, true≢false}
use lib.Dec.{T, ltb, eqb, ltb→lt, eqb→eq}
use lib.Pow.{pow_pos}
use lib.Ieee.{Float, nan, inf, fin, Format, prec, emax, low, binary64, binary32, up, down, odd, units, round, add, mul, div, lt, le, of_int}
use lib.Ieee.Fits.{round_is, down_pos, and_l}
use lib.Ieee.Back.{round_whole}
use lib.Ieee.Exact.{HasValue, odd_sign}
use lib.Ieee.Order.{drop, kept, round_mono}
use lib.Ieee.Scale.{finite}
use borrow.Author.Tests.{ne_eqb}
use Rattle.float.specs.Narrow.{narrowed, narrowing, is_large}
use Rattle.float.specs.Number.{num, scalar_max}
use Rattle.float.proofs.Whole.{both_positive, both_plus}

-- x is finite, its sign is clear, and it is at most k
abbrev pub Low : ℕ → Float → Type 0
Low k nan = ⊥
Low k (inf s) = ⊥
Low k (fin s m e) = (s ≡ false) × (m * up e ≤ k * down e)

pub low_more : (j k : ℕ) (x : Float) → j ≤ k → Low j x → Low k x
low_more j k nan h l = l
low_more j k (inf s) h l = l
low_more j k (fin s m e) h l = (l.0, le_trans l.1 (mul-le-mul_right (down e) h))

-- a whole number is at most itself
pub value_low : (x : Float) (n : ℕ) → HasValue x false n 1 → Low n x
value_low nan n h = h
value_low (inf s) n h = h
value_low (fin s m e) n h = (h.0, le_of_eq (sym (mul-one (m * up e)) ∙ h.1))

-- ---- rounding

lt_or_eq : (a b : ℕ) (t : Bool) → T (ltb a b || (eqb a b && t)) → a ≤ b
lt_or_eq a b t h = go (ltb a b) refl h
  where
    go : (u : Bool) → ltb a b ≡ u → T (u || (eqb a b && t)) → a ≤ b
    go true e h = le_of_lt (ltb→lt a b (subst T (sym e) tt))
    go false e h = le_of_eq (eqb→eq a b (and_l (eqb a b) t h))

le_low : (x w : Float) (a c k : ℕ) → HasValue x false a c → HasValue w false k 1 → T (le x w) → Low k x
unfolding le lt
le_low nan w a c k h v l = absurd h
le_low (inf s) w a c k h v l = absurd h
le_low (fin s m e) nan a c k h v l = absurd v
le_low (fin s m e) (inf t) a c k h v l = absurd v
le_low (fin true m e) (fin t n d) a c k h v l = absurd (true≢false h.0)
le_low (fin false m e) (fin true n d) a c k h v l = absurd (true≢false v.0)
le_low (fin false m e) (fin false n d) a c k h v l =
    let is : n * up d ≡ k * down d = sym (mul-one (n * up d)) ∙ v.1 in
    let cross : m * up e * down d ≤ n * up d * down e = lt_or_eq (m * up e * down d) (n * up d * down e) _ l in
    (refl, le_of_mul-le-mul_right (le_trans cross (le_of_eq (ap (λ (z : ℕ). z * down e) is ∙ mul_right_comm k (down d) (down e)))) (down_pos d))

units_low : (f : Format) (q j k : ℕ) (w : Float) → HasValue w false k 1 → T (le (units f false q j) w) → Low k (units f false q j)
unfolding units le
units_low f q j k w v = go (ltb (q * 2 ^ j) (2 ^ (low f + suc (emax f))))
  where
    none : (w : Float) → HasValue w false k 1 → T (le (inf false) w) → ⊥
    none nan v h = v
    none (inf s) v h = v
    none (fin s m e) v h = h

    go : (b : Bool) → T (le (cond b (odd (suc (prec f)) false q j (low f)) (inf false)) w) → Low k (cond b (odd (suc (prec f)) false q j (low f)) (inf false))
    go true l = le_low (odd (suc (prec f)) false q j (low f)) w (q * 2 ^ j) (2 ^ low f) k (odd_sign (suc (prec f)) false q j (low f)) v l
    go false l = absurd (none w v l)

-- a fraction that is at most k, a number of the format, rounds to at most k
pub round_under : (f : Format) (a c k : ℕ) → 0 < c → HasValue (round f false k 1) false k 1 → a ≤ k * c → Low k (round f false a c)
round_under f a c k C v h =
    let n = a * 2 ^ low f in
    let w = round f false k 1 in
    let l : T (le (round f false a c) w) = round_mono f a c k 1 C (pow_pos 0) (le_trans (le_of_eq (mul-one a)) h) in
    subst (Low k) (sym (round_is f false a c))
    (units_low f (kept (prec f) n c) (drop (prec f) n c) k w v
    (subst (λ (z : Float). T (le z w)) (round_is f false a c) l))

-- as every whole number is that has no more digits than the format
pub round_low : (f : Format) (a c k : ℕ) → 0 < c → k ≤ 2 ^ prec f → a ≤ k * c → Low k (round f false a c)
round_low f a c k C few h = round_under f a c k C (round_whole f false k few) h

-- ---- arithmetic

pub add_low : (f : Format) (j k : ℕ) (x y : Float) → j + k ≤ 2 ^ prec f → Low j x → Low k y → Low (j + k) (add f x y)
unfolding add
add_low f j k nan y few h g = absurd h
add_low f j k (inf s) y few h g = absurd h
add_low f j k (fin s m e) nan few h g = absurd g
add_low f j k (fin s m e) (inf t) few h g = absurd g
add_low f j k (fin s m e) (fin t n d) few h g =
    let a = m * up e * down d in
    let b = n * up d * down e in
    let c = down e * down d in
    let x : a ≤ j * c = le_trans (mul-le-mul_right (down d) h.1) (le_of_eq (mul_assoc j (down e) (down d))) in
    let y : b ≤ k * c = le_trans (mul-le-mul_right (down e) g.1) (le_of_eq (mul_assoc k (down d) (down e) ∙ ap (λ (z : ℕ). k * z) (mul_comm (down d) (down e)))) in
    subst (Low (j + k)) (sym (both_positive f s t a b c h.0 g.0))
    (round_low f (a + b) c (j + k) (mul-pos (down_pos e) (down_pos d)) few (le_trans (add-le-add x y) (le_of_eq (sym (add-mul j k c)))))

pub mul_low : (f : Format) (j k : ℕ) (x y : Float) → j * k ≤ 2 ^ prec f → Low j x → Low k y → Low (j * k) (mul f x y)
unfolding mul
mul_low f j k nan y few h g = absurd h
mul_low f j k (inf s) y few h g = absurd h
mul_low f j k (fin s m e) nan few h g = absurd g
mul_low f j k (fin s m e) (inf t) few h g = absurd g
mul_low f j k (fin s m e) (fin t n d) few h g =
    let c = down e * down d in
    subst (Low (j * k)) (sym (both_plus f s t (m * up e * (n * up d)) c h.0 g.0))
    (round_low f (m * up e * (n * up d)) c (j * k) (mul-pos (down_pos e) (down_pos d)) few
    (le_trans (mul-le-mul h.1 g.1) (le_of_eq (mul-mul-mul_comm j (down e) k (down d)))))

-- a quotient of whole numbers
pub div_low : (f : Format) (x y : Float) (a n k : ℕ) → HasValue x false a 1 → HasValue y false n 1 → 0 < n → k ≤ 2 ^ prec f → a ≤ k * n → Low k (div f x y)
unfolding div
div_low f nan y a n k h g some few l = absurd h
div_low f (inf s) y a n k h g some few l = absurd h
div_low f (fin s m e) nan a n k h g some few l = absurd g
div_low f (fin s m e) (inf t) a n k h g some few l = absurd g
div_low f (fin s m e) (fin t o d) a n k h g some few l =
    let one : m * up e ≡ a * down e = sym (mul-one (m * up e)) ∙ h.1 in
    let two : o * up d ≡ n * down d = sym (mul-one (o * up d)) ∙ g.1 in
    let above : 0 < o * up d = subst (λ (z : ℕ). 0 < z) (sym two) (mul-pos some (down_pos d)) in
    let not-zero : eqb o 0 ≡ false = ne_eqb o 0 (λ z. lt_irrefl 0 (subst (λ (u : ℕ). 0 < u) (ap (λ (u : ℕ). u * up d) z ∙ zero-mul (up d)) above)) in
    let left : m * up e * down d ≡ a * (down e * down d) = ap (λ (z : ℕ). z * down d) one ∙ mul_assoc a (down e) (down d) in
    let right : o * up d * down e ≡ n * (down e * down d) = ap (λ (z : ℕ). z * down e) two ∙ mul_assoc n (down d) (down e) ∙ ap (λ (z : ℕ). n * z) (mul_comm (down d) (down e)) in
    let bound : m * up e * down d ≤ k * (o * up d * down e) =
    le_trans (le_of_eq left) (le_trans (mul-le-mul_right (down e * down d) l) (le_of_eq (mul_assoc k n (down e * down d) ∙ ap (λ (z : ℕ). k * z) (sym right)))) in
    rw (not-zero)
    (subst (Low k) (sym (both_plus f s t (m * up e * down d) (o * up d * down e) h.0 g.0))
    (round_low f (m * up e * down d) (o * up d * down e) k (mul-pos above (down_pos e)) few bound))

-- a whole number as a binary64
pub num_value : (n : ℕ) → n ≤ 9007199254740992 → HasValue (num n) false n 1
unfolding of_int
num_value n few = round_whole binary64 false n few

pub num_low : (n k : ℕ) → n ≤ k → k ≤ 9007199254740992 → Low k (num n)
num_low n k h few = low_more n k (num n) h (value_low (num n) n (num_value n (le_trans h few)))

pub max_low : (k : ℕ) (x y : Float) → Low k x → Low k y → Low k (scalar_max x y)
unfolding scalar_max
max_low k x y h g = go (lt x y)
  where
    go : (b : Bool) → Low k (cond b y x)
    go true = g
    go false = h

-- ---- narrowing

-- x narrows to a finite float
abbrev pub Fine : Float → Type 0
Fine x = is_large (narrowing x) ≡ false

low_finite : (k : ℕ) (x : Float) → Low k x → finite x ≡ true
low_finite k nan h = absurd h
low_finite k (inf s) h = absurd h
low_finite k (fin s m e) h = refl

low_narrowed : (k : ℕ) (x : Float) → HasValue (round binary32 false k 1) false k 1 → Low k x → Low k (narrowed x)
unfolding narrowed
low_narrowed k nan v h = absurd h
low_narrowed k (inf s) v h = absurd h
low_narrowed k (fin s m e) v h = rw h.0 (round_under binary32 (m * up e) (down e) k (down_pos e) v h.1)

under_fine : (k : ℕ) (x : Float) → HasValue (round binary32 false k 1) false k 1 → Low k x → Fine x
unfolding narrowing is_large
under_fine k x v h = rw (low_finite k (narrowed x) (low_narrowed k x v h))

pub low_fine : (k : ℕ) (x : Float) → k ≤ 16777216 → Low k x → Fine x
low_fine k x few h = under_fine k x (round_whole binary32 false k few) h

-- a whole number of 32 bits is never too large
pub whole_small : (n : ℕ) → n < 2 ^ 32 → Fine (num n)
whole_small n h = under_fine (2 ^ 32) (num n) (unfold round in (refl, refl)) (num_low n (2 ^ 32) (omega arith) (omega arith))
