-- Steps in floats that keep the order: a sum of finite numbers, and a product or a quotient by one positive number. Assumes nothing.
use Prim.Native.Nat.{ℕ, ◌+◌, ◌-◌, ◌*◌, ◌≤◌, ◌<◌}
use native.Mathlib.Nat.{mul_comm, mul-mul-mul_comm, mul-pos, mul-le-mul_right, zero-mul}
use native.Mathlib.Omega.{arith}
use mathlib.Core.Path.{◌≡◌, refl, sym, ap}
use mathlib.Core.Bool.{Bool, true, false, not, ◌&&◌, beq, cond}
use lib.IntN.{ℤ}
use lib.Dec.{T, ltb, eqb, ltb→lt, nltb→le}
use lib.Ieee.{Float, nan, inf, fin, Format, up, down, unlike, round, sum, add, mul, div, lt, eq, le}
use lib.Ieee.Fits.{down_pos, up_pos}
use lib.Ieee.Scale.{finite}
use borrow.Author.Tests.{ne_eqb}
use Rattle.inside_laws.proofs.Signed.{plus, minus, le_under, under_times, Signed, round_signed, round_order}

-- ---- a sum

-- z is rounded from the signed number that ±a and ±b are together, over c
pub record Total (f : Format) (z : Float) (s : Bool) (a : ℕ) (t : Bool) (b c : ℕ) : Type 0 where
  pub sign : Bool
  pub size : ℕ
  pub rounded : z ≡ round f sign size c
  pub few : size ≤ a + b
  pub exact : plus sign size + (minus s a + minus t b) ≡ minus sign size + (plus s a + plus t b)

pub total : (f : Format) (s : Bool) (a : ℕ) (t : Bool) (b c : ℕ) → Total f (sum f s a t b c) s a t b c
unfolding sum
total f s a t b c = go s t (ltb a b) (ltb b a) (ltb→lt a b) (nltb→le a b) (ltb→lt b a) (nltb→le b a)
  where
    go : (s t x y : Bool) → (T x → a < b) → (T (not x) → b ≤ a) → (T y → b < a) → (T (not y) → a ≤ b)
        → Total f (cond (beq s t) (round f s (a + b) c) (cond x (round f t (b - a) c) (round f (s && y) (a - b) c))) s a t b c
    go true true x y h h' k k' = record { sign = true; size = a + b; rounded = refl; few = omega arith; exact = omega arith }
    go false false x y h h' k k' = record { sign = false; size = a + b; rounded = refl; few = omega arith; exact = omega arith }
    go true false true y h h' k k' = let l = h tt in record { sign = false; size = b - a; rounded = refl; few = omega arith; exact = omega arith }
    go true false false true h h' k k' = let l = k tt in record { sign = true; size = a - b; rounded = refl; few = omega arith; exact = omega arith }
    go true false false false h h' k k' = let l = k' tt in let m = h' tt in record { sign = false; size = a - b; rounded = refl; few = omega arith; exact = omega arith }
    go false true true y h h' k k' = let l = h tt in record { sign = true; size = b - a; rounded = refl; few = omega arith; exact = omega arith }
    go false true false y h h' k k' = let l = h' tt in record { sign = false; size = a - b; rounded = refl; few = omega arith; exact = omega arith }

-- the parts of a multiple
plus_times : (s : Bool) (a k : ℕ) → plus s (a * k) ≡ plus s a * k
plus_times true a k = sym (zero-mul k)
plus_times false a k = refl

minus_times : (s : Bool) (a k : ℕ) → minus s (a * k) ≡ minus s a * k
minus_times true a k = refl
minus_times false a k = sym (zero-mul k)

in_parts : (s : Bool) (x q : ℕ) (t : Bool) (y p n mn : ℕ) → n + (minus s (x * q) + minus t (y * p)) ≡ mn + (plus s (x * q) + plus t (y * p))
    → n + (minus s x * q + minus t y * p) ≡ mn + (plus s x * q + plus t y * p)
in_parts s x q t y p n mn e = rw (← minus_times s x q, ← minus_times t y p, ← plus_times s x q, ← plus_times t y p) e

-- x over p at most x' over p', all as parts above and below 0, and both over further denominators
over : (x mx p x' mx' p' q q' : ℕ) → x * p' + mx' * p ≤ x' * p + mx * p' → x * q * (p' * q') + mx' * q' * (p * q) ≤ x' * q' * (p * q) + mx * q * (p' * q')
over x mx p x' mx' p' q q' h = omega (arith, mul-le-mul_right (q * q') h)

sums : (x mx p y my q x' mx' p' y' my' q' n mn n' mn' : ℕ)
    → x * p' + mx' * p ≤ x' * p + mx * p'
    → y * q' + my' * q ≤ y' * q + my * q'
    → n + (mx * q + my * p) ≡ mn + (x * q + y * p)
    → n' + (mx' * q' + my' * p') ≡ mn' + (x' * q' + y' * p')
    → n * (p' * q') + mn' * (p * q) ≤ n' * (p * q) + mn * (p' * q')
sums x mx p y my q x' mx' p' y' my' q' n mn n' mn' h k e g =
    together _ _ _ _ _ _ _ _ _ _ _ _ (over x mx p x' mx' p' q q' h) (rw (mul_comm q' p', mul_comm q p) at (over y my q y' my' q' p p' k))
    (apart n (mx * q) (my * p) mn (x * q) (y * p) (p' * q') e) (apart n' (mx' * q') (my' * p') mn' (x' * q') (y' * p') (p * q) g)
  where
    apart : (n a b m c d k : ℕ) → n + (a + b) ≡ m + (c + d) → n * k + (a * k + b * k) ≡ m * k + (c * k + d * k)
    apart n a b m c d k e = omega (arith, ap (λ (z : ℕ). z * k) e)

    together : (a b c d a' b' c' d' n m n' m' : ℕ) → a + b ≤ c + d → a' + b' ≤ c' + d' → n + (d + d') ≡ m + (a + a') → n' + (b + b') ≡ m' + (c + c') → n + m' ≤ n' + m
    together a b c d a' b' c' d' n m n' m' h k e g = omega arith

-- the order of two finite numbers, as parts
fin_parts : (s : Bool) (m : ℕ) (e : ℤ) (t : Bool) (n : ℕ) (d : ℤ) → T (le (fin s m e) (fin t n d))
    → plus s (m * up e) * down d + minus t (n * up d) * down e ≤ plus t (n * up d) * down e + minus s (m * up e) * down d
unfolding le lt eq
fin_parts s m e t n d h =
    rw (← plus_times s (m * up e) (down d), ← minus_times t (n * up d) (down e), ← plus_times t (n * up d) (down e), ← minus_times s (m * up e) (down d))
    (le_under s (m * up e * down d) t (n * up d * down e) h)

pub add_mono : (f : Format) (x y x' y' : Float) → T (finite x) → T (finite y) → T (finite x') → T (finite y') → T (le x x') → T (le y y') → T (le (add f x y) (add f x' y'))
unfolding add
add_mono f nan y x' y' a b a' b' h k = absurd a
add_mono f (inf s) y x' y' a b a' b' h k = absurd a
add_mono f (fin s m e) nan x' y' a b a' b' h k = absurd b
add_mono f (fin s m e) (inf t) x' y' a b a' b' h k = absurd b
add_mono f (fin s m e) (fin t n d) nan y' a b a' b' h k = absurd a'
add_mono f (fin s m e) (fin t n d) (inf s') y' a b a' b' h k = absurd a'
add_mono f (fin s m e) (fin t n d) (fin s' m' e') nan a b a' b' h k = absurd b'
add_mono f (fin s m e) (fin t n d) (fin s' m' e') (inf t') a b a' b' h k = absurd b'
add_mono f (fin s m e) (fin t n d) (fin s' m' e') (fin t' n' d') a b a' b' h k =
    let one = total f s (m * up e * down d) t (n * up d * down e) (down e * down d) in
    let two = total f s' (m' * up e' * down d') t' (n' * up d' * down e') (down e' * down d') in
    rw (one.rounded, two.rounded)
    (round_order f one.sign one.size (down e * down d) two.sign two.size (down e' * down d')
    (mul-pos (down_pos e) (down_pos d)) (mul-pos (down_pos e') (down_pos d'))
    (simp (plus_times, minus_times)
    (sums (plus s (m * up e)) (minus s (m * up e)) (down e) (plus t (n * up d)) (minus t (n * up d)) (down d)
    (plus s' (m' * up e')) (minus s' (m' * up e')) (down e') (plus t' (n' * up d')) (minus t' (n' * up d')) (down d')
    (plus one.sign one.size) (minus one.sign one.size) (plus two.sign two.size) (minus two.sign two.size)
    (fin_parts s m e s' m' e' h) (fin_parts t n d t' n' d' k)
    (in_parts s (m * up e) (down d) t (n * up d) (down e) _ _ one.exact)
    (in_parts s' (m' * up e') (down d') t' (n' * up d') (down e') _ _ two.exact))))

-- ---- a product or a quotient by one positive number

-- g multiplies by u over v, and rounds
record Scaling (f : Format) (g : Float → Float) : Type 0 where
  u : ℕ
  v : ℕ
  some : 0 < v
  at_inf : (s : Bool) → g (inf s) ≡ inf s
  at_fin : (s : Bool) (m : ℕ) (e : ℤ) → g (fin s m e) ≡ round f s (m * up e * u) (down e * v)

lowest : (t : Bool) (y : Float) → Signed t y → T (le (inf true) y)
unfolding le lt eq
lowest t nan h = absurd h
lowest t (inf true) h = tt
lowest t (inf false) h = tt
lowest t (fin s m e) h = tt

highest : (t : Bool) (y : Float) → Signed t y → T (le y (inf false))
unfolding le lt eq
highest t nan h = absurd h
highest t (inf true) h = tt
highest t (inf false) h = tt
highest t (fin s m e) h = tt

scaling_mono : (f : Format) (g : Float → Float) → Scaling f g → (x y : Float) → T (le x y) → T (le (g x) (g y))
unfolding le lt eq
scaling_mono f g c nan y h = absurd h
scaling_mono f g c (inf s) nan h = absurd h
scaling_mono f g c (inf s) (inf t) h = rw (c.at_inf s, c.at_inf t) h
scaling_mono f g c (inf true) (fin t n d) h = rw (c.at_inf true, c.at_fin t n d) (let a = n * up d * c.u in let b = down d * c.v in lowest t (round f t a b) (round_signed f t a b))
scaling_mono f g c (inf false) (fin t n d) h = absurd h
scaling_mono f g c (fin s m e) nan h = absurd h
scaling_mono f g c (fin s m e) (inf true) h = absurd h
scaling_mono f g c (fin s m e) (inf false) h = rw (c.at_inf false, c.at_fin s m e) (let a = m * up e * c.u in let b = down e * c.v in highest s (round f s a b) (round_signed f s a b))
scaling_mono f g c (fin s m e) (fin t n d) h =
    rw (c.at_fin s m e, c.at_fin t n d)
    (round_order f s (m * up e * c.u) (down e * c.v) t (n * up d * c.u) (down d * c.v) (mul-pos (down_pos e) c.some) (mul-pos (down_pos d) c.some)
    (rw (mul-mul-mul_comm (m * up e) c.u (down d) c.v, mul-mul-mul_comm (n * up d) c.u (down e) c.v)
    (under_times s (m * up e * down d) t (n * up d * down e) (c.u * c.v) (le_under s (m * up e * down d) t (n * up d * down e) h))))

like_false : (s : Bool) → unlike s false ≡ s
like_false true = refl
like_false false = refl

module _ (f : Format) (n : ℕ) (d : ℤ) (some : 0 < n) where
  nonzero : eqb n 0 ≡ false
  nonzero = ne_eqb n 0 (λ e. omega arith)

  times_scales : Scaling f (λ x. mul f x (fin false n d))
  unfolding mul
  times_scales = record {
    u = n * up d;
    v = down d;
    some = down_pos d;
    at_inf = λ s. rw (nonzero, like_false s);
    at_fin = λ s m e. rw (like_false s);
  }

  over_scales : Scaling f (λ x. div f x (fin false n d))
  unfolding div
  over_scales = record {
    u = down d;
    v = n * up d;
    some = mul-pos some (up_pos d);
    at_inf = λ s. rw (like_false s);
    at_fin = λ s m e. rw (nonzero, like_false s, mul_comm (down e) (n * up d));
  }

  pub mul_mono : (x y : Float) → T (le x y) → T (le (mul f x (fin false n d)) (mul f y (fin false n d)))
  mul_mono = scaling_mono f (λ x. mul f x (fin false n d)) times_scales

  pub div_mono : (x y : Float) → T (le x y) → T (le (div f x (fin false n d)) (div f y (fin false n d)))
  div_mono = scaling_mono f (λ x. div f x (fin false n d)) over_scales
