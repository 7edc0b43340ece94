-- The order of signed fractions, and that rounding keeps it. Assumes nothing.
use Prim.Native.Nat.{ℕ, zero, suc, ◌+◌, ◌*◌, ◌^◌, ◌≤◌, ◌<◌}
use native.Mathlib.Nat.{mul-le-mul_right, zero-mul}
use native.Mathlib.Omega.{arith}
use mathlib.Core.Path.{◌≡◌, refl, sym, subst}
use mathlib.Core.Bool.{Bool, true, false, not, ◌&&◌, ◌||◌, cond}
use lib.Dec.{T, ltb, eqb, ltb→lt, nltb→le, eqb→eq}
use lib.Ieee.{Float, nan, inf, fin, Format, prec, emax, low, up, down, odd, units, round, neg, lt, eq, le, below, level}
use lib.Ieee.Fits.{round_is, and_l, and_r, and_i, eq→eqb}
use lib.Ieee.Order.{drop, kept, round_mono}
use lib.Ieee.Scale.{finite}
use Rattle.float.proofs.Zeros.{none, round_zero, round_neg, zero_le_zero}

-- ---- the order of ±a and ±b

-- the part of ±a above 0, and the part below
abbrev pub plus : Bool → ℕ → ℕ
plus true a = 0
plus false a = a

abbrev pub minus : Bool → ℕ → ℕ
minus true a = a
minus false a = 0

-- ±a ≤ ±b
abbrev pub Under : Bool → ℕ → Bool → ℕ → Type 0
Under s a t b = plus s a + minus t b ≤ plus t b + minus s a

or_i : (a b : Bool) → (T (not a) → T b) → T (a || b)
or_i true b f = tt
or_i false b f = f tt

or_e : {A : Type 0} (a b : Bool) → T (a || b) → (T a → A) → (T b → A) → A
or_e true b h f g = f tt
or_e false b h f g = g h

pub le_under : (s : Bool) (a : ℕ) (t : Bool) (b : ℕ) → T (below s a t b || level s a t b) → Under s a t b
le_under false a false b h = or_e (ltb a b) (eqb a b && true) h (λ l. omega (arith, ltb→lt a b l)) (λ e. omega (arith, eqb→eq a b (and_l (eqb a b) true e)))
le_under false a true b h = omega (arith, eqb→eq a b (and_l (eqb a b) (eqb a 0) h), eqb→eq a 0 (and_r (eqb a b) (eqb a 0) h))
le_under true a false b h = omega arith
le_under true a true b h = or_e (ltb b a) (eqb a b && true) h (λ l. omega (arith, ltb→lt b a l)) (λ e. omega (arith, eqb→eq a b (and_l (eqb a b) true e)))

pub under_le : (s : Bool) (a : ℕ) (t : Bool) (b : ℕ) → Under s a t b → T (below s a t b || level s a t b)
under_le false a false b h = or_i (ltb a b) (eqb a b && true) (λ n. let k = nltb→le a b n in let e : a ≡ b = omega arith in and_i (eqb a b) true (eq→eqb e) tt)
under_le false a true b h = let e : a ≡ b = omega arith in let z : a ≡ 0 = omega arith in and_i (eqb a b) (eqb a 0) (eq→eqb e) (eq→eqb z)
under_le true a false b h =
    or_i (ltb 0 (a + b)) (eqb a b && eqb a 0)
    (λ n. let k = nltb→le 0 (a + b) n in let e : a ≡ b = omega arith in let z : a ≡ 0 = omega arith in and_i (eqb a b) (eqb a 0) (eq→eqb e) (eq→eqb z))
under_le true a true b h = or_i (ltb b a) (eqb a b && true) (λ n. let k = nltb→le b a n in let e : a ≡ b = omega arith in and_i (eqb a b) true (eq→eqb e) tt)

-- both multiplied by k
pub under_times : (s : Bool) (a : ℕ) (t : Bool) (b k : ℕ) → Under s a t b → Under s (a * k) t (b * k)
under_times false a false b k h = let l : a ≤ b = omega arith in omega (arith, mul-le-mul_right k l)
under_times false a true b k h = let e : a ≡ 0 = omega arith in let g : b ≡ 0 = omega arith in rw (e, g) (omega (arith, zero-mul k))
under_times true a false b k h = omega arith
under_times true a true b k h = let l : b ≤ a = omega arith in omega (arith, mul-le-mul_right k l)

-- ---- rounding

pub le_neg : (x y : Float) → T (le x y) → T (le (neg y) (neg x))
unfolding le lt eq neg
le_neg nan y h = absurd h
le_neg (inf s) nan h = absurd h
le_neg (inf true) (inf true) h = tt
le_neg (inf true) (inf false) h = tt
le_neg (inf false) (inf true) h = h
le_neg (inf false) (inf false) h = tt
le_neg (inf true) (fin t n d) h = tt
le_neg (inf false) (fin t n d) h = absurd h
le_neg (fin s m e) nan h = absurd h
le_neg (fin s m e) (inf true) h = absurd h
le_neg (fin s m e) (inf false) h = tt
le_neg (fin s m e) (fin t n d) h =
    let a = m * up e * down d in
    let b = n * up d * down e in
    under_le (not t) b (not s) a (turned s t a b (le_under s a t b h))
  where
    turned : (s t : Bool) (a b : ℕ) → Under s a t b → Under (not t) b (not s) a
    turned false false a b h = omega arith
    turned false true a b h = omega arith
    turned true false a b h = omega arith
    turned true true a b h = omega arith

pub le_itself : (x : Float) → T (finite x) → T (le x x)
unfolding le lt eq
le_itself nan h = absurd h
le_itself (inf s) h = absurd h
le_itself (fin s m e) h = under_le s (m * up e * down e) s (m * up e * down e) (same s (m * up e * down e))
  where
    same : (s : Bool) (a : ℕ) → Under s a s a
    same true a = omega arith
    same false a = omega arith

-- a rounded number: no NaN, of its own sign
abbrev pub Signed : Bool → Float → Type 0
Signed s nan = ⊥
Signed s (inf t) = t ≡ s
Signed s (fin t m e) = t ≡ s

units_signed : (f : Format) (s : Bool) (q k : ℕ) → Signed s (units f s q k)
unfolding units odd
units_signed f s q k = go (ltb (q * 2 ^ k) (2 ^ (low f + suc (emax f)))) q
  where
    go : (b : Bool) (q : ℕ) → Signed s (cond b (odd (suc (prec f)) s q k (low f)) (inf s))
    go true zero = refl
    go true (suc q) = refl
    go false q = refl

pub round_signed : (f : Format) (s : Bool) (a c : ℕ) → Signed s (round f s a c)
round_signed f s a c = let n = a * 2 ^ low f in subst (Signed s) (sym (round_is f s a c)) (units_signed f s (kept (prec f) n c) (drop (prec f) n c))

pub across : (x y : Float) → Signed true x → Signed false y → T (le x y)
unfolding le lt eq
across nan y h g = absurd h
across (inf s) nan h g = absurd g
across (inf s) (inf t) h g = rw (h, g) tt
across (inf s) (fin t n d) h g = rw h tt
across (fin s m e) nan h g = absurd g
across (fin s m e) (inf t) h g = rw g tt
across (fin s m e) (fin t n d) h g =
    rw (h, g) (under_le true (m * up e * down d) false (n * up d * down e) (omega arith))

pub round_order : (f : Format) (s : Bool) (a b : ℕ) (t : Bool) (c d : ℕ) → 0 < b → 0 < d → Under s (a * d) t (c * b) → T (le (round f s a b) (round f t c d))
round_order f false a b false c d B D h = round_mono f a b c d B D (omega arith)
round_order f true a b false c d B D h = across (round f true a b) (round f false c d) (round_signed f true a b) (round_signed f false c d)
round_order f false a b true c d B D h =
    zero_le_zero (round f false a b) (round f true c d) (round_zero f false a b B (none a d D (omega arith))) (round_zero f true c d D (none c b B (omega arith)))
round_order f true a b true c d B D h =
    rw (round_neg f false a b, round_neg f false c d) (le_neg (round f false c d) (round f false a b) (round_mono f c d a b D B (omega arith)))
