-- Signs of finite numbers: a difference of two in order is not below 0, and a sum with such a one and a number whose sign is clear has a clear sign. Assumes nothing.
use Prim.Native.Nat.{ℕ, ◌+◌, ◌-◌, ◌*◌, ◌≤◌, ◌<◌}
use native.Mathlib.Nat.{mul-pos, zero-mul}
use native.Mathlib.Omega.{arith}
use mathlib.Core.Path.{◌≡◌, refl, sym, ◌∙◌}
use mathlib.Core.Logic.{◌⊎◌, inl, inr, ⊎_elim}
use mathlib.Core.Bool.{Bool, true, false, not, cond, true≢false}
use lib.Dec.{T, ltb}
use lib.Ieee.{Float, nan, inf, fin, Format, up, down, round, sum, neg, add, sub, mul, lt, eq, le}
use lib.Ieee.Fits.{down_pos, up_pos}
use lib.Ieee.Scale.{finite}
use borrow.Author.Tests.{le-ltb}
use Rattle.float.proofs.Zeros.{none, Zero, round_zero}
use Rattle.inside_laws.proofs.Signed.{Under, le_under, Signed, round_signed}

-- ---- ±b − ±a for ±a ≤ ±b

module _ (f : Format) (a b c : ℕ) where
  -- both above 0, and both below
  less : a ≤ b → Signed false (sum f false b true a c)
  unfolding sum
  less h = rw (le-ltb b a h) (round_signed f false (b - a) c)

  more : b ≤ a → Signed false (sum f true b false a c)
  unfolding sum
  more h = rw (le-ltb a b h) (go (ltb b a))
    where
      go : (x : Bool) → Signed false (cond x (round f false (a - b) c) (round f false (b - a) c))
      go true = round_signed f false (a - b) c
      go false = round_signed f false (b - a) c

  both : Signed false (sum f false b false a c)
  unfolding sum
  both = round_signed f false (b + a) c

  neither : 0 < c → b ≡ 0 → a ≡ 0 → Zero (sum f true b true a c)
  unfolding sum
  neither C h g = round_zero f true (b + a) c C (omega arith)

-- the sign is clear; or it is a zero, of a negative zero less a positive one
pub rises : (f : Format) (x y : Float) → T (finite x) → T (finite y) → T (le x y) → Signed false (sub f y x) ⊎ (Zero (sub f y x) × (Signed true y × Signed false x))
unfolding sub add neg le lt eq
rises f nan y a b h = absurd a
rises f (inf s) y a b h = absurd a
rises f (fin s m e) nan a b h = absurd b
rises f (fin s m e) (inf t) a b h = absurd b
rises f (fin s m e) (fin t n d) a b h = go s t (le_under s (m * up e * down d) t (n * up d * down e) h)
  where
    z : Bool → Bool → Float
    z s t = sum f t (n * up d * down e) (not s) (m * up e * down d) (down d * down e)

    go : (s t : Bool) → Under s (m * up e * down d) t (n * up d * down e) → Signed false (z s t) ⊎ (Zero (z s t) × ((t ≡ true) × (s ≡ false)))
    go true true l = inl (more f (m * up e * down d) (n * up d * down e) (down d * down e) (omega arith))
    go true false l = inl (both f (m * up e * down d) (n * up d * down e) (down d * down e))
    go false false l = inl (less f (m * up e * down d) (n * up d * down e) (down d * down e) (omega arith))
    go false true l = inr (neither f (m * up e * down d) (n * up d * down e) (down d * down e) (mul-pos (down_pos d) (down_pos e)) (omega arith) (omega arith), (refl, refl))

one_sign : (x : Float) → Signed true x → Signed false x → ⊥
one_sign nan h g = h
one_sign (inf s) h g = true≢false (sym h ∙ g)
one_sign (fin s m e) h g = true≢false (sym h ∙ g)

-- the sign is clear where the upper one's is, or the lower one's is set
pub rises_clear : (f : Format) (x y : Float) → T (finite x) → T (finite y) → T (le x y) → Signed false y ⊎ Signed true x → Signed false (sub f y x)
rises_clear f x y a b h w = ⊎_elim (λ u. u) (λ u. absurd (⊎_elim (one_sign y u.1.0) (λ t. one_sign x t u.1.1) w)) (rises f x y a b h)

-- at least 0: the sign is clear, or it is a zero
abbrev pub Up : Float → Type 0
Up x = Signed false x ⊎ Zero x

pub rises_up : (f : Format) (x y : Float) → T (finite x) → T (finite y) → T (le x y) → Up (sub f y x)
rises_up f x y a b h = ⊎_elim inl (λ u. inr u.0) (rises f x y a b h)

-- a sum of a number that is at least 0 and one whose sign is clear
pub add_clear : (f : Format) (x y : Float) → T (finite x) → T (finite y) → Up x → Signed false y → Signed false (add f x y)
unfolding add
add_clear f nan y a b h g = absurd a
add_clear f (inf s) y a b h g = absurd a
add_clear f (fin s m e) nan a b h g = absurd b
add_clear f (fin s m e) (inf t) a b h g = absurd b
add_clear f (fin s m e) (fin t n d) a b h g = go s t h g
  where
    go : (s t : Bool) → (s ≡ false) ⊎ (m ≡ 0) → t ≡ false → Signed false (sum f s (m * up e * down d) t (n * up d * down e) (down e * down d))
    go s true h g = absurd (true≢false g)
    go false false h g = both f (n * up d * down e) (m * up e * down d) (down e * down d)
    go true false (inl e) g = absurd (true≢false e)
    go true false (inr z) g = more f (n * up d * down e) (m * up e * down d) (down e * down d) (rw (z, zero-mul (up e), zero-mul (down d)) (omega arith))

-- of two in order the upper one is at least 0, or the lower one's sign is set
pub sides : (x y : Float) → T (finite x) → T (finite y) → T (le x y) → Up y ⊎ Signed true x
unfolding le lt eq
sides nan y a b h = absurd a
sides (inf s) y a b h = absurd a
sides (fin s m e) nan a b h = absurd b
sides (fin s m e) (inf t) a b h = absurd b
sides (fin s m e) (fin false n d) a b h = inl (inl refl)
sides (fin true m e) (fin true n d) a b h = inr refl
sides (fin false m e) (fin true n d) a b h =
    let l = le_under false (m * up e * down d) true (n * up d * down e) h in
    inl (inr (none n (up d) (up_pos d) (none (n * up d) (down e) (down_pos e) (omega arith))))

-- a difference of a number whose sign is set and one whose sign is clear
pub sub_set : (f : Format) (x y : Float) → T (finite x) → T (finite y) → Signed true x → Signed false y → Signed true (sub f x y)
unfolding sub add neg sum
sub_set f nan y a b h g = absurd a
sub_set f (inf s) y a b h g = absurd a
sub_set f (fin s m e) nan a b h g = absurd b
sub_set f (fin s m e) (inf t) a b h g = absurd b
sub_set f (fin s m e) (fin t n d) a b h g = rw (h, g) (round_signed f true (m * up e * down d + n * up d * down e) (down e * down d))

pub neg_set : (y : Float) → Signed false y → Signed true (neg y)
unfolding neg
neg_set nan h = h
neg_set (inf s) h = rw h refl
neg_set (fin s m e) h = rw h refl

-- a product of two whose signs are clear
pub mul_clear : (f : Format) (x y : Float) → T (finite x) → T (finite y) → Signed false x → Signed false y → Signed false (mul f x y)
unfolding mul
mul_clear f nan y a b h g = absurd a
mul_clear f (inf s) y a b h g = absurd a
mul_clear f (fin s m e) nan a b h g = absurd b
mul_clear f (fin s m e) (inf t) a b h g = absurd b
mul_clear f (fin s m e) (fin t n d) a b h g = rw (h, g) (round_signed f false (m * up e * (n * up d)) (down e * down d))
