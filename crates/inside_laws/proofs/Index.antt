-- The index of a scaled coordinate keeps the order of the coordinates. Assumes nothing.
use Prim.Native.Nat.{ℕ, zero, suc, ◌-◌, ◌*◌, ◌/◌, ◌^◌, ◌≤◌, ◌<◌, min}
use native.Mathlib.Nat.{mul-pos, zero-div, zero-lt-suc}
use native.Mathlib.Omega.{arith}
use mathlib.Core.Path.{◌≡◌, refl}
use mathlib.Core.Bool.{Bool, true, false, cond, true≢false}
use lib.IntN.{ℤ, pos}
use lib.Dec.{T, eqb}
use lib.Ieee.{Float, nan, inf, fin, binary64, up, down, unlike, mul, div, lt, eq, le, of_int, to_unsigned}
use lib.Ieee.Fits.{down_pos, up_pos}
use lib.Ieee.Nearest as nearest
use lib.Ieee.Positive.{first_pos}
use lib.Ieee.Scale.{finite}
use borrow.Author.Tests.{ne_eqb}
use Rattle.float.specs.Axis.{axis_index}
use Rattle.float.specs.Number.{num}
use Rattle.float.proofs.WholePart.{greatest_is}
use Rattle.float.proofs.Zeros.{none}
use Rattle.inside_laws.proofs.Signed.{Under, le_under, Signed}
use Rattle.inside_laws.proofs.Monotone.{mul_mono, div_mono}

-- ---- the whole part

whole_mono : (v w : Float) → T (le v w) → to_unsigned 64 v ≤ to_unsigned 64 w
unfolding to_unsigned le lt eq
whole_mono nan w h = absurd h
whole_mono (inf true) w h = omega arith
whole_mono (inf false) nan h = absurd h
whole_mono (inf false) (inf true) h = absurd h
whole_mono (inf false) (inf false) h = omega arith
whole_mono (inf false) (fin t n d) h = absurd h
whole_mono (fin true m e) w h = omega arith
whole_mono (fin false m e) nan h = absurd h
whole_mono (fin false m e) (inf true) h = absurd h
whole_mono (fin false m e) (inf false) h = omega arith
whole_mono (fin false m e) (fin false n d) h =
    let l = le_under false (m * up e * down d) false (n * up d * down e) h in
    capped (m * up e / down e) (n * up d / down d) (2 ^ 64 - 1) (nearest.div_mono (m * up e) (down e) (n * up d) (down d) (down_pos e) (down_pos d) (omega arith))
  where
    capped : (a b k : ℕ) → a ≤ b → min a k ≤ min b k
    capped a b k h = omega arith
whole_mono (fin false m e) (fin true n d) h =
    let l = le_under false (m * up e * down d) true (n * up d * down e) h in
    let z : m * up e ≡ 0 = none (m * up e) (down d) (down_pos d) (omega arith) in
    rw (z, zero-div (down e)) (omega arith)

index_mono : (v w : Float) → to_unsigned 64 v ≤ to_unsigned 64 w → axis_index v ≤ axis_index w
index_mono v w h = rw (greatest_is 95 v (omega arith), greatest_is 95 w (omega arith)) (omega arith)

-- ---- over one extent, times 96

ninety_six : num 96 ≡ fin false 3 (pos 5)
unfolding of_int
ninety_six = refl

-- over 0: an infinity or no number
abbrev edge : Bool → ℕ → Float
edge s m = cond (eqb m 0) nan (inf (unlike s false))

edge_mono : (s t : Bool) (m n : ℕ) → (s ≡ false → 0 < m → (t ≡ false) × (0 < n)) → to_unsigned 64 (mul binary64 (edge s m) (fin false 3 (pos 5))) ≤ to_unsigned 64 (mul binary64 (edge t n) (fin false 3 (pos 5)))
unfolding to_unsigned mul
edge_mono s t zero n f = omega arith
edge_mono true t (suc m) n f = rw (ne_eqb (suc m) 0 (λ e. omega arith)) (omega arith)
edge_mono false t (suc m) n f =
    let g = f refl (zero-lt-suc m) in
    rw (g.0, ne_eqb (suc m) 0 (λ e. omega arith), ne_eqb n 0 (λ e. omega (arith, g.1))) (omega arith)

-- what is not below a number above 0 is above 0
carried : (s t : Bool) (m n : ℕ) (e d : ℤ) → Under s (m * up e * down d) t (n * up d * down e) → s ≡ false → 0 < m → (t ≡ false) × (0 < n)
carried true t m n e d l p q = absurd (true≢false p)
carried false false m n e d l p q =
    let a : 0 < m * up e * down d = mul-pos (mul-pos q (up_pos e)) (down_pos d) in (refl, first_pos n (up d) (first_pos (n * up d) (down e) (omega arith)))
carried false true m n e d l p q = let a : 0 < m * up e * down d = mul-pos (mul-pos q (up_pos e)) (down_pos d) in absurd (omega arith)

over_zero : (d : ℤ) (x y : Float) → T (finite x) → T (finite y) → T (le x y)
    → axis_index (mul binary64 (div binary64 x (fin false 0 d)) (fin false 3 (pos 5))) ≤ axis_index (mul binary64 (div binary64 y (fin false 0 d)) (fin false 3 (pos 5)))
unfolding le lt eq div
over_zero d nan y a b h = absurd a
over_zero d (inf s) y a b h = absurd a
over_zero d (fin s m e) nan a b h = absurd b
over_zero d (fin s m e) (inf t) a b h = absurd b
over_zero d (fin s m e) (fin t n e') a b h =
    index_mono (mul binary64 (edge s m) (fin false 3 (pos 5))) (mul binary64 (edge t n) (fin false 3 (pos 5)))
    (edge_mono s t m n (carried s t m n e e' (le_under s (m * up e * down e') t (n * up e' * down e) h)))

-- z, the extent, is finite and its sign is clear
pub extent_mono : (x y z : Float) → T (finite x) → T (finite y) → T (finite z) → Signed false z → T (le x y)
    → axis_index (mul binary64 (div binary64 x z) (num 96)) ≤ axis_index (mul binary64 (div binary64 y z) (num 96))
extent_mono x y nan a b c k h = absurd c
extent_mono x y (inf s) a b c k h = absurd c
extent_mono x y (fin true n d) a b c k h = absurd (true≢false k)
extent_mono x y (fin false zero d) a b c k h = rw ninety_six (over_zero d x y a b h)
extent_mono x y (fin false (suc n) d) a b c k h =
    let v = mul binary64 (div binary64 x (fin false (suc n) d)) (fin false 3 (pos 5)) in
    let w = mul binary64 (div binary64 y (fin false (suc n) d)) (fin false 3 (pos 5)) in
    rw ninety_six (index_mono v w (whole_mono v w (mul_mono binary64 3 (pos 5) (zero-lt-suc 2) _ _ (div_mono binary64 (suc n) d (zero-lt-suc n) x y h))))
