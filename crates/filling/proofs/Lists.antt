-- Laws of the lists that a filling is lent: the first entry of a rest and the rest behind it, and what is known of entries within bounds. Assumes nothing.
use Prim.Native.Nat.{ℕ, suc, ◌+◌, ◌-◌, ◌*◌, ◌/◌, ◌%◌, ◌≤◌, ◌<◌}
use mathlib.Core.Path.{◌≡◌, refl, sym, ap, ◌∙◌}
use mathlib.Core.Bool.{true, false, not, true≢false}
use mathlib.Core.List.{List, ◌∷◌}
use native.Mathlib.Omega.{arith}
use lib.ListN.{length}
use lib.Dec.{eqb, ltb}
use lib.Ieee.{Float, nan, inf, fin, binary64, of_bits, is_nan, nan_bits, lt, le}
use lib.Ieee.Bits.{nan_bits_is}
use borrow.Author.Tests.{not-false, ltb-false}
use Rattle.float.specs.Number.{abs}
use Rattle.rym1.specs.Bytes.{word64}
use Rattle.rym1.proofs.Causes.{or_false_l, or_false_r, and_true_l, and_true_r}
use Rattle.filling.specs.declared.Vec3.{Vec3}
use Rattle.filling.specs.declared.Triangle.{Triangle}
use Rattle.filling.specs.Lists.{float, vec3, triangle, triangles_at, mesh, kernel, kernels_at}
use Rattle.filling.specs.Lists.{coordinate_limit, up_to, vector_up_to, good_triangle, good_triangles, mesh_wrong}

-- from entry i on, of n
pub triangles_more : (s : List ℕ) (i n : ℕ) → i < n → triangles_at s (72 * i) (n - i) ≡ triangle s (72 * i) ∷ triangles_at s (72 * (i + 1)) (n - (i + 1))
unfolding triangles_at
triangles_more s i n h =
    let left : n - i ≡ suc (n - (i + 1)) = omega arith in
    let next : 72 * i + 72 ≡ 72 * (i + 1) = omega arith in
    ap (triangles_at s (72 * i)) left ∙ ap (λ (at : ℕ). triangle s (72 * i) ∷ triangles_at s at (n - (i + 1))) next

pub kernels_more : (s : List ℕ) (i n : ℕ) → i < n → kernels_at s (40 * i) (n - i) ≡ kernel s (40 * i) ∷ kernels_at s (40 * (i + 1)) (n - (i + 1))
unfolding kernels_at
kernels_more s i n h =
    let left : n - i ≡ suc (n - (i + 1)) = omega arith in
    let next : 40 * i + 40 ≡ 40 * (i + 1) = omega arith in
    ap (kernels_at s (40 * i)) left ∙ ap (λ (at : ℕ). kernel s (40 * i) ∷ kernels_at s at (n - (i + 1))) next

-- ---- entries within bounds

-- a magnitude up to a limit is no NaN's
within_number : (limit x : Float) → up_to limit x ≡ true → is_nan x ≡ false
unfolding up_to abs is_nan lt le
within_number limit nan e = absurd (true≢false (sym e))
within_number limit (inf s) e = refl
within_number limit (fin s m d) e = refl

-- the three coordinates of a point within bounds
pub coordinates_up_to : (limit : Float) (p : Vec3) → vector_up_to limit p ≡ true → (up_to limit p.x ≡ true) × (up_to limit p.y ≡ true) × (up_to limit p.z ≡ true)
unfolding vector_up_to
coordinates_up_to limit p h =
    let rest = and_true_r (up_to limit p.x) _ h in
    (and_true_l (up_to limit p.x) _ h, and_true_l (up_to limit p.y) _ rest, and_true_r (up_to limit p.y) _ rest)

-- the three numbers of a vector at a byte are none
pub record Numbers (s : List ℕ) (at : ℕ) : Type 0 where
  pub x : nan_bits binary64 (word64 s at) ≡ false
  pub y : nan_bits binary64 (word64 s (at + 8)) ≡ false
  pub z : nan_bits binary64 (word64 s (at + 16)) ≡ false

vector_numbers : (limit : Float) (s : List ℕ) (at : ℕ) → vector_up_to limit (vec3 s at) ≡ true → Numbers s at
unfolding vec3 float
vector_numbers limit s at h =
    let each = coordinates_up_to limit (vec3 s at) h in
    record { x = none at each.0; y = none (at + 8) each.1; z = none (at + 16) each.2 }
  where
    none : (k : ℕ) → up_to limit (of_bits binary64 (word64 s k)) ≡ true → nan_bits binary64 (word64 s k) ≡ false
    none k e = nan_bits_is binary64 (word64 s k) ∙ within_number limit (of_bits binary64 (word64 s k)) e

-- those of a triangle's corners
pub triangle_numbers : (s : List ℕ) (at : ℕ) → good_triangle (triangle s at) ≡ true → Numbers s at × Numbers s (at + 24) × Numbers s (at + 48)
unfolding good_triangle triangle
triangle_numbers s at h =
    let rest = and_true_r (vector_up_to coordinate_limit (vec3 s at)) _ h in (
      vector_numbers coordinate_limit s at (and_true_l _ _ h),
      vector_numbers coordinate_limit s (at + 24) (and_true_l _ _ rest),
      vector_numbers coordinate_limit s (at + 48) (and_true_r (vector_up_to coordinate_limit (vec3 s (at + 24))) _ rest),
    )

-- the first triangle of a good list, and the others
pub good_more : (t : Triangle) (ts : List Triangle) → good_triangles (t ∷ ts) ≡ true → (good_triangle t ≡ true) × (good_triangles ts ≡ true)
unfolding good_triangles
good_more t ts h = (and_true_l (good_triangle t) (good_triangles ts) h, and_true_r (good_triangle t) (good_triangles ts) h)

-- a mesh that 17 does not refuse
pub mesh_good : (s : List ℕ) → mesh_wrong s ≡ false → good_triangles (mesh s) ≡ true
unfolding mesh_wrong
mesh_good s h = not-false (good_triangles (mesh s)) (or_false_r (ltb (72 * 1048576) (length s)) _ (or_false_r (eqb (length s) 0) _ (or_false_r (not (eqb (length s % 72) 0)) _ h)))

pub mesh_few : (s : List ℕ) → mesh_wrong s ≡ false → length s / 72 ≤ 1048576
unfolding mesh_wrong
mesh_few s h =
    let a = ltb-false (72 * 1048576) (length s) (or_false_l (ltb (72 * 1048576) (length s)) _ (or_false_r (eqb (length s) 0) _ (or_false_r (not (eqb (length s % 72) 0)) _ h))) in
    omega (arith, a)
