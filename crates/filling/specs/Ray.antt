-- Where the ray from a point along +X crosses a triangle: the test of Möller and Trumbore, its steps grouped as in `ray_triangle_t`. Definitions only.
use Rattle.filling.specs.declared.Crossing.{Crossing}
use Rattle.filling.specs.declared.Crossing.TheVariants.{At, Miss}
use Rattle.std.specs.Prelude.{Bool, cond, not, ◌&&◌, ◌||◌, Float}
use Rattle.std.specs.Float.{binary64}
use Rattle.std.specs.Float.Ieee.{of_bits, lt, le}
use Rattle.float.specs.Number.{zero64, one64, abs}
use Rattle.filling.specs.declared.Vec3.{Vec3}
use Rattle.filling.specs.declared.Triangle.{Triangle}
use Rattle.filling.specs.Vector.{plus, times, over, vec, sub, cross, dot}

-- 1e-12
abbrev pub eps : Float
eps = of_bits binary64 0x3d71_9799_812d_ea11

-- the direction +X
abbrev pub direction : Vec3
direction = vec one64 zero64 zero64

-- 01's list: |determinant| < 1e-12, u outside 0 to 1, v < 0, u + v > 1, a distance not above 1e-12
unfoldable pub misses : Float → Float → Float → Float → Bool
misses determinant u v distance =
    lt (abs determinant) eps
    || (not (le zero64 u && le u one64)
    || (lt v zero64
    || (lt one64 (plus u v)
    || not (lt eps distance))))

unfoldable pub ray : Vec3 → Triangle → Crossing
ray origin t =
    let e1 = sub t.b t.a in
    let e2 = sub t.c t.a in
    let p = cross direction e2 in
    let determinant = dot e1 p in
    let inverse = over one64 determinant in
    let s = sub origin t.a in
    let u = times inverse (dot s p) in
    let q = cross s e1 in
    let v = times inverse (dot direction q) in
    let distance = times inverse (dot e2 q) in
    cond (misses determinant u v distance) Miss (At distance)
