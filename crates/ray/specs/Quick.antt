-- A test of y and z alone that most triangles fail: the ray's determinant and u without the products by 0. Definitions only.
use Rattle.std.specs.Prelude.{Bool, not, ◌&&◌, ◌||◌}
use Rattle.std.specs.Float.Ieee.{lt, le}
use Rattle.float.specs.Number.{zero64, one64, abs}
use Rattle.filling.specs.declared.Vec3.{Vec3}
use Rattle.filling.specs.declared.Triangle.{Triangle}
use Rattle.filling.specs.Vector.{minus, times, over}
use Rattle.filling.specs.Ray.{eps}

unfoldable pub quick_miss : Vec3 → Triangle → Bool
quick_miss origin t =
    let e1y = minus t.b.y t.a.y in
    let e1z = minus t.b.z t.a.z in
    let e2y = minus t.c.y t.a.y in
    let e2z = minus t.c.z t.a.z in
    let determinant = minus (times e1z e2y) (times e1y e2z) in
    let sy = minus origin.y t.a.y in
    let sz = minus origin.z t.a.z in
    let u = times (over one64 determinant) (minus (times sz e2y) (times sy e2z)) in
    lt (abs determinant) eps || not (le zero64 u && le u one64)
