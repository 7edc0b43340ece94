-- Where the cells of a filling lie (build_mascon). Definitions only.
use Rattle.std.specs.Prelude.{ℕ, ◌/◌, ◌%◌, Float}
use Rattle.float.specs.Number.{half, scalar_min, num}
use Rattle.filling.specs.declared.Vec3.{Vec3}
use Rattle.filling.specs.declared.Bounds.{Bounds}
use Rattle.filling.specs.declared.Frame.{Frame}
use Rattle.filling.specs.Vector.{plus, minus, times, over, vec, sub}

-- 0.5·shortest ÷ g
unfoldable pub padding : Bounds → ℕ → Float
padding b g = let extent = sub b.max b.min in over (times half (scalar_min (scalar_min extent.x extent.y) extent.z)) (num g)

-- the box moved outward by pad; extent ÷ n per axis; the product of the three
unfoldable pub frame_padded : Bounds → Float → Float → Frame
frame_padded b pad n =
    let min = vec (minus b.min.x pad) (minus b.min.y pad) (minus b.min.z pad) in
    let max = vec (plus b.max.x pad) (plus b.max.y pad) (plus b.max.z pad) in
    let extent = sub max min in
    let cell = vec (over extent.x n) (over extent.y n) (over extent.z n) in
    record { min = min; max = max; cell = cell; volume = times (times cell.x cell.y) cell.z }

-- b: the mesh's own box; g cells to an axis
unfoldable pub frame : Bounds → ℕ → Frame
frame b g = frame_padded b (padding b g) (num g)

-- min + (n + 0.5)·cell
unfoldable pub middle_on : Float → Float → ℕ → Float
middle_on min cell n = plus min (times (plus (num n) half) cell)

-- the point of a cell number: x runs fastest, then y, then z
unfoldable pub middle : Frame → ℕ → ℕ → Vec3
middle f g c = vec (middle_on f.min.x f.cell.x (c % g)) (middle_on f.min.y f.cell.y (c / g % g)) (middle_on f.min.z f.cell.z (c / g / g))
