-- The density of kernels at a point (density_at, alpha exactly 1). Definitions only.
use Rattle.std.specs.Prelude.{List, [], ◌∷◌, Float}
use Rattle.float.specs.Number.{zero64, one64}
use Rattle.filling.specs.declared.Vec3.{Vec3}
use Rattle.filling.specs.declared.Kernel.{Kernel}
use Rattle.filling.specs.Vector.{plus, times, over, sub, dot}

-- w ÷ (1 + sigma·sigma·d²)
unfoldable pub weight : Kernel → Vec3 → Float
weight k p = let d = sub p k.c in over k.w (plus one64 (times (times k.sigma k.sigma) (dot d d)))

unfoldable pub density_from : Float → List Kernel → Vec3 → Float
density_from sum [] p = sum
density_from sum (k ∷ ks) p = density_from (plus sum (weight k p)) ks p

unfoldable pub density_at : List Kernel → Vec3 → Float
density_at ks p = density_from zero64 ks p
