-- A row of points: one entry of its list at each of them, and the regions of the lent floats. Definitions only.
use Rattle.filling.specs.declared.Crossing.{Crossing}
use Rattle.filling.specs.declared.Crossing.TheVariants.{At, Miss}
use Rattle.std.specs.Prelude.{ℕ, ◌*◌, ◌<◌, ◌≡◌, true, cond, List, set, take, drop, get_or, length, leb, Float}
use Rattle.std.specs.Float.{nan}
use Rattle.float.specs.Axis.{axis_index}
use Rattle.filling.specs.declared.Vec3.{Vec3}
use Rattle.filling.specs.declared.Triangle.{Triangle}
use Rattle.filling.specs.declared.Bounds.{Bounds}
use Rattle.filling.specs.Vector.{vec}
use Rattle.filling.specs.Lists.{point_limit, up_to}
use Rattle.filling.specs.Ray.{ray}
use Rattle.filling.specs.Inside.{scaled, indices}
use Rattle.filling.specs.Rows.{crossing_on, crossings_in}

-- a crossing stored at an index, and nothing of a miss
abbrev pub stored : List Float → ℕ → Crossing → List Float
stored l x (At t) = set l x t
stored l x Miss = l

-- the point q of a row
unfoldable pub point_of : Float → Float → List Float → ℕ → Vec3
point_of y z xs q = vec (get_or xs q nan) y z

-- what the region of a point holds: `counts` says how many, and region q starts at q * len
unfoldable pub region : List Float → List ℕ → ℕ → ℕ → List Float
region fl counts len q = take (get_or counts q 0) (drop (q * len) fl)

-- the crossing of the point q with a triangle whose upper x index is `top`; ix: the points' x indices
unfoldable pub crossing_up_to : ℕ → Triangle → Float → Float → List Float → List ℕ → ℕ → Crossing
crossing_up_to top t y z xs ix q = cond (leb (get_or ix q 0) top) (ray (point_of y z xs q) t) Miss

-- with the entry i, and with the triangles of a list
unfoldable pub crossing_at : List ℕ → Bounds → Float → Float → List Float → ℕ → ℕ → Crossing
crossing_at s b y z xs i q = crossing_on s b (indices b (point_of y z xs q)) (point_of y z xs q) i

unfoldable pub crossings_at : List ℕ → Bounds → Float → Float → List Float → List ℕ → ℕ → List Float
crossings_at s b y z xs l q = crossings_in s b (indices b (point_of y z xs q)) (point_of y z xs q) l

-- the x indices of the points
pub record Indexed (b : Bounds) (xs : List Float) (ix : List ℕ) : Type 0 where
  pub at_law : (q : ℕ) → q < length xs → get_or ix q 0 ≡ axis_index (scaled b.min.x b.max.x (get_or xs q nan))

-- y, z and all x are within the bounds of a point
pub record Near (y z : Float) (xs : List Float) : Type 0 where
  pub on_y_law : up_to point_limit y ≡ true
  pub on_z_law : up_to point_limit z ≡ true
  pub on_x_law : (q : ℕ) → q < length xs → up_to point_limit (get_or xs q nan) ≡ true
