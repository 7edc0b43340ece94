-- What the visit of a box has left from a cell on: the rest of the row, the rows behind it, the planes behind them. Definitions only.
use Rattle.std.specs.Prelude.{ℕ, ◌+◌, ◌-◌, ◌*◌, ◌≤◌, ◌<◌, ◌≡◌, List, ◌++◌}
use Rattle.rym1.specs.Cells.{Slot}
use Rattle.rtm1.specs.declared.Cells.{Cells}
use Rattle.rtm1.specs.declared.Axis.TheVariants.{X, Y}
use Rattle.rtm1.specs.Boxes.{width}
use Rattle.rtm1.specs.Visit.{Placed, run, point_in, row, plane}
use Rattle.runs.specs.declared.walk.Place.{Place}

-- a cell of the box, or the one behind a row
pub record Reached (b : Cells) (p : Place) : Type 0 where
  pub in_x : p.x ≤ b.x1
  pub in_y : p.y < b.y1
  pub in_z : p.z < b.z1

-- the points
unfoldable pub points_from : (ℕ → Slot) → ℕ → Cells → Place → List Placed
points_from look g b p =
    run (point_in look g p.z p.y) p.x (b.x1 - p.x)
    ++ (run (row look g b p.z) (p.y + 1) (b.y1 - (p.y + 1)) ++ run (plane look g b) (p.z + 1) (b.z1 - (p.z + 1)))

-- how many cells
unfoldable pub cells_from : Cells → Place → ℕ
cells_from b p =
    (b.x1 - p.x) + ((b.y1 - (p.y + 1)) * width X b + (b.z1 - (p.z + 1)) * (width Y b * width X b))

-- q is a cell of the box, and from it on there are the same points as from p
pub record Starts (look : ℕ → Slot) (g : ℕ) (b : Cells) (p q : Place) : Type 0 where
  pub in_x : q.x < b.x1
  pub in_y : q.y < b.y1
  pub in_z : q.z < b.z1
  pub same : points_from look g b p ≡ points_from look g b q
  pub few : cells_from b q ≤ cells_from b p
