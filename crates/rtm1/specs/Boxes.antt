-- Boxes of cells, ends excluded, and how one is split. Definitions only.
use Rattle.std.specs.Prelude.{ℕ, ◌+◌, ◌*◌, ◌-◌, ◌/◌, ◌<◌, ◌≤◌, Bool, cond, ◌&&◌, leb}
use Rattle.rtm1.specs.declared.Cells.{Cells}
use Rattle.rtm1.specs.declared.Axis.{Axis}
use Rattle.rtm1.specs.declared.Axis.TheVariants.{X, Y, Z}

-- the root box: 0..g on each axis
abbrev pub whole : ℕ → Cells
whole g = record { x0 = 0; x1 = g; y0 = 0; y1 = g; z0 = 0; z1 = g }

abbrev pub width : Axis → Cells → ℕ
width X b = b.x1 - b.x0
width Y b = b.y1 - b.y0
width Z b = b.z1 - b.z0

-- how many cells: the product of the widths
abbrev pub cells : Cells → ℕ
cells b = width Z b * (width Y b * width X b)

-- all widths 1
abbrev pub single : Cells → Bool
single b = leb (width X b) 1 && (leb (width Y b) 1 && leb (width Z b) 1)

-- the widest axis, ties to x, then y
unfoldable pub widest : Cells → Axis
widest b =
    cond (leb (width Y b) (width X b) && leb (width Z b) (width X b)) X
    (cond (leb (width Z b) (width Y b)) Y Z)

-- low + width ÷ 2 rounded down: where the lower half ends and the upper one starts
abbrev pub middle : Axis → Cells → ℕ
middle X b = b.x0 + width X b / 2
middle Y b = b.y0 + width Y b / 2
middle Z b = b.z0 + width Z b / 2

abbrev pub lower : Axis → Cells → Cells
lower X b = record { x0 = b.x0; x1 = middle X b; y0 = b.y0; y1 = b.y1; z0 = b.z0; z1 = b.z1 }
lower Y b = record { x0 = b.x0; x1 = b.x1; y0 = b.y0; y1 = middle Y b; z0 = b.z0; z1 = b.z1 }
lower Z b = record { x0 = b.x0; x1 = b.x1; y0 = b.y0; y1 = b.y1; z0 = b.z0; z1 = middle Z b }

abbrev pub upper : Axis → Cells → Cells
upper X b = record { x0 = middle X b; x1 = b.x1; y0 = b.y0; y1 = b.y1; z0 = b.z0; z1 = b.z1 }
upper Y b = record { x0 = b.x0; x1 = b.x1; y0 = middle Y b; y1 = b.y1; z0 = b.z0; z1 = b.z1 }
upper Z b = record { x0 = b.x0; x1 = b.x1; y0 = b.y0; y1 = b.y1; z0 = middle Z b; z1 = b.z1 }

-- a box of at least one cell
pub record Proper (b : Cells) : Type 0 where
  pub in_x : b.x0 < b.x1
  pub in_y : b.y0 < b.y1
  pub in_z : b.z0 < b.z1

-- the same, and in the grid
pub record Within (g : ℕ) (b : Cells) : Type 0 where
  pub proper : Proper b
  pub to_x : b.x1 ≤ g
  pub to_y : b.y1 ≤ g
  pub to_z : b.z1 ≤ g
