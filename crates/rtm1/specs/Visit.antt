-- The points of a box in the order in which it is visited, z outermost, x innermost, and their sums in that order. Definitions only.
-- A lookup says of each cell number what the cell holds: a point file's own, or a register's.
use Rattle.std.specs.Prelude.{ℕ, zero, suc, ◌+◌, List, [], ◌∷◌, ◌++◌, get_or, Float}
use Rattle.std.specs.Float.{binary32, binary64, nan}
use Rattle.std.specs.Float.Ieee.{add, mul, of_bits}
use Rattle.float.specs.Number.{zero64, num}
use Rattle.rym1.specs.File.{cell}
use Rattle.rym1.specs.Cells.{Slot, vacant, held}
use Rattle.rtm1.specs.declared.Cells.{Cells}
use Rattle.rtm1.specs.declared.Axis.TheVariants.{X, Y, Z}
use Rattle.rtm1.specs.declared.Sums.{Sums}
use Rattle.rtm1.specs.Boxes.{width}

-- a point of the visit: its cell, its index and its masses as numbers
pub record Placed : Type 0 where
  pub x : ℕ
  pub y : ℕ
  pub z : ℕ
  pub index : ℕ
  pub cauchy : Float
  pub elliptic : Float

-- what a slot gives at a cell: nothing, or one point
abbrev pub here : ℕ → ℕ → ℕ → Slot → List Placed
here x y z vacant = []
here x y z (held i m) =
    record { x = x; y = y; z = z; index = i; cauchy = of_bits binary32 m.cauchy; elliptic = of_bits binary32 m.elliptic } ∷ []

-- what f has at n places on end, from `at` on
unfoldable pub run : (ℕ → List Placed) → ℕ → ℕ → List Placed
run f at zero = []
run f at (suc n) = f at ++ run f (suc at) n

abbrev pub point_in : (ℕ → Slot) → ℕ → ℕ → ℕ → ℕ → List Placed
point_in look g z y x = here x y z (look (cell g x y z))

abbrev pub row : (ℕ → Slot) → ℕ → Cells → ℕ → ℕ → List Placed
row look g b z y = run (point_in look g z y) b.x0 (width X b)

abbrev pub plane : (ℕ → Slot) → ℕ → Cells → ℕ → List Placed
plane look g b z = run (row look g b z) b.y0 (width Y b)

-- the points of a box
abbrev pub visit : (ℕ → Slot) → ℕ → Cells → List Placed
visit look g b = run (plane look g b) b.z0 (width Z b)

-- ---- sums

abbrev pub zero3 : List Float
zero3 = zero64 ∷ zero64 ∷ zero64 ∷ []

abbrev pub nothing : Sums
nothing =
    record {
      count = 0;
      cauchy = zero64;
      elliptic = zero64;
      cauchy_moment = zero3;
      elliptic_moment = zero3;
      constant_moment = zero3;
    }

-- a moment with one more point: coordinate × mass
unfoldable pub moved : List Float → ℕ → ℕ → ℕ → Float → List Float
moved m x y z mass =
    add binary64 (get_or m 0 nan) (mul binary64 (num x) mass)
    ∷ add binary64 (get_or m 1 nan) (mul binary64 (num y) mass)
    ∷ add binary64 (get_or m 2 nan) (mul binary64 (num z) mass)
    ∷ []

-- the constant moment with one more point: plain coordinate
unfoldable pub shifted : List Float → ℕ → ℕ → ℕ → List Float
shifted m x y z =
    add binary64 (get_or m 0 nan) (num x)
    ∷ add binary64 (get_or m 1 nan) (num y)
    ∷ add binary64 (get_or m 2 nan) (num z)
    ∷ []

abbrev pub with : Sums → Placed → Sums
with s p =
    record {
      count = s.count + 1;
      cauchy = add binary64 s.cauchy p.cauchy;
      elliptic = add binary64 s.elliptic p.elliptic;
      cauchy_moment = moved s.cauchy_moment p.x p.y p.z p.cauchy;
      elliptic_moment = moved s.elliptic_moment p.x p.y p.z p.elliptic;
      constant_moment = shifted s.constant_moment p.x p.y p.z;
    }

-- all of them added up, in the list's order
unfoldable pub total : Sums → List Placed → Sums
total s [] = s
total s (p ∷ ps) = total (with s p) ps
