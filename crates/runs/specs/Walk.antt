-- The runs of a box's points, one after the other. Definitions only.
use Rattle.std.specs.Prelude.{ℕ, ◌+◌, ◌≤◌, ◌≡◌, List, [], ◌++◌, MatchOption, Option}
use Rattle.rym1.specs.File.{count}
use Rattle.rym1.specs.Cells.{look}
use Rattle.rtm1.specs.Visit.{Placed}
use Rattle.runs.specs.declared.walk.Stretch.{Stretch}
use Rattle.runs.specs.declared.walk.Runs.{Runs}
use Rattle.runs.specs.Runs.{placed}
use Rattle.runs.specs.Left.{points_from, cells_from}

-- the file
abbrev pub file_of : Runs → List ℕ
file_of s = s.lookup.file.bytes.now

-- the points to come, and in how many cells
abbrev pub left : Runs → List Placed
left s = points_from (look (file_of s)) s.lookup.g s.b s.at

abbrev pub cells_left : Runs → ℕ
cells_left s = cells_from s.b s.at

-- the points of a stretch
abbrev pub points_of : List ℕ → Stretch → List Placed
points_of f p = placed f p.z p.y p.index p.count

-- a call gives the first of the points to come, or none where there is none
pub record Stepped (s : Runs) (r : Option Stretch) (t : Runs) : Type 0 where
  pub step : MatchOption r (left s ≡ []) (λ p. (left s ≡ points_of (file_of s) p ++ left t) × (p.index + p.count ≤ count (file_of s)))
  pub same : file_of t ≡ file_of s
