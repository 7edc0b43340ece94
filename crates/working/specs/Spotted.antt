-- What the search for a cell says. Definitions only.
use Rattle.std.specs.Prelude.{ℕ, ◌≤◌, ◌<◌, ◌≡◌, List, Result, Ok, Err}
use Rattle.rym1.specs.File.{grid, count, points, point_at, size}
use Rattle.rym1.specs.Cells.{vacant, held, look, masses_of}
use Rattle.rym1.specs.Edits.{lower}

-- what a search for cell c says: Ok, the index of its record; Err, how many records stand before its place
abbrev pub Spotted : List ℕ → ℕ → Result ℕ ℕ → Type 0
Spotted f c (Ok i) = (i < count f) × (look f c ≡ held i (masses_of (point_at f (size i))))
Spotted f c (Err i) = (i ≤ count f) × (look f c ≡ vacant) × (lower (grid f) c (points f) ≡ i)
