-- A point file as a lookup: what each cell holds, which cells are occupied, and their records in working form. Definitions only.
use Rattle.std.specs.Prelude.{ℕ, zero, suc, ◌/◌, ◌%◌, cond, List, [], ◌∷◌, eqb}
use Rattle.std.proofs.Math.Option.{Option, none, some}
use Rattle.rym1.specs.declared.Point.{Point}
use Rattle.rym1.specs.File.{grid, points, cell_of, cube}

-- the masses of a cell, as patterns
pub record Masses : Type 0 where
  pub cauchy : ℕ
  pub elliptic : ℕ

-- what each cell holds
abbrev pub Map : Type 0
Map = ℕ → Option Masses

-- ---- a file as a lookup

-- a cell is vacant, or holds the point of an index with its masses
pub data Slot : Type 0 where
  vacant : Slot
  held : ℕ → Masses → Slot

unfoldable pub masses_of : Point → Masses
masses_of p = record { cauchy = p.cauchy; elliptic = p.elliptic }

-- what the record of index i says of cell c
unfoldable pub named : ℕ → ℕ → Point → ℕ → Slot
named g i p c = cond (eqb (cell_of g p) c) (held i (masses_of p)) vacant

-- the later record counts
unfoldable pub later : Slot → Slot → Slot
later vacant s = s
later (held i m) s = held i m

-- cell c among records of which the first has index i
unfoldable pub look_from : ℕ → ℕ → List Point → ℕ → Slot
look_from g i [] c = vacant
look_from g i (p ∷ ps) c = later (look_from g (suc i) ps c) (named g i p c)

unfoldable pub look : List ℕ → ℕ → Slot
look f c = look_from (grid f) 0 (points f) c

unfoldable pub masses_in : Slot → Option Masses
masses_in vacant = none
masses_in (held i m) = some m

-- the file's map from cell to masses
unfoldable pub mass_map : List ℕ → Map
mass_map f c = masses_in (look f c)

-- ---- a map as records in working form

-- the record of cell c: the cell's coordinates, pad 0
unfoldable pub cell_point : ℕ → ℕ → Masses → Point
cell_point g c m = record { x = c % g; y = c / g % g; z = c / g / g; pad = 0; cauchy = m.cauchy; elliptic = m.elliptic }

-- a cell's record, if it is occupied, before those of later cells
unfoldable pub at_cell : ℕ → ℕ → Option Masses → List Point → List Point
at_cell g c none ps = ps
at_cell g c (some m) ps = cell_point g c m ∷ ps

-- the records of k cells, ascending from cell lo
unfoldable pub records_from : ℕ → Map → ℕ → ℕ → List Point
records_from g m lo zero = []
records_from g m lo (suc k) = at_cell g lo (m lo) (records_from g m (suc lo) k)

-- the records of a map's occupied cells
unfoldable pub records : ℕ → Map → List Point
records g m = records_from g m 0 (cube g)
