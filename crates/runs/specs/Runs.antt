-- A row of cells as records on end, and the words that are looked up, in either form. Definitions only.
use Rattle.std.specs.Prelude.{ℕ, zero, suc, ◌+◌, ◌-◌, ◌*◌, ◌≤◌, ◌<◌, ◌≡◌, cond, List, [], ◌∷◌, ◌++◌, eqb}
use Rattle.std.specs.Float.{binary32}
use Rattle.std.specs.Float.Ieee.{of_bits}
use Rattle.rym1.specs.Bytes.{word16, word32}
use Rattle.rym1.specs.File.{grid, count, cube, groups, file_cause, work_cause}
use Rattle.rym1.specs.Cells.{look}
use Rattle.lookup.specs.Lookup.{Looked}
use Rattle.marks.specs.Marks.{Marked}
use Rattle.rtm1.specs.Visit.{Placed, run, point_in}
use Rattle.runs.specs.declared.Form.{Form}
use Rattle.runs.specs.declared.Form.TheVariants.{Marks, Words}
use Rattle.runs.specs.declared.Run.{Run}

-- the point of record i, which lies in row y, z
abbrev pub placed_at : List ℕ → ℕ → ℕ → ℕ → Placed
placed_at f z y i =
    record {
      x = word16 f (64 + 16 * i);
      y = y;
      z = z;
      index = i;
      cauchy = of_bits binary32 (word32 f (72 + 16 * i));
      elliptic = of_bits binary32 (word32 f (76 + 16 * i));
    }

-- those of k records from i on
unfoldable pub placed : List ℕ → ℕ → ℕ → ℕ → ℕ → List Placed
placed f z y i zero = []
placed f z y i (suc k) = placed_at f z y i ∷ placed f z y (suc i) k

-- marks for a file in working form, a word per cell for any other
unfoldable pub form_of : List ℕ → Form
form_of f = cond (eqb (work_cause f) 0) Marks Words

-- how many words the form takes
unfoldable pub room_of : Form → ℕ → ℕ
room_of Marks g = 2 * groups (cube g)
room_of Words g = cube g

-- the words hold the file's lookup, in the form
abbrev pub Held : Form → List ℕ → List ℕ → Type 0
Held Marks words f = (work_cause f ≡ 0) × Marked words f
Held Words words f = Looked words f

-- the words are the lookup of a file of grid g that is not refused
pub record Ready (form : Form) (words f : List ℕ) (g : ℕ) : Type 0 where
  pub accepted : file_cause f ≡ 0
  pub held : Held form words f
  pub gridded : g ≡ grid f

-- the row's points from x up to x1 are the run's, and then those from the run's next place on
pub record Ran (f : List ℕ) (g z y x x1 : ℕ) (r : Run) : Type 0 where
  pub points : run (point_in (look f) g z y) x (x1 - x) ≡ placed f z y r.index r.count ++ run (point_in (look f) g z y) r.next (x1 - r.next)
  pub on : x < r.next
  pub in_row : r.next ≤ x1
  pub in_file : r.index + r.count ≤ count f
  pub fits : r.index + r.count < 4294967296
