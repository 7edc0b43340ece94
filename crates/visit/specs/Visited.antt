-- What the visit of the cells finds and leaves behind: the records before their scaling. Definitions only.
use Rattle.std.specs.Prelude.{ℕ, ◌+◌, ◌≤◌, ◌≡◌, true, not, cond, ◌||◌, List, [], ◌∷◌, length, ltb, Option, Some, None}
use Rattle.float.specs.Narrow.{float_word}
use Rattle.float.specs.Number.{zero64}
use Rattle.rym1.specs.declared.Point.{Point}
use Rattle.rym1.specs.Bytes.{splice}
use Rattle.rym1.specs.File.{points_bytes}
use Rattle.rym1.specs.Cells.{cell_point}
use Rattle.filling.specs.declared.Kernel.{Kernel}
use Rattle.filling.specs.declared.Frame.{Frame}
use Rattle.filling.specs.Vector.{plus}
use Rattle.filling.specs.Fill.{capacity, mass_of, raw_from, fine, masses_finite}
use Rattle.visit.specs.declared.Found.{Found}

-- a cell's record, its masses narrowed, not yet scaled
unfoldable pub raw_point : Frame → ℕ → List Kernel → List Kernel → ℕ → Point
raw_point f g ks es c = cell_point g c (record { cauchy = float_word (mass_of f g ks c); elliptic = float_word (mass_of f g es c) })

unfoldable pub raw_points : Frame → ℕ → List Kernel → List Kernel → List ℕ → List Point
raw_points f g ks es [] = []
raw_points f g ks es (c ∷ cs) = raw_point f g ks es c ∷ raw_points f g ks es cs

-- how many cells, the raw sums, and whether a mass is too large
unfoldable pub found : Frame → ℕ → List Kernel → List Kernel → List ℕ → Found
found f g ks es cs =
    record {
      count = length cs;
      cauchy = raw_from f g ks zero64 cs;
      elliptic = raw_from f g es zero64 cs;
      large = not (masses_finite (raw_points f g ks es cs));
    }

-- what a cell adds to the finds
unfoldable pub with_cell : Frame → ℕ → List Kernel → List Kernel → Found → ℕ → Found
with_cell f g ks es w c =
    record {
      count = w.count + 1;
      cauchy = plus w.cauchy (mass_of f g ks c);
      elliptic = plus w.elliptic (mass_of f g es c);
      large = w.large || not (fine (raw_point f g ks es c));
    }

unfoldable pub visited : Frame → ℕ → List Kernel → List Kernel → List ℕ → Option Found
visited f g ks es cs = cond (ltb (capacity g) (length cs)) None (Some (found f g ks es cs))

-- the visit's answer, and the output where the points have room and their masses are finite
pub record Visiting (f : Frame) (g : ℕ) (ks es : List Kernel) (cs : List ℕ) (out : List ℕ) (r : Option Found) (out' : List ℕ) : Type 0 where
  pub answer : r ≡ visited f g ks es cs
  pub points : length cs ≤ capacity g → masses_finite (raw_points f g ks es cs) ≡ true → out' ≡ splice out 64 (points_bytes (raw_points f g ks es cs))
