-- Laws of a box's visit from a cell on: where the next run starts, and what a run leaves. Assumes nothing.
use Prim.Native.Nat.{ℕ, ◌+◌, ◌-◌, ◌*◌, ◌≤◌, ◌<◌}
use mathlib.Core.Path.{◌≡◌, refl, ap, ◌∙◌}
use mathlib.Core.List.{List, [], ◌++◌, append_assoc}
use native.Mathlib.Nat.{one-mul, add-mul}
use native.Mathlib.Omega.{arith}
use Rattle.rym1.specs.Cells.{Slot, look}
use Rattle.rtm1.specs.declared.Cells.{Cells}
use Rattle.rtm1.specs.declared.Axis.TheVariants.{X, Y}
use Rattle.rtm1.specs.Boxes.{Proper, width}
use Rattle.rtm1.specs.Visit.{Placed, run, point_in, row, plane, visit}
use Rattle.rtm1.proofs.Visit.{run_first, run_none}
use Rattle.runs.specs.declared.Run.{Run}
use Rattle.runs.specs.declared.walk.Place.{Place}
use Rattle.runs.specs.Runs.{placed, Ran}
use Rattle.runs.specs.Left.{Reached, points_from, cells_from, Starts}

-- the products of a row's or a plane's cells, the first one apart
first_apart : (e a w : ℕ) → a < e → (e - a) * w ≡ w + (e - (a + 1)) * w
first_apart e a w h =
    let more : e - a ≡ 1 + (e - (a + 1)) = omega arith in
    ap (λ (n : ℕ). n * w) more ∙ add-mul 1 (e - (a + 1)) w ∙ ap (λ (n : ℕ). n + (e - (a + 1)) * w) (one-mul w)

none_left : (e a w : ℕ) → e ≤ a → (e - a) * w ≡ 0
none_left e a w h = let none : e - a ≡ 0 = omega arith in rw none (omega arith)

module _ (look : ℕ → Slot) (g : ℕ) (b : Cells) where
  rows : ℕ → ℕ → List Placed
  rows z y = run (row look g b z) y (b.y1 - y)

  planes : ℕ → List Placed
  planes z = run (plane look g b) z (b.z1 - z)

  row_points : (z y : ℕ) → y < b.y1 → rows z y ++ planes (z + 1) ≡ points_from look g b (record { z = z; y = y; x = b.x0 })
  unfolding points_from rows planes
  row_points z y h = rw (run_first (row look g b z) b.y1 y h, append_assoc) refl

  plane_points : (z : ℕ) → Proper b → z < b.z1 → planes z ≡ points_from look g b (record { z = z; y = b.y0; x = b.x0 })
  unfolding rows planes
  plane_points z p h = run_first (plane look g b) b.z1 z h ∙ row_points z b.y0 p.in_y

  -- the whole box
  pub visit_points : Proper b → visit look g b ≡ points_from look g b (record { z = b.z0; y = b.y0; x = b.x0 })
  unfolding planes
  visit_points p = plane_points b.z0 p p.in_z

  module _ (at : Place) (p : Proper b) (r : Reached b at) where
    module _ (done : b.x1 ≤ at.x) where
      no_row : points_from look g b at ≡ rows at.z (at.y + 1) ++ planes (at.z + 1)
      unfolding points_from rows planes
      no_row = rw (run_none (point_in look g at.z at.y) b.x1 at.x done) refl

      pub start_row : at.y + 1 < b.y1 → Starts look g b at (record { z = at.z; y = at.y + 1; x = b.x0 })
      unfolding cells_from
      start_row h =
          record {
            in_x = p.in_x;
            in_y = h;
            in_z = r.in_z;
            same = no_row ∙ row_points at.z (at.y + 1) h;
            few = omega (arith, first_apart b.y1 (at.y + 1) (width X b) h);
          }

      module _ (last : b.y1 ≤ at.y + 1) where
        no_plane : points_from look g b at ≡ planes (at.z + 1)
        unfolding rows
        no_plane = no_row ∙ ap (λ (l : List Placed). l ++ planes (at.z + 1)) (run_none (row look g b at.z) b.y1 (at.y + 1) last)

        pub start_plane : at.z + 1 < b.z1 → Starts look g b at (record { z = at.z + 1; y = b.y0; x = b.x0 })
        unfolding cells_from
        start_plane h =
            record {
              in_x = p.in_x;
              in_y = p.in_y;
              in_z = h;
              same = no_plane ∙ plane_points (at.z + 1) p h;
              few = omega (arith, first_apart b.z1 (at.z + 1) (width Y b * width X b) h, first_apart b.y1 b.y0 (width X b) p.in_y);
            }

        pub start_none : b.z1 ≤ at.z + 1 → points_from look g b at ≡ []
        unfolding planes
        start_none h = no_plane ∙ run_none (plane look g b) b.z1 (at.z + 1) h

-- a run takes its points, and leaves those behind it in fewer cells
module _ (f : List ℕ) (g : ℕ) (b : Cells) (at q : Place) (s : Starts (look f) g b at q) (r : Run) (ran : Ran f g q.z q.y q.x b.x1 r) where
  pub run_points : points_from (look f) g b at ≡ placed f q.z q.y r.index r.count ++ points_from (look f) g b (record { z = q.z; y = q.y; x = r.next })
  unfolding points_from
  run_points = s.same ∙ (rw (ran.points, append_assoc) refl)

  pub run_fewer : cells_from b (record { z = q.z; y = q.y; x = r.next }) < cells_from b at
  run_fewer =
      let less : cells_from b (record { z = q.z; y = q.y; x = r.next }) < cells_from b q = unfold cells_from in omega (arith, ran.on, s.in_x) in
      omega (arith, less, s.few)
