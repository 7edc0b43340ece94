-- Cells and their numbers, and what a point file's lookup holds. Assumes nothing.
use Prim.Native.Nat.{ℕ, zero, suc, ◌+◌, ◌-◌, ◌*◌, ◌/◌, ◌%◌, ◌<◌}
use mathlib.Core.Path.{◌≡◌, refl, sym, ap, ◌∙◌}
use mathlib.Core.List.{List}
use native.Mathlib.Nat.{mod-lt, div-lt_iff_lt-mul, lt_of_not-le}
use native.Mathlib.Omega.{arith}
use Rattle.rym1.specs.declared.Point.{Point}
use Rattle.rym1.specs.File.{grid, count, point_at, points, cell, cell_of, cube, file_cause}
use Rattle.rym1.specs.Cells.{Masses, held, vacant, masses_of, look, cell_point}
use Rattle.rym1.proofs.Accepted.{Inside, accepted_points}
use Rattle.rym1.proofs.Cells.{cell_of_point, point_of_cell, held_at, look_outside}
use Rattle.rtm1.specs.Boxes.{whole}
use Rattle.tree_laws.specs.Said.{In, Holds, Distinct}

-- ---- a cell of the grid and its number

none : Masses
none = record { cauchy = 0; elliptic = 0 }

-- a record of the cell
at : ℕ → ℕ → ℕ → Point
at x y z = record { x = x; y = y; z = z; pad = 0; cauchy = 0; elliptic = 0 }

back : (g x y z : ℕ) → Inside g x y z → cell_point g (cell g x y z) none ≡ at x y z
unfolding cell_of masses_of none at
back g x y z h = point_of_cell g (at x y z) h refl

pub same_cell : (g x y z x' y' z' : ℕ) → Inside g x y z → Inside g x' y' z' → cell g x y z ≡ cell g x' y' z' → (x ≡ x') × (y ≡ y') × (z ≡ z')
unfolding at
same_cell g x y z x' y' z' h h' e =
    let p : at x y z ≡ at x' y' z' = sym (back g x y z h) ∙ ap (λ (c : ℕ). cell_point g c none) e ∙ back g x' y' z' h' in
    (ap (λ (q : Point). q.x) p, ap (λ (q : Point). q.y) p, ap (λ (q : Point). q.z) p)

pub numbered : (g c : ℕ) → cell g (c % g) (c / g % g) (c / g / g) ≡ c
unfolding cell_of cell_point
numbered g c = cell_of_point g c none

pub number_in : (g c : ℕ) → c < cube g → In (whole g) (c % g) (c / g % g) (c / g / g)
unfolding cube
number_in zero c h = absurd (omega arith)
number_in (suc n) c h =
    let g = suc n in
    let pos : 0 < g = omega arith in
    let hx : c % g < g = mod-lt c pos in
    let hy : c / g % g < g = mod-lt (c / g) pos in
    let hz : c / g / g < g = (div-lt_iff_lt-mul pos).1 ((div-lt_iff_lt-mul pos).1 h) in
    record { from_x = omega arith; to_x = hx; from_y = omega arith; to_y = hy; from_z = omega arith; to_z = hz }

-- ---- the lookup of a point file

-- record i of a cell that holds index i
pub file_named : (f : List ℕ) (c i : ℕ) (m : Masses) → look f c ≡ held i m
    → (i < count f) × (cell_of (grid f) (point_at f (64 + 16 * i)) ≡ c) × (masses_of (point_at f (64 + 16 * i)) ≡ m)
unfolding look points
file_named f c i m e =
    let h = held_at f (grid f) 64 0 (count f) c i m e in
    let off : i - 0 ≡ i = omega arith in
    (omega (arith, h.before), rw off at h.names, rw off at h.has)

pub file_distinct : (f : List ℕ) → Distinct (look f) (grid f)
file_distinct f c d i hc hd (m, e) (m', e') = sym (file_named f c i m e).1 ∙ (file_named f d i m' e').1

pub file_low : (f : List ℕ) → file_cause f ≡ 0 → (c i : ℕ) → Holds (look f) c i → c < cube (grid f)
unfolding look
file_low f ok c i (m, e) = lt_of_not-le (λ h. clash (sym (look_outside (grid f) 0 (points f) c (accepted_points f ok) h) ∙ e))
  where
    clash : vacant ≡ held i m → ⊥
    clash q = let z : ◌≡◌ {A = ℕ} 0 1 = cc in omega arith

-- a cell that a file holds, as a cell of the whole grid
pub file_place : (f : List ℕ) → file_cause f ≡ 0 → (c i : ℕ) → Holds (look f) c i
    → In (whole (grid f)) (c % grid f) (c / grid f % grid f) (c / grid f / grid f) × Holds (look f) (cell (grid f) (c % grid f) (c / grid f % grid f) (c / grid f / grid f)) i
file_place f ok c i h = (number_in (grid f) c (file_low f ok c i h), rw (numbered (grid f) c) h)
