-- What is known of a point file that causes 1 to 7 do not refuse, and of each of its records. Assumes nothing.
use Prim.Native.Nat.{ℕ, zero, suc, ◌+◌, ◌*◌, ◌≤◌, ◌<◌}
use mathlib.Core.Path.{◌≡◌}
use mathlib.Core.Bool.{true, not, ◌||◌}
use mathlib.Core.List.{List}
use native.Mathlib.Nat.{add-zero}
use native.Mathlib.Omega.{arith}
use lib.ListN.{length}
use lib.Dec.{eqb, leb, ltb}
use borrow.Author.Tests.{ltb-true, ltb-false, leb-false, eqb-true, eqb-false, not-false, le-ltb, eq-eqb, ne_eqb}
use Rattle.rym1.specs.declared.Point.{Point}
use Rattle.rym1.specs.Bytes.{word32}
use Rattle.rym1.specs.Causes.{when, first}
use Rattle.rym1.specs.File.{grid, count, size, point_at, points_at, points, finite, all_finite, header_floats, below, grid_cause, place_cause, mass_cause, point_cause, points_cause, header_cause, file_cause}
use Rattle.rym1.proofs.Causes.{or_false_l, or_false_r, and_true_l, when_zero, first_zero_l, first_zero_r}

-- ---- a record

pub record Inside (g x y z : ℕ) : Type 0 where
  pub x_low : x < g
  pub y_low : y < g
  pub z_low : z < g

pub inside : (g x y z : ℕ) → place_cause g x y z ≡ 0 → Inside g x y z
unfolding place_cause
inside g x y z e =
    let none = when_zero (leb g x || (leb g y || leb g z)) 5 e in
    let rest = or_false_r (leb g x) (leb g y || leb g z) none in
    record {
      x_low = leb-false g x (or_false_l (leb g x) (leb g y || leb g z) none);
      y_low = leb-false g y (or_false_l (leb g y) (leb g z) rest);
      z_low = leb-false g z (or_false_r (leb g y) (leb g z) rest);
    }

-- a finite pattern has 32 bits
pub finite_fits : (p : ℕ) → finite p ≡ true → p < 4294967296
unfolding finite
finite_fits p e = ltb-true p 4294967296 (and_true_l (ltb p 4294967296) _ e)

pub record Finite (cauchy elliptic : ℕ) : Type 0 where
  pub cauchy_finite : finite cauchy ≡ true
  pub elliptic_finite : finite elliptic ≡ true

pub are_finite : (a b : ℕ) → mass_cause a b ≡ 0 → Finite a b
unfolding mass_cause
are_finite a b e =
    let none = when_zero (not (finite a) || not (finite b)) 6 e in
    record {
      cauchy_finite = not-false (finite a) (or_false_l (not (finite a)) (not (finite b)) none);
      elliptic_finite = not-false (finite b) (or_false_r (not (finite a)) (not (finite b)) none);
    }

pub record Sound (g : ℕ) (p : Point) : Type 0 where
  pub place : Inside g p.x p.y p.z
  pub masses : Finite p.cauchy p.elliptic

pub sound : (g : ℕ) (p : Point) → point_cause g p ≡ 0 → Sound g p
unfolding point_cause
sound g p e =
    record {
      place = inside g p.x p.y p.z (first_zero_l (place_cause g p.x p.y p.z) (mass_cause p.cauchy p.elliptic) e);
      masses = are_finite p.cauchy p.elliptic (first_zero_r (place_cause g p.x p.y p.z) (mass_cause p.cauchy p.elliptic) e);
    }

-- each of n records that are not refused
pub each_sound : (g : ℕ) (f : List ℕ) (at n i : ℕ) → points_cause g (points_at f at n) ≡ 0 → i < n → point_cause g (point_at f (at + 16 * i)) ≡ 0
unfolding points_at points_cause
each_sound g f at zero i e h = absurd (omega arith)
each_sound g f at (suc n) zero e h = rw (add-zero at) (first_zero_l (point_cause g (point_at f at)) _ e)
each_sound g f at (suc n) (suc i) e h =
    let there : at + 16 + 16 * i ≡ at + 16 * suc i = omega arith in
    rw there at (each_sound g f (at + 16) n i (first_zero_r (point_cause g (point_at f at)) _ e) (omega arith))

-- where record i lies in the grid
pub inside_at : (g : ℕ) (f : List ℕ) (at n i : ℕ) (p : Point) → points_cause g (points_at f 64 n) ≡ 0 → at ≡ 64 + 16 * i → i < n → p ≡ point_at f at
    → Inside g p.x p.y p.z
inside_at g f at n i p e a h ep = rw (ep, a) (sound g (point_at f (64 + 16 * i)) (each_sound g f 64 n i e h)).place

-- ---- a grid

-- 1 to 256: 3 is not against it
pub grid_right : (g : ℕ) → grid_cause g ≡ 0 → (0 < g) × (g ≤ 256)
unfolding grid_cause
grid_right g e =
    let on = when_zero (eqb g 0 || ltb 256 g) 2 e in
    (omega (arith, eqb-false g 0 (or_false_l (eqb g 0) (ltb 256 g) on)), ltb-false 256 g (or_false_r (eqb g 0) (ltb 256 g) on))

pub grid_none : (g : ℕ) → 0 < g → g ≤ 256 → grid_cause g ≡ 0
unfolding grid_cause when
grid_none g pos few = rw (ne_eqb g 0 (λ e. omega arith), le-ltb 256 g few)

-- ---- a file

-- the header, and that the records are there
pub record Accepted (f : List ℕ) : Type 0 where
  pub long : 64 ≤ length f
  pub mark : word32 f 0 ≡ 0x314d5952
  pub version : word32 f 4 ≡ 1
  pub grid_pos : 0 < grid f
  pub grid_few : grid f ≤ 256
  pub room : size (count f) ≤ length f
  pub floats : all_finite (header_floats f) ≡ true
  pub box : (below f 0 ≡ true) × (below f 1 ≡ true) × (below f 2 ≡ true)

pub accepted_header : (f : List ℕ) → header_cause f ≡ 0 → Accepted f
unfolding header_cause
accepted_header f e =
    let short = ltb (length f) 64 in
    let wrong = not (eqb (word32 f 0) 0x314d5952) || not (eqb (word32 f 4) 1) in
    let missing = ltb (length f) (size (count f)) in
    let box = not (below f 0) || (not (below f 1) || not (below f 2)) in
    let floats = not (all_finite (header_floats f)) || box in
    let k2 = first_zero_r (when short 1) _ e in
    let k3 = first_zero_r (when wrong 2) _ k2 in
    let k4 = first_zero_r (grid_cause (grid f)) _ k3 in
    let k5 = first_zero_r (when missing 4) _ k4 in
    let right = when_zero wrong 1 (first_zero_l (when wrong 2) _ k2) in
    let on = grid_right (grid f) (first_zero_l (grid_cause (grid f)) _ k3) in
    let all = when_zero floats 4 k5 in
    let boxed = or_false_r (not (all_finite (header_floats f))) box all in
    let boxed2 = or_false_r (not (below f 0)) (not (below f 1) || not (below f 2)) boxed in
    record {
      long = ltb-false (length f) 64 (when_zero short 0 (first_zero_l (when short 1) _ e));
      mark = eqb-true (word32 f 0) 0x314d5952 (not-false _ (or_false_l (not (eqb (word32 f 0) 0x314d5952)) (not (eqb (word32 f 4) 1)) right));
      version = eqb-true (word32 f 4) 1 (not-false _ (or_false_r (not (eqb (word32 f 0) 0x314d5952)) (not (eqb (word32 f 4) 1)) right));
      grid_pos = on.0;
      grid_few = on.1;
      room = ltb-false (length f) (size (count f)) (when_zero missing 3 (first_zero_l (when missing 4) _ k4));
      floats = not-false (all_finite (header_floats f)) (or_false_l (not (all_finite (header_floats f))) box all);
      box = (
        not-false (below f 0) (or_false_l (not (below f 0)) (not (below f 1) || not (below f 2)) boxed),
        not-false (below f 1) (or_false_l (not (below f 1)) (not (below f 2)) boxed2),
        not-false (below f 2) (or_false_r (not (below f 1)) (not (below f 2)) boxed2),
      );
    }

pub accepted : (f : List ℕ) → file_cause f ≡ 0 → Accepted f
unfolding file_cause
accepted f e = accepted_header f (first_zero_l (header_cause f) (points_cause (grid f) (points f)) e)

-- its records
pub accepted_points : (f : List ℕ) → file_cause f ≡ 0 → points_cause (grid f) (points f) ≡ 0
unfolding file_cause
accepted_points f e = first_zero_r (header_cause f) (points_cause (grid f) (points f)) e

-- and such a file is refused by none of them
pub by_none : (f : List ℕ) → Accepted f → points_cause (grid f) (points f) ≡ 0 → file_cause f ≡ 0
unfolding file_cause header_cause when first
by_none f a sound-points =
    rw (
      le-ltb (length f) 64 a.long,
      eq-eqb (word32 f 0) 0x314d5952 a.mark,
      eq-eqb (word32 f 4) 1 a.version,
      grid_none (grid f) a.grid_pos a.grid_few,
      le-ltb (length f) (size (count f)) a.room,
      a.floats,
      a.box.0,
      a.box.1,
      a.box.2,
      sound-points,
    )
