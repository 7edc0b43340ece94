-- The point file that a mesh is filled to (build_mascon), and what fill answers and leaves in its output. Definitions only.
use Rattle.std.specs.Prelude.{ℕ, zero, suc, ◌+◌, ◌/◌, Bool, true, cond, not, ◌&&◌, ◌||◌, List, [], ◌∷◌, ◌++◌, length, replicate, eqb, ltb, Float}
use Rattle.std.specs.Float.{binary32}
use Rattle.std.specs.Float.Ieee.{mul, lt, of_bits, to_bits}
use Rattle.float.specs.Narrow.{float_word}
use Rattle.float.specs.Number.{zero64, one64, tiny, abs}
use Rattle.rym1.specs.declared.Point.{Point}
use Rattle.rym1.specs.Bytes.{words_bytes, splice}
use Rattle.rym1.specs.Causes.{when, first, Outcome, outcome, refuse}
use Rattle.rym1.specs.File.{size, cube, grid_cause, finite, all_finite, points_bytes}
use Rattle.rym1.specs.Cells.{cell_point}
use Rattle.filling.specs.declared.Triangle.{Triangle}
use Rattle.filling.specs.declared.Kernel.{Kernel}
use Rattle.filling.specs.declared.Frame.{Frame}
use Rattle.filling.specs.declared.Lent.{Lent}
use Rattle.filling.specs.Vector.{plus, times, over}
use Rattle.filling.specs.Lists.{mesh, kernels, mass_limit, up_to, mesh_wrong, kernels_wrong}
use Rattle.filling.specs.Inside.{bounds, test_box, is_inside}
use Rattle.filling.specs.Rows.{entry_count}
use Rattle.filling.specs.Density.{density_at}
use Rattle.filling.specs.Frame.{frame, middle}

-- what is lent to be read: the grid, the three lists as bytes, target mass and density
pub record Task : Type 0 where
  pub grid : ℕ
  pub mesh : List ℕ
  pub cauchy : List ℕ
  pub elliptic : List ℕ
  pub target : Float
  pub density : Float

abbrev pub task : ℕ → List ℕ → List ℕ → List ℕ → Float → Float → Task
task g m c e target density = record { grid = g; mesh = m; cauchy = c; elliptic = e; target = target; density = density }

-- half the cells, rounded up
unfoldable pub capacity : ℕ → ℕ
capacity g = (cube g + 1) / 2

-- ---- the inside points

-- of k cells from c on those whose point lies inside, in z, y, x order
unfoldable pub inner_from : List Triangle → Frame → ℕ → ℕ → ℕ → List ℕ
inner_from ts f g c zero = []
inner_from ts f g c (suc k) = let rest = inner_from ts f g (suc c) k in cond (is_inside (test_box ts) ts (middle f g c)) (c ∷ rest) rest

unfoldable pub inner : List Triangle → Frame → ℕ → List ℕ
inner ts f g = inner_from ts f g 0 (cube g)

-- a cell's mass: density × volume
unfoldable pub mass_of : Frame → ℕ → List Kernel → ℕ → Float
mass_of f g ks c = times (density_at ks (middle f g c)) f.volume

-- the raw sum, in that order
unfoldable pub raw_from : Frame → ℕ → List Kernel → Float → List ℕ → Float
raw_from f g ks sum [] = sum
raw_from f g ks sum (c ∷ cs) = raw_from f g ks (plus sum (mass_of f g ks c)) cs

-- target ÷ raw sum where the target is above 0 and |raw sum| above 1e-30, else 1
unfoldable pub scale_of : Float → Float → Float
scale_of target sum = cond (lt zero64 target && lt tiny (abs sum)) (over target sum) one64

-- the binary32 product of two patterns
unfoldable pub product : ℕ → ℕ → ℕ
product a b = to_bits binary32 (mul binary32 (of_bits binary32 a) (of_bits binary32 b))

-- ---- the file of a task

unfoldable pub frame_of : Task → Frame
frame_of t = frame (bounds (mesh t.mesh)) t.grid

unfoldable pub cells_of : Task → List ℕ
cells_of t = inner (mesh t.mesh) (frame_of t) t.grid

-- ks: the bytes of one of the two lists of kernels
unfoldable pub raw_of : Task → List ℕ → Float
raw_of t ks = raw_from (frame_of t) t.grid (kernels ks) zero64 (cells_of t)

unfoldable pub scale_by : Task → List ℕ → Float
scale_by t ks = scale_of t.target (raw_of t ks)

-- a mass as it is written: mass and scale narrowed, and their product
unfoldable pub written_mass : Task → List ℕ → ℕ → ℕ
written_mass t ks c = product (float_word (mass_of (frame_of t) t.grid (kernels ks) c)) (float_word (scale_by t ks))

unfoldable pub record_of : Task → ℕ → Point
record_of t c = cell_point t.grid c (record { cauchy = written_mass t t.cauchy c; elliptic = written_mass t t.elliptic c })

unfoldable pub records_of : Task → List ℕ → List Point
records_of t [] = []
records_of t (c ∷ cs) = record_of t c ∷ records_of t cs

-- the floats at 16: density, volume, Cauchy scale
unfoldable pub measures : Task → List ℕ
measures t = float_word t.density ∷ float_word (frame_of t).volume ∷ float_word (scale_by t t.cauchy) ∷ []

-- those at 32: the box, and the raw sums
unfoldable pub corners : Frame → List ℕ
corners f =
    float_word f.min.x
    ∷ float_word f.min.y
    ∷ float_word f.min.z
    ∷ float_word f.max.x
    ∷ float_word f.max.y
    ∷ float_word f.max.z
    ∷ []

unfoldable pub raw_sums : Task → List ℕ
raw_sums t = float_word (raw_of t t.cauchy) ∷ float_word (raw_of t t.elliptic) ∷ []

unfoldable pub header_words : Task → List ℕ
header_words t =
    (0x314d5952 ∷ 1 ∷ t.grid ∷ length (cells_of t) ∷ [])
    ++ (measures t ++ (0 ∷ (corners (frame_of t) ++ raw_sums t)))

unfoldable pub file_bytes : Task → List ℕ
file_bytes t = words_bytes (header_words t) ++ points_bytes (records_of t (cells_of t))

-- ---- causes

-- 19: the box, narrowed, has min not below max on an axis; what is too large is below nothing, and nothing is below it
unfoldable pub below_narrowed : ℕ → ℕ → Bool
below_narrowed a b = finite a && (finite b && lt (of_bits binary32 a) (of_bits binary32 b))

unfoldable pub flat : Float → Float → Bool
flat min max = not (below_narrowed (float_word min) (float_word max))

unfoldable pub box_flat : Frame → Bool
box_flat f = flat f.min.x f.max.x || (flat f.min.y f.max.y || flat f.min.z f.max.z)

-- 20: every float to be written is finite
abbrev pub fine : Point → Bool
fine p = finite p.cauchy && finite p.elliptic

unfoldable pub masses_finite : List Point → Bool
masses_finite [] = true
masses_finite (p ∷ ps) = fine p && masses_finite ps

unfoldable pub floats_finite : Task → Bool
floats_finite t = all_finite (measures t ++ (corners (frame_of t) ++ raw_sums t)) && masses_finite (records_of t (cells_of t))

-- 17, of the three lists and of both numbers
unfoldable pub lists_wrong : List ℕ → List ℕ → List ℕ → Float → Float → Bool
lists_wrong m c e target density =
    mesh_wrong m || (kernels_wrong c || (kernels_wrong e || (not (up_to mass_limit target) || not (up_to mass_limit density))))

-- 3; 17; 8, fewer floats than triangles; 9, no room for half the cells; 19
unfoldable pub fill_cause : Task → ℕ → List ℕ → ℕ
fill_cause t floats out =
    first (grid_cause t.grid)
    (first (when (lists_wrong t.mesh t.cauchy t.elliptic t.target t.density) 17)
    (first (when (ltb floats (length t.mesh / 72)) 8)
    (first (when (ltb (length out) (size (capacity t.grid))) 9)
    (when (box_flat (frame_of t)) 19))))

-- ---- the call

-- 18 and 20 zero the whole output
unfoldable pub cleared : ℕ → List ℕ → Outcome (List ℕ)
cleared n out = outcome n (replicate (length out) 0)

-- once 3 to 19 are passed: 18, more inside points than half the cells; 20; else the file
unfoldable pub filled : Task → List ℕ → Outcome (List ℕ)
filled t out =
    cond (ltb (capacity t.grid) (length (cells_of t))) (cleared 18 out)
    (cond (floats_finite t) (outcome (size (length (cells_of t))) (splice out 0 (file_bytes t))) (cleared 20 out))

-- floats: how many are lent; out: the output at entry
unfoldable pub fill : Task → ℕ → List ℕ → Outcome (List ℕ)
fill t floats out = refuse (fill_cause t floats out) out (filled t out)

-- the causes that are judged before scratch is used: 3, 17, 8
unfoldable pub early : ℕ → Bool
early n = eqb n 3 || (eqb n 17 || eqb n 8)

-- ---- the scratch of a filling by lists, which no call asks for yet

-- how much scratch is lent, or asked for
abbrev pub lent : ℕ → ℕ → ℕ → Lent
lent floats offsets words = record { floats = floats; offsets = offsets; words = words }

-- a float per triangle, 9,217 offsets, a word per entry of the lists by row
unfoldable pub needed : List ℕ → Lent
needed m = lent (length m / 72) 9217 (entry_count m)

-- l has less of any than k
unfoldable pub short : Lent → Lent → Bool
short l k = ltb l.floats k.floats || (ltb l.offsets k.offsets || ltb l.words k.words)
