-- A grid of points of mass 1 in a box from 0 to 1: no float of its tree is too large. Assumes nothing.
use Prim.Native.Nat.{ℕ, zero, suc, ◌+◌, ◌-◌, ◌*◌, ◌≤◌, ◌<◌}
use mathlib.Core.Path.{◌≡◌, refl, ap, subst, ◌∙◌}
use mathlib.Core.Bool.{Bool, true, false, cond}
use mathlib.Core.List.{List, [], ◌∷◌, ◌++◌}
use native.Mathlib.Nat.{le_trans, mul-one, zero-add}
use native.Mathlib.Omega.{arith}
use lib.ListN.{length, get_or}
use lib.Ieee.{Float, nan, binary32, binary64, add, sub, mul, div, lt, of_bits}
use lib.Ieee.Exact.{HasValue}
use Rattle.float.specs.Narrow.{any_large}
use Rattle.float.specs.Number.{zero64, half, tiny, abs, num}
use Rattle.rym1.specs.File.{cell}
use Rattle.rym1.specs.Cells.{Slot, vacant, held}
use Rattle.rtm1.specs.declared.Cells.{Cells}
use Rattle.rtm1.specs.declared.Frame.{Frame}
use Rattle.rtm1.specs.declared.Sums.{Sums}
use Rattle.rtm1.specs.declared.Axis.TheVariants.{X, Y, Z}
use Rattle.rtm1.specs.Boxes.{Within, width}
use Rattle.rtm1.specs.Visit.{Placed, here, run, point_in, row, plane, visit, zero3, nothing, moved, shifted, with, total}
use Rattle.rtm1.specs.Tree.{sums_of, tree_of}
use Rattle.rtm1.specs.Node.{over, fallback, centre, constant_centre, centre_on, centre_of, half_on, half_of, metric_on, metric_com, node_floats, nodes_floats, some_large}
use Rattle.rtm1.specs.Costliest.{unit}
use Rattle.rtm1.proofs.Boxes.{within_most}
use Rattle.rtm1.proofs.Growth.{by_boxes}
use Rattle.rtm1.proofs.Order.{points_exact}
use Rattle.rtm1.proofs.Large.{large_empty, large_leaf, large_split}
use Rattle.float.proofs.Whole.{whole_plus, whole_times}
use Rattle.float.proofs.Low.{Low, value_low, add_low, mul_low, div_low, num_value, num_low, max_low, Fine, low_fine}

-- ---- the sums of n points of mass 1, whose coordinates are at most 255

one_is : HasValue (of_bits binary32 unit) false 1 1
one_is = unfold of_bits in (refl, refl)

zero_is : HasValue zero64 false 0 1
zero_is = unfold of_bits in (refl, refl)

-- a moment is a whole number, at most 255·n
abbrev pub Moment : ℕ → Float → Type 0
Moment n x = (a : ℕ) × HasValue x false a 1 × (a ≤ 255 * n)

abbrev pub Moments : ℕ → List Float → Type 0
Moments n m = Moment n (get_or m 0 nan) × Moment n (get_or m 1 nan) × Moment n (get_or m 2 nan)

-- one more of a coordinate c
plus_moment : (n c : ℕ) (x y : Float) → n ≤ 16777216 → c ≤ 255 → Moment n x → HasValue y false c 1 → Moment (n + 1) (add binary64 x y)
plus_moment n c x y few h m v =
    let (a, is, most) = m in
    (a + c, whole_plus binary64 x y a c is v (omega arith), omega arith)

times_one : (c : ℕ) → c ≤ 255 → HasValue (mul binary64 (num c) (of_bits binary32 unit)) false c 1
times_one c h =
    subst (λ (k : ℕ). HasValue (mul binary64 (num c) (of_bits binary32 unit)) false k 1) (mul-one c)
    (whole_times binary64 (num c) (of_bits binary32 unit) c 1 (num_value c (omega arith)) one_is (omega arith))

-- a point of mass 1 in a grid of at most 256 cells to a side
pub record One (p : Placed) : Type 0 where
  pub few_x : p.x ≤ 255
  pub few_y : p.y ≤ 255
  pub few_z : p.z ≤ 255
  pub one_cauchy : p.cauchy ≡ of_bits binary32 unit
  pub one_elliptic : p.elliptic ≡ of_bits binary32 unit

moved_more : (n : ℕ) (m : List Float) (p : Placed) (mass : Float) → n ≤ 16777216 → One p → mass ≡ of_bits binary32 unit → Moments n m → Moments (n + 1) (moved m p.x p.y p.z mass)
unfolding moved
moved_more n m p mass few o e h =
    rw e (
      plus_moment n p.x _ _ few o.few_x h.0 (times_one p.x o.few_x),
      plus_moment n p.y _ _ few o.few_y h.1 (times_one p.y o.few_y),
      plus_moment n p.z _ _ few o.few_z h.2 (times_one p.z o.few_z),
    )

shifted_more : (n : ℕ) (m : List Float) (p : Placed) → n ≤ 16777216 → One p → Moments n m → Moments (n + 1) (shifted m p.x p.y p.z)
unfolding shifted
shifted_more n m p few o h = (
  plus_moment n p.x _ _ few o.few_x h.0 (num_value p.x (le_trans o.few_x (omega arith))),
  plus_moment n p.y _ _ few o.few_y h.1 (num_value p.y (le_trans o.few_y (omega arith))),
  plus_moment n p.z _ _ few o.few_z h.2 (num_value p.z (le_trans o.few_z (omega arith))),
)

-- the sums of n of them
pub record Summed (n : ℕ) (s : Sums) : Type 0 where
  pub counted : s.count ≡ n
  pub cauchy_sum_law : HasValue s.cauchy false n 1
  pub elliptic_sum_law : HasValue s.elliptic false n 1
  pub cauchy_moments : Moments n s.cauchy_moment
  pub elliptic_moments : Moments n s.elliptic_moment
  pub constant_moments : Moments n s.constant_moment

none_moment : Moment 0 zero64
none_moment = (0, zero_is, omega arith)

pub nothing_summed : Summed 0 nothing
nothing_summed =
    record {
      counted = refl;
      cauchy_sum_law = zero_is;
      elliptic_sum_law = zero_is;
      cauchy_moments = (none_moment, none_moment, none_moment);
      elliptic_moments = (none_moment, none_moment, none_moment);
      constant_moments = (none_moment, none_moment, none_moment);
    }

with_summed : (n : ℕ) (s : Sums) (p : Placed) → n < 16777216 → One p → Summed n s → Summed (n + 1) (with s p)
with_summed n s p few o h =
    record {
      counted = ap (λ (k : ℕ). k + 1) h.counted;
      cauchy_sum_law = rw o.one_cauchy (whole_plus binary64 s.cauchy (of_bits binary32 unit) n 1 h.cauchy_sum_law one_is (omega arith));
      elliptic_sum_law = rw o.one_elliptic (whole_plus binary64 s.elliptic (of_bits binary32 unit) n 1 h.elliptic_sum_law one_is (omega arith));
      cauchy_moments = moved_more n s.cauchy_moment p p.cauchy (omega arith) o o.one_cauchy h.cauchy_moments;
      elliptic_moments = moved_more n s.elliptic_moment p p.elliptic (omega arith) o o.one_elliptic h.elliptic_moments;
      constant_moments = shifted_more n s.constant_moment p (omega arith) o h.constant_moments;
    }

abbrev pub Ones : List Placed → Type 0
Ones [] = Unit {0}
Ones (p ∷ ps) = One p × Ones ps

pub total_summed : (n : ℕ) (s : Sums) (ps : List Placed) → Ones ps → n + length ps ≤ 16777216 → Summed n s → Summed (n + length ps) (total s ps)
unfolding total
total_summed n s [] o few h =
    let e : n + 0 ≡ n = omega arith in
    rw e h
total_summed n s (p ∷ ps) o few h =
    let more : n + suc (length ps) ≡ n + 1 + length ps = omega arith in
    rw more (total_summed (n + 1) (with s p) ps o.1 (omega arith) (with_summed n s p (omega arith) o.0 h))

-- ---- centres of mass, in cells

half_is : Low 1 half
half_is = unfold of_bits in (refl, omega arith)

-- three floats from 0 to k
abbrev pub Three : ℕ → List Float → Type 0
Three k c = Low k (get_or c 0 nan) × Low k (get_or c 1 nan) × Low k (get_or c 2 nan)

over_low : (n : ℕ) (m : List Float) (s : Float) → 0 < n → HasValue s false n 1 → Moments n m → Three 511 (over m s)
over_low n m s some v h = (axis (get_or m 0 nan) h.0, axis (get_or m 1 nan) h.1, axis (get_or m 2 nan) h.2)
  where
    axis : (x : Float) → Moment n x → Low 511 (div binary64 x s)
    axis x m = div_low binary64 x s m.0 n 511 m.1 v some (omega arith) (omega (arith, m.2))

-- a box in a grid of at most 256
abbrev pub Inside : Cells → Type 0
Inside b = Within 256 b

fallback_low : (b : Cells) → Inside b → Three 511 (fallback b)
fallback_low b w = (axis (b.x0 + b.x1 - 1) (omega arith), axis (b.y0 + b.y1 - 1) (omega arith), axis (b.z0 + b.z1 - 1) (omega arith))
  where
    axis : (n : ℕ) → n ≤ 511 → Low 511 (mul binary64 (num n) half)
    axis n h = mul_low binary64 511 1 (num n) half (omega arith) (num_low n 511 h (omega arith)) half_is

zero3_low : Three 511 zero3
zero3_low =
    let z : Low 511 zero64 = unfold of_bits in (refl, omega arith) in
    (z, z, z)

centre_low : (b : Cells) (n : ℕ) (m : List Float) (s : Float) → Inside b → HasValue s false n 1 → Moments n m → Three 511 (centre b n m s)
unfolding centre
centre_low b zero m s w v h = zero3_low
centre_low b (suc n) m s w v h = go (lt tiny (abs s))
  where
    go : (t : Bool) → Three 511 (cond t (over m s) (fallback b))
    go true = over_low (suc n) m s (omega arith) v h
    go false = fallback_low b w

constant_low : (n : ℕ) (m : List Float) → n ≤ 16777216 → Moments n m → Three 511 (constant_centre n m)
unfolding constant_centre
constant_low zero m few h = zero3_low
constant_low (suc n) m few h = over_low (suc n) m (num (suc n)) (omega arith) (num_value (suc n) (omega arith)) h

-- ---- metres

-- min and cell of each axis are from 0 to 1
pub record Framed (r : Frame) : Type 0 where
  pub mins : Three 1 r.min
  pub cell_sizes : Three 1 r.cell

centre_on_law : (min cell : Float) (low high : ℕ) → Low 1 min → Low 1 cell → low ≤ 256 → high ≤ 256 → Low 513 (centre_on min cell low high)
unfolding centre_on
centre_on_law min cell low high m c l h =
    add_low binary64 1 512 min (mul binary64 (mul binary64 (num (low + high)) half) cell) (omega arith) m
    (mul_low binary64 512 1 (mul binary64 (num (low + high)) half) cell (omega arith)
    (mul_low binary64 512 1 (num (low + high)) half (omega arith) (num_low (low + high) 512 (omega arith) (omega arith)) half_is) c)

half_on_law : (cell : Float) (low high : ℕ) → Low 1 cell → high ≤ 256 → Low 513 (half_on cell low high)
unfolding half_on
half_on_law cell low high c h =
    mul_low binary64 513 1 (mul binary64 (num (high - low)) half) cell (omega arith)
    (mul_low binary64 513 1 (num (high - low)) half (omega arith) (num_low (high - low) 513 (omega arith) (omega arith)) half_is) c

metric_on_law : (min cell c : Float) → Low 1 min → Low 1 cell → Low 511 c → Low 513 (metric_on min cell c)
unfolding metric_on
metric_on_law min cell c m s h =
    add_low binary64 1 512 min (mul binary64 (add binary64 c half) cell) (omega arith) m
    (mul_low binary64 512 1 (add binary64 c half) cell (omega arith) (add_low binary64 511 1 c half (omega arith) h half_is) s)

centre_of_law : (r : Frame) (b : Cells) → Framed r → Inside b → Three 513 (centre_of r b)
unfolding centre_of
centre_of_law r b f w = (
  centre_on_law _ _ b.x0 b.x1 f.mins.0 f.cell_sizes.0 (omega arith) (omega arith),
  centre_on_law _ _ b.y0 b.y1 f.mins.1 f.cell_sizes.1 (omega arith) (omega arith),
  centre_on_law _ _ b.z0 b.z1 f.mins.2 f.cell_sizes.2 (omega arith) (omega arith),
)

half_of_law : (r : Frame) (b : Cells) → Framed r → Inside b → Low 513 (half_of r b)
unfolding half_of
half_of_law r b f w =
    max_low 513 _ _
    (max_low 513 _ _ (half_on_law _ b.x0 b.x1 f.cell_sizes.0 (omega arith)) (half_on_law _ b.y0 b.y1 f.cell_sizes.1 (omega arith)))
    (half_on_law _ b.z0 b.z1 f.cell_sizes.2 (omega arith))

metric_of : (r : Frame) (c : List Float) → Framed r → Three 511 c → Three 513 (metric_com r c)
unfolding metric_com
metric_of r c f h = (
  metric_on_law _ _ _ f.mins.0 f.cell_sizes.0 h.0,
  metric_on_law _ _ _ f.mins.1 f.cell_sizes.1 h.1,
  metric_on_law _ _ _ f.mins.2 f.cell_sizes.2 h.2,
)

-- ---- the record

abbrev AllFine : List Float → Type 0
AllFine [] = Unit {0}
AllFine (x ∷ xs) = Fine x × AllFine xs

none_large : (xs : List Float) → AllFine xs → any_large xs ≡ false
unfolding any_large
none_large [] h = refl
none_large (x ∷ xs) h = rw h.0 (none_large xs h.1)

fine : (x : Float) → Low 513 x → Fine x
fine x h = low_fine 513 x (omega arith) h

node_fine : (r : Frame) (b : Cells) (n : ℕ) (s : Sums) → Framed r → Inside b → n ≤ 16777216 → Summed n s → AllFine (node_floats r b s)
unfolding node_floats centre_of metric_com
node_fine r b n s f w few h =
    let box = centre_of_law r b f w in
    let one = metric_of r (centre b s.count s.cauchy_moment s.cauchy) f (rw h.counted (centre_low b n s.cauchy_moment s.cauchy w h.cauchy_sum_law h.cauchy_moments)) in
    let two = metric_of r (centre b s.count s.elliptic_moment s.elliptic) f (rw h.counted (centre_low b n s.elliptic_moment s.elliptic w h.elliptic_sum_law h.elliptic_moments)) in
    let three = metric_of r (constant_centre s.count s.constant_moment) f (rw h.counted (constant_low n s.constant_moment few h.constant_moments)) in
    let cauchy : Fine s.cauchy = low_fine n s.cauchy few (value_low s.cauchy n h.cauchy_sum_law) in
    let elliptic : Fine s.elliptic = low_fine n s.elliptic few (value_low s.elliptic n h.elliptic_sum_law) in (
      fine _ box.0,
      (
        fine _ box.1,
        (
          fine _ box.2,
          (
            fine _ (half_of_law r b f w),
            (
              cauchy,
              (
                elliptic,
                (
                  fine _ one.0,
                  (
                    fine _ one.1,
                    (
                      fine _ one.2,
                      (
                        fine _ two.0,
                        (
                          fine _ two.1,
                          (
                            fine _ two.2,
                            (fine _ three.0, (fine _ three.1, (fine _ three.2, tt))),
                          ),
                        ),
                      ),
                    ),
                  ),
                ),
              ),
            ),
          ),
        ),
      ),
    )

-- ---- the points

ones_append : (ps qs : List Placed) → Ones ps → Ones qs → Ones (ps ++ qs)
ones_append [] qs h k = k
ones_append (p ∷ ps) qs h k = (h.0, ones_append ps qs h.1 k)

run_ones : (f : ℕ → List Placed) (a n : ℕ) → ((k : ℕ) → a ≤ k → k < a + n → Ones (f k)) → Ones (run f a n)
unfolding run
run_ones f a zero h = tt
run_ones f a (suc n) h =
    ones_append (f a) (run f (suc a) n) (h a (omega arith) (omega arith)) (run_ones f (suc a) n (λ k i j. h k (omega arith) (omega arith)))

-- a cell that is free, or has masses 1
abbrev pub OneSlot : Slot → Type 0
OneSlot vacant = Unit {0}
OneSlot (held i m) = (m.cauchy ≡ unit) × (m.elliptic ≡ unit)

here_ones : (x y z : ℕ) (s : Slot) → x ≤ 255 → y ≤ 255 → z ≤ 255 → OneSlot s → Ones (here x y z s)
here_ones x y z vacant hx hy hz o = tt
here_ones x y z (held i m) hx hy hz o =
    (record { few_x = hx; few_y = hy; few_z = hz; one_cauchy = ap (of_bits binary32) o.0; one_elliptic = ap (of_bits binary32) o.1 }, tt)

-- every point of the grid has masses 1
abbrev pub AllOne : (ℕ → Slot) → ℕ → Type 0
AllOne look g = (x y z : ℕ) → x < g → y < g → z < g → OneSlot (look (cell g x y z))

module _ (look : ℕ → Slot) (g : ℕ) (few : g ≤ 256) (each : AllOne look g) where
  visit_ones : (b : Cells) → Within g b → Ones (visit look g b)
  visit_ones b w =
      run_ones (plane look g b) b.z0 (width Z b) (λ z z₁ z₂.
      run_ones (row look g b z) b.y0 (width Y b) (λ y y₁ y₂.
      run_ones (point_in look g z y) b.x0 (width X b) (λ x x₁ x₂.
      let hx : x < g = omega arith in
      let hy : y < g = omega arith in
      let hz : z < g = omega arith in
      here_ones x y z (look (cell g x y z)) (omega arith) (omega arith) (omega arith) (each x y z hx hy hz))))

  -- a box's sums: masses add up to its points, moments to at most 255 times as much
  pub sums_summed : (b : Cells) → Within g b → Summed (length (visit look g b)) (sums_of look g b)
  sums_summed b w =
      subst (λ (n : ℕ). Summed n (sums_of look g b)) (zero-add (length (visit look g b)))
      (total_summed 0 nothing (visit look g b) (visit_ones b w) (omega (arith, points_exact look g few b w)) nothing_summed)

  module _ (r : Frame) (f : Framed r) where
    box_small : (b : Cells) → Within g b → any_large (node_floats r b (sums_of look g b)) ≡ false
    box_small b w = none_large _ (node_fine r b (length (visit look g b)) (sums_of look g b) f (within_most g b few w) (points_exact look g few b w) (sums_summed b w))

    -- no float of the tree is too large
    pub small_tree : (b : Cells) → Within g b → some_large (nodes_floats r (tree_of look g b)) ≡ false
    small_tree =
        by_boxes look g (λ b t. some_large (nodes_floats r t) ≡ false)
        (λ b w e. large_empty r b ∙ none_large _ (node_fine r b 0 nothing f (within_most g b few w) (omega arith) nothing_summed))
        (λ b w e. large_leaf r b _ _ ∙ box_small b w)
        (λ b w e two below above. large_split r b _ _ _ ∙ rw (box_small b w, below, above))

-- ---- the box from 0 to 1

one_less_zero : HasValue (sub binary64 (of_bits binary32 unit) (of_bits binary32 0)) false 1 1
one_less_zero = unfold sub of_bits in (refl, refl)

pub min_low : Low 1 (of_bits binary32 0)
min_low = unfold of_bits in (refl, omega arith)

pub cell_size_low : (g : ℕ) → 0 < g → g ≤ 256 → Low 1 (div binary64 (sub binary64 (of_bits binary32 unit) (of_bits binary32 0)) (num g))
cell_size_low g some few = div_low binary64 _ (num g) 1 g 1 one_less_zero (num_value g (omega arith)) some (omega arith) (omega arith)
