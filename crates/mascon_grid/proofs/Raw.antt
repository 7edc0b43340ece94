-- The records that a visit leaves, not yet scaled: they fit their bytes, they are read again, and scaled they are the file's. Assumes nothing.
use Prim.Native.Nat.{ℕ, zero, suc, ◌+◌, ◌*◌, ◌≤◌, ◌<◌}
use mathlib.Core.Path.{◌≡◌, refl, sym, ap, ◌∙◌}
use mathlib.Core.Bool.{Bool, true, false, cond, true≢false, ◌&&◌, and-false}
use mathlib.Core.List.{List, [], ◌∷◌}
use native.Mathlib.Omega.{arith}
use lib.ListN.{length, take, drop}
use lib.Seq.{length-take-le}
use lib.Dec.{eqb, ltb}
use lib.Ieee.{Float, nan, inf, fin, Format, binary32, binary64, unlike, of_bits, to_bits, mul, div, lt}
use lib.Ieee.Scale as ieee
use lib.Ieee.Fits.{mul-fits, div-fits}
use lib.Ieee.Bits.{of_bits-fits, of_bits-to_bits}
use borrow.Author.Tests.{lt-ltb}
use Rattle.float.specs.Narrow.{narrow, float_word}
use Rattle.float.specs.Number.{zero64, one64, tiny, abs}
use Rattle.float.proofs.Large.{float_small}
use Rattle.rym1.specs.declared.Point.{Point}
use Rattle.rym1.specs.Bytes.{splice}
use Rattle.rym1.specs.File.{finite, cube, points_at, points_bytes}
use Rattle.rym1.specs.Cells.{cell_point}
use Rattle.rym1.proofs.Causes.{and_true_l, and_true_r}
use Rattle.rym1.proofs.Points.{Fits, AllFit, length_points, points_at_law}
use Rattle.rym1.proofs.Cells.{point_fits}
use Rattle.filling.specs.declared.Kernel.{Kernel}
use Rattle.filling.specs.declared.Triangle.{Triangle}
use Rattle.filling.specs.declared.Frame.{Frame}
use Rattle.filling.specs.Vector.{times}
use Rattle.filling.specs.Lists.{kernels}
use Rattle.filling.specs.Inside.{is_inside, test_box}
use Rattle.filling.specs.Frame.{middle}
use Rattle.filling.specs.Fill.{product, scale_of, masses_finite, Task, inner_from, inner, mass_of, frame_of, scale_by, written_mass, record_of, records_of}
use Rattle.visit.specs.Visited.{raw_point, raw_points}
use Rattle.mascon_grid.specs.Scaled.{scaled_point, scaled_points}
use Rattle.visit.proofs.Visiting.{length_raw_points}

-- ---- a mass is written as a word

product_word : (x y : Float) → float_word (times x y) < 4294967296
product_word x y = float_small (mul binary64 x y) (mul-fits binary64 x y)

-- ---- they fit

pub zero_finite : finite 0 ≡ true
unfolding finite of_bits
zero_finite = refl

module _ (f : Frame) (g : ℕ) (ks es : List Kernel) where
  raw_fits : 0 < g → g ≤ 256 → (c : ℕ) → c < cube g → Fits (raw_point f g ks es c)
  unfolding raw_point cell_point mass_of
  raw_fits pos few c low =
      let place = point_fits g pos c (record { cauchy = 0; elliptic = 0 }) few low (record { cauchy_finite = zero_finite; elliptic_finite = zero_finite }) in
      record { x = place.x; y = place.y; z = place.z; pad = place.pad; cauchy = product_word _ _; elliptic = product_word _ _ }

  -- those of k cells from c on
  fit_from : 0 < g → g ≤ 256 → (ts : List Triangle) (c k : ℕ) → c + k ≤ cube g → AllFit (raw_points f g ks es (inner_from ts f g c k))
  unfolding inner_from raw_points
  fit_from pos few ts c zero h = tt
  fit_from pos few ts c (suc k) h = go (is_inside (test_box ts) ts (middle f g c)) (fit_from pos few ts (suc c) k (omega arith))
    where
      go : (b : Bool) → AllFit (raw_points f g ks es (inner_from ts f g (suc c) k)) → AllFit (raw_points f g ks es (cond b (c ∷ inner_from ts f g (suc c) k) (inner_from ts f g (suc c) k)))
      go true rest = (raw_fits pos few c (omega arith), rest)
      go false rest = rest

  pub inner_fit : 0 < g → g ≤ 256 → (ts : List Triangle) → AllFit (raw_points f g ks es (inner ts f g))
  unfolding inner
  inner_fit pos few ts = fit_from pos few ts 0 (cube g) (omega arith)

  -- ---- they are read again

  pub raw_long : (cs : List ℕ) → length (points_bytes (raw_points f g ks es cs)) ≡ 16 * length cs
  raw_long cs = length_points (raw_points f g ks es cs) ∙ ap (λ (n : ℕ). 16 * n) (length_raw_points f g ks es cs)

  pub raw_at : (cs out out' : List ℕ) → AllFit (raw_points f g ks es cs) → 64 ≤ length out → out' ≡ splice out 64 (points_bytes (raw_points f g ks es cs))
      → points_at out' 64 (length cs) ≡ raw_points f g ks es cs
  unfolding splice
  raw_at cs out out' fit h e =
      let rs = raw_points f g ks es cs in
      (λ i. points_at (e i) 64 (sym (length_raw_points f g ks es cs) i)) ∙ points_at_law (take 64 out) rs (drop (64 + length (points_bytes rs)) out) 64 (length-take-le 64 out h) fit

-- ---- they are the file's, once scaled

pub scaled_are : (t : Task) (cs : List ℕ)
    → scaled_points (float_word (scale_by t t.cauchy)) (float_word (scale_by t t.elliptic)) (raw_points (frame_of t) t.grid (kernels t.cauchy) (kernels t.elliptic) cs) ≡ records_of t cs
unfolding scaled_points raw_points records_of scaled_point raw_point record_of cell_point written_mass
scaled_are t [] = refl
scaled_are t (c ∷ cs) = ap (λ (ps : List Point). record_of t c ∷ ps) (scaled_are t cs)

-- ---- a product is finite of finite factors alone

never_finite : (z s : Bool) → ieee.finite (cond z nan (inf s)) ≡ false
never_finite true s = refl
never_finite false s = refl

mul_left : (f : Format) (x y : Float) → ieee.finite (mul f x y) ≡ true → ieee.finite x ≡ true
unfolding mul
mul_left f nan y h = h
mul_left f (inf s) nan h = h
mul_left f (inf s) (inf t) h = h
mul_left f (inf s) (fin t n d) h = absurd (true≢false (sym h ∙ never_finite (eqb n 0) (unlike s t)))
mul_left f (fin s m e) y h = refl

mul_right : (f : Format) (x y : Float) → ieee.finite (mul f x y) ≡ true → ieee.finite y ≡ true
unfolding mul
mul_right f nan y h = absurd (true≢false (sym h))
mul_right f (inf s) nan h = h
mul_right f (inf s) (inf t) h = h
mul_right f (inf s) (fin t n d) h = refl
mul_right f (fin s m e) nan h = h
mul_right f (fin s m e) (inf t) h = absurd (true≢false (sym h ∙ never_finite (eqb m 0) (unlike s t)))
mul_right f (fin s m e) (fin t n d) h = refl

module _ (a b : ℕ) (h : finite (product a b) ≡ true) where
  value_finite : ieee.finite (mul binary32 (of_bits binary32 a) (of_bits binary32 b)) ≡ true
  unfolding finite product
  value_finite =
      let v = mul binary32 (of_bits binary32 a) (of_bits binary32 b) in
      sym (ap ieee.finite (of_bits-to_bits binary32 v (mul-fits binary32 _ _))) ∙ and_true_r (ltb (to_bits binary32 v) 4294967296) _ h

  pub product_left : a < 4294967296 → finite a ≡ true
  unfolding finite
  product_left low = rw (lt-ltb a 4294967296 low, mul_left binary32 (of_bits binary32 a) (of_bits binary32 b) value_finite)

  pub product_right : b < 4294967296 → finite b ≡ true
  unfolding finite
  product_right low = rw (lt-ltb b 4294967296 low, mul_right binary32 (of_bits binary32 a) (of_bits binary32 b) value_finite)

-- so masses that are finite once scaled were finite before, and the scale is
module _ (k l : ℕ) where
  pub scaled_back : (ps : List Point) → AllFit ps → masses_finite (scaled_points k l ps) ≡ true → masses_finite ps ≡ true
  unfolding masses_finite scaled_points scaled_point
  scaled_back [] fit h = refl
  scaled_back (p ∷ ps) fit h =
      let here = and_true_l (finite (product p.cauchy k) && finite (product p.elliptic l)) _ h in
      let rest = and_true_r (finite (product p.cauchy k) && finite (product p.elliptic l)) _ h in
      rw (
        product_left p.cauchy k (and_true_l (finite (product p.cauchy k)) _ here) fit.0.cauchy,
        product_left p.elliptic l (and_true_r (finite (product p.cauchy k)) _ here) fit.0.elliptic,
        scaled_back ps fit.1 rest,
      )

  pub scale_back : (p : Point) (ps : List Point) → l < 4294967296 → masses_finite (scaled_points k l (p ∷ ps)) ≡ true → finite l ≡ true
  unfolding masses_finite scaled_points scaled_point
  scale_back p ps low h =
      product_right p.elliptic l (and_true_r (finite (product p.cauchy k)) _ (and_true_l (finite (product p.cauchy k) && finite (product p.elliptic l)) _ h)) low

-- ---- a scale as a word

pub scale_small : (target sum : Float) → float_word (scale_of target sum) < 4294967296
unfolding scale_of
scale_small target sum = go (lt zero64 target && lt tiny (abs sum))
  where
    go : (b : Bool) → float_word (cond b (div binary64 target sum) one64) < 4294967296
    go true = float_small (div binary64 target sum) (div-fits binary64 target sum)
    go false = float_small one64 (of_bits-fits binary64 4607182418800017408)

pub scale_none : (target : Float) → scale_of target zero64 ≡ one64
unfolding scale_of abs lt of_bits
scale_none target = rw (and-false (lt zero64 target))

pub one_finite : finite (float_word one64) ≡ true
unfolding finite float_word narrow to_bits of_bits
one_finite = refl
