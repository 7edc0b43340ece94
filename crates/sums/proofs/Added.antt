-- What a point adds to the sums, and records on end one after the other. Assumes nothing.
use Prim.Native.Nat.{ℕ, suc, ◌+◌, ◌-◌, ◌*◌, ◌≤◌, ◌<◌}
use mathlib.Core.Path.{◌≡◌, refl, sym, ap, ◌∙◌}
use mathlib.Core.Bool.{Bool, true, false, true≢false}
use mathlib.Core.List.{List}
use native.Mathlib.Numerals.{add-one}
use native.Mathlib.Omega.{arith}
use lib.ListN.{length}
use lib.Ieee.{Float, binary32, of_bits, nan_bits}
use lib.Ieee.Scale as ieee
use lib.Dec.{ltb}
use Rattle.rym1.specs.Bytes.{word16, word32}
use Rattle.rym1.specs.File.{grid, count, size, point_at, points, finite, file_cause}
use Rattle.rym1.proofs.Accepted.{accepted, accepted_points, sound, each_sound}
use Rattle.rym1.proofs.Causes.{and_true_r}
use Rattle.float.proofs.Finite.{reads_nan}
use Rattle.rtm1.specs.declared.Sums.{Sums}
use Rattle.rtm1.specs.Visit.{with, total}
use Rattle.runs.specs.Runs.{placed_at, placed}

-- ---- one more point

-- ---- records on end

-- from t₀ and record i₀ to t and record i: the sums so far, with the records up to n, are all of it
pub record Adding (f : List ℕ) (z y n : ℕ) (t₀ : Sums) (i₀ : ℕ) (t : Sums) (i : ℕ) : Type 0 where
  pub few : t.count + (n - i) ≡ t₀.count + (n - i₀)
  pub so_far : total t (placed f z y i (n - i)) ≡ total t₀ (placed f z y i₀ (n - i₀))

-- a record lies in the file
pub record_there : (f : List ℕ) (at i : ℕ) → file_cause f ≡ 0 → i < count f → at ≡ 64 + 16 * i → at + 16 ≤ length f
unfolding size
record_there f at i ok h e = omega (arith, (accepted f ok).room)

-- its masses are no NaNs
not_nan : (n : ℕ) → finite n ≡ true → nan_bits binary32 n ≡ false
unfolding finite
not_nan n h = go (nan_bits binary32 n) refl
  where
    go : (b : Bool) → b ≡ nan_bits binary32 n → nan_bits binary32 n ≡ false
    go false e = sym e
    go true e = absurd (true≢false (sym (and_true_r (ltb n 4294967296) _ h) ∙ ap ieee.finite (sym (reads_nan binary32 n true e refl))))

pub masses_finite_law : (f : List ℕ) (at i : ℕ) → file_cause f ≡ 0 → i < count f → at ≡ 64 + 16 * i
    → (nan_bits binary32 (word32 f (at + 8)) ≡ false) × (nan_bits binary32 (word32 f (at + 12)) ≡ false)
unfolding points point_at
masses_finite_law f at i ok h e =
    let m = (sound (grid f) (point_at f (64 + 16 * i)) (each_sound (grid f) f 64 (count f) i (accepted_points f ok) h)).masses in
    rw e (not_nan _ m.cauchy_finite, not_nan _ m.elliptic_finite)

pub adding_turn : (f : List ℕ) (z y n : ℕ) (t₀ : Sums) (i₀ : ℕ) (t t' : Sums) (at i x : ℕ) (a b : Float) → i < n → at ≡ 64 + 16 * i
    → x ≡ word16 f at → a ≡ of_bits binary32 (word32 f (at + 8)) → b ≡ of_bits binary32 (word32 f (at + 12))
    → t' ≡ with t (record { x = x; y = y; z = z; index = 0; cauchy = a; elliptic = b })
    → Adding f z y n t₀ i₀ t i → Adding f z y n t₀ i₀ t' (i + 1)
unfolding total placed
adding_turn f z y n t₀ i₀ t t' at i x a b h place ex ea eb e d =
    let more : n - i ≡ suc (n - (i + 1)) = omega arith in
    let cauchy-at : at + 8 ≡ 72 + 16 * i = omega arith in
    let elliptic-at : at + 12 ≡ 76 + 16 * i = omega arith in
    let point : t' ≡ with t (placed_at f z y i) =
    e ∙ (λ j. with t (record { x = (ex ∙ ap (word16 f) place) j; y = y; z = z; index = 0; cauchy = (ea ∙ ap (λ (k : ℕ). of_bits binary32 (word32 f k)) cauchy-at) j; elliptic = (eb ∙ ap (λ (k : ℕ). of_bits binary32 (word32 f k)) elliptic-at) j })) in
    record {
      few = omega (arith, ap (λ (s : Sums). s.count) e, d.few);
      so_far = (λ j. total (point j) (placed f z y (add-one i j) (n - (i + 1)))) ∙ ap (λ (k : ℕ). total t (placed f z y i k)) (sym more) ∙ d.so_far;
    }

pub adding_end : (f : List ℕ) (z y n : ℕ) (t₀ : Sums) (i₀ k : ℕ) (t : Sums) (i : ℕ) → n ≡ i₀ + k → n ≤ i → Adding f z y n t₀ i₀ t i → t ≡ total t₀ (placed f z y i₀ k)
unfolding total placed
adding_end f z y n t₀ i₀ k t i en h d =
    let none : n - i ≡ 0 = omega arith in
    let all : n - i₀ ≡ k = omega arith in
    ap (λ (j : ℕ). total t (placed f z y i j)) (sym none) ∙ d.so_far ∙ ap (λ (j : ℕ). total t₀ (placed f z y i₀ j)) all
