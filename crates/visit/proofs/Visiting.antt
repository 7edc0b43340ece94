-- Laws of the visit of the cells: what the cells passed leave, and what one more adds. Assumes nothing.
use Prim.Native.Nat.{ℕ, suc, ◌+◌, ◌-◌, ◌*◌, ◌≤◌, ◌<◌}
use mathlib.Core.Path.{◌≡◌, refl, sym, ap, ◌∙◌, subst}
use mathlib.Core.Bool.{Bool, true, false, not, cond, ◌&&◌, ◌||◌, and-true, and_assoc}
use mathlib.Core.List.{List, [], ◌∷◌, ◌++◌, append-nil, append_assoc}
use native.Mathlib.Nat.{sub-zero}
use native.Mathlib.Numerals.{add-one}
use native.Mathlib.Omega.{arith}
use lib.ListN.{length, length-append}
use lib.Ieee.{Float}
use Rattle.std.proofs.Common.{Some, None}
use borrow.Author.Tests.{lt-ltb, le-ltb}
use Rattle.float.specs.Number.{zero64}
use Rattle.rym1.specs.Bytes.{splice}
use Rattle.rym1.specs.declared.Point.{Point}
use Rattle.rym1.specs.File.{size, cube, point_bytes, points_bytes}
use Rattle.rym1.proofs.Causes.{and_true_l, and_true_r}
use Rattle.rym1.proofs.Bytes.{splice_none, behind}
use Rattle.rym1.proofs.Points.{length_point, length_points, points_append}
use Rattle.rym1.proofs.Cells.{cube_few}
use Rattle.filling.specs.declared.Kernel.{Kernel}
use Rattle.filling.specs.declared.Triangle.{Triangle}
use Rattle.filling.specs.declared.Frame.{Frame}
use Rattle.filling.specs.Vector.{plus}
use Rattle.filling.specs.Inside.{test_box, is_inside}
use Rattle.filling.specs.Frame.{middle}
use Rattle.filling.specs.Fill.{capacity, inner_from, inner, mass_of, raw_from, fine, masses_finite}
use Rattle.visit.specs.declared.Found.{Found}
use Rattle.visit.specs.Visited.{raw_point, raw_points, found, with_cell, visited, Visiting}

-- ---- one cell more, behind the others

raw_more : (f : Frame) (g : ℕ) (ks : List Kernel) (sum : Float) (cs : List ℕ) (c : ℕ) → raw_from f g ks sum (cs ++ (c ∷ [])) ≡ plus (raw_from f g ks sum cs) (mass_of f g ks c)
unfolding raw_from
raw_more f g ks sum [] c = refl
raw_more f g ks sum (d ∷ cs) c = raw_more f g ks (plus sum (mass_of f g ks d)) cs c

raw_points_more : (f : Frame) (g : ℕ) (ks es : List Kernel) (cs : List ℕ) (c : ℕ)
    → raw_points f g ks es (cs ++ (c ∷ [])) ≡ raw_points f g ks es cs ++ (raw_point f g ks es c ∷ [])
unfolding raw_points
raw_points_more f g ks es [] c = refl
raw_points_more f g ks es (d ∷ cs) c = rw (raw_points_more f g ks es cs c)

pub length_raw_points : (f : Frame) (g : ℕ) (ks es : List Kernel) (cs : List ℕ) → length (raw_points f g ks es cs) ≡ length cs
unfolding raw_points
length_raw_points f g ks es [] = refl
length_raw_points f g ks es (c ∷ cs) = ap suc (length_raw_points f g ks es cs)

-- masses are finite up to the last, and there
finite_more : (ps : List Point) (p : Point) → masses_finite (ps ++ (p ∷ [])) ≡ (masses_finite ps && fine p)
unfolding masses_finite
finite_more [] p = and-true (fine p)
finite_more (q ∷ ps) p = rw (finite_more ps p) (sym (and_assoc (fine q) (masses_finite ps) (fine p)))

not_and : (a b : Bool) → (not a || not b) ≡ not (a && b)
not_and true b = refl
not_and false b = refl

found_more : (f : Frame) (g : ℕ) (ks es : List Kernel) (cs : List ℕ) (c : ℕ) → with_cell f g ks es (found f g ks es cs) c ≡ found f g ks es (cs ++ (c ∷ []))
unfolding found with_cell
found_more f g ks es cs c =
    let large : (not (masses_finite (raw_points f g ks es cs)) || not (fine (raw_point f g ks es c))) ≡ not (masses_finite (raw_points f g ks es (cs ++ (c ∷ [])))) =
    not_and (masses_finite (raw_points f g ks es cs)) (fine (raw_point f g ks es c))
    ∙ ap not (sym (ap masses_finite (raw_points_more f g ks es cs c) ∙ finite_more (raw_points f g ks es cs) (raw_point f g ks es c))) in
    rw (raw_more f g ks zero64 cs c, raw_more f g es zero64 cs c, length-append cs (c ∷ []), large)

-- ---- the cells from c on

inner_past : (ts : List Triangle) (f : Frame) (g c : ℕ) → c < cube g → is_inside (test_box ts) ts (middle f g c) ≡ false
    → inner_from ts f g c (cube g - c) ≡ inner_from ts f g (c + 1) (cube g - (c + 1))
unfolding inner_from
inner_past ts f g c h e =
    let left : cube g - c ≡ suc (cube g - (c + 1)) = omega arith in
    rw (left, e, add-one c)

inner_more : (ts : List Triangle) (f : Frame) (g c : ℕ) → c < cube g → is_inside (test_box ts) ts (middle f g c) ≡ true
    → inner_from ts f g c (cube g - c) ≡ c ∷ inner_from ts f g (c + 1) (cube g - (c + 1))
unfolding inner_from
inner_more ts f g c h e =
    let left : cube g - c ≡ suc (cube g - (c + 1)) = omega arith in
    rw (left, e, add-one c)

-- ---- the visit up to cell c

-- the inside cells below c, their finds w, and the output with their records, if all masses are finite
pub record Visited-so-far (ts : List Triangle) (f : Frame) (g : ℕ) (ks es : List Kernel) (out₀ : List ℕ) (c : ℕ) (w : Found) (out : List ℕ) : Type 0 where
  pub below : List ℕ
  pub rest : below ++ inner_from ts f g c (cube g - c) ≡ inner ts f g
  pub finds : w ≡ found f g ks es below
  pub few : length below ≤ capacity g
  pub long : length out ≡ length out₀
  pub bytes : masses_finite (raw_points f g ks es below) ≡ true → out ≡ splice out₀ 64 (points_bytes (raw_points f g ks es below))

module _ (ts : List Triangle) (f : Frame) (g : ℕ) (ks es : List Kernel) (out₀ : List ℕ) where
  pub visit_start : (w : Found) → w ≡ record { count = 0; cauchy = zero64; elliptic = zero64; large = false } → Visited-so-far ts f g ks es out₀ 0 w out₀
  unfolding inner found raw_from raw_points points_bytes masses_finite
  visit_start w e =
      rw e (record {
        below = [];
        rest = ap (inner_from ts f g 0) (sub-zero (cube g));
        finds = refl;
        few = omega arith;
        long = refl;
        bytes = λ h. sym (splice_none out₀ 64);
      })

  -- a cell that is not inside
  pub visit_past : (c : ℕ) (w : Found) (out : List ℕ) → c < cube g → is_inside (test_box ts) ts (middle f g c) ≡ false
      → Visited-so-far ts f g ks es out₀ c w out → Visited-so-far ts f g ks es out₀ (c + 1) w out
  visit_past c w out h e v =
      record {
        below = v.below;
        rest = rw (inner_past ts f g c h e) at v.rest;
        finds = v.finds;
        few = v.few;
        long = v.long;
        bytes = v.bytes;
      }

  count_of : {c : ℕ} {w : Found} {out : List ℕ} (v : Visited-so-far ts f g ks es out₀ c w out) → w.count ≡ length v.below
  unfolding found
  count_of v = ap (λ (x : Found). x.count) v.finds

  -- room for one record more
  pub visit_room : (c : ℕ) (w : Found) (out : List ℕ) → size (capacity g) ≤ length out₀ → w.count < capacity g → Visited-so-far ts f g ks es out₀ c w out
      → 64 + 16 * w.count + 16 ≤ length out
  unfolding size
  visit_room c w out room h v = omega (arith, room, h, v.long)

  -- a cell that is inside, with room for its record
  pub visit_added : (c : ℕ) (w w₁ : Found) (out out₁ : List ℕ) → c < cube g → is_inside (test_box ts) ts (middle f g c) ≡ true
      → size (capacity g) ≤ length out₀ → w.count < capacity g
      → w₁ ≡ with_cell f g ks es w c
      → out₁ ≡ cond (fine (raw_point f g ks es c)) (splice out (64 + 16 * w.count) (point_bytes (raw_point f g ks es c))) out
      → length out₁ ≡ length out
      → Visited-so-far ts f g ks es out₀ c w out → Visited-so-far ts f g ks es out₀ (c + 1) w₁ out₁
  unfolding size points_bytes
  visit_added c w w₁ out out₁ h e room l e₁ e₂ same v =
      let ps = raw_points f g ks es v.below in
      let p = raw_point f g ks es c in
      let n = count_of v in
      let longer : length (v.below ++ (c ∷ [])) ≡ length v.below + 1 = length-append v.below (c ∷ []) in
      let wide = length_points ps ∙ ap (λ (k : ℕ). 16 * k) (length_raw_points f g ks es v.below) in
      let written : points_bytes (raw_points f g ks es (v.below ++ (c ∷ []))) ≡ points_bytes ps ++ point_bytes p =
      ap points_bytes (raw_points_more f g ks es v.below c) ∙ points_append ps (p ∷ []) ∙ ap (λ (s : List ℕ). points_bytes ps ++ s) (append-nil (point_bytes p)) in
      record {
        below = v.below ++ (c ∷ []);
        rest = append_assoc v.below (c ∷ []) _ ∙ (rw (inner_more ts f g c h e) at v.rest);
        finds = e₁ ∙ ap (λ (x : Found). with_cell f g ks es x c) v.finds ∙ found_more f g ks es v.below c;
        few = omega (arith, longer, n, l);
        long = same ∙ v.long;
        bytes = λ all.
            let both : (masses_finite ps && fine p) ≡ true = sym (ap masses_finite (raw_points_more f g ks es v.below c) ∙ finite_more ps p) ∙ all in
            let last : out₁ ≡ splice out (64 + 16 * w.count) (point_bytes p) =
            e₂ ∙ ap (λ (t : Bool). cond t (splice out (64 + 16 * w.count) (point_bytes p)) out) (and_true_r (masses_finite ps) (fine p) both) in
            behind out₀ 64 (points_bytes ps) (point_bytes p) (64 + 16 * w.count) (omega (arith, wide, n, l, room, length_point p)) (omega (arith, wide, n)) (v.bytes (and_true_l (masses_finite ps) (fine p) both)) last
            ∙ ap (splice out₀ 64) (sym written);
      }

  -- all cells are passed
  pub visit_end : (c : ℕ) (w : Found) (out : List ℕ) → c ≡ cube g → Visited-so-far ts f g ks es out₀ c w out
      → Visiting f g ks es (inner ts f g) out₀ (Some w) out
  unfolding inner_from visited
  visit_end c w out e v =
      let none : cube g - c ≡ 0 = omega arith in
      let all : v.below ≡ inner ts f g = sym (append-nil v.below) ∙ (rw none at v.rest) in
      record {
        answer = ap Some v.finds ∙ rw (← all, le-ltb (capacity g) (length v.below) v.few);
        points = λ h fin. subst (λ (cs : List ℕ). out ≡ splice out₀ 64 (points_bytes (raw_points f g ks es cs))) all (v.bytes (subst (λ (cs : List ℕ). masses_finite (raw_points f g ks es cs) ≡ true) (sym all) fin));
      }

  -- one cell more is inside than there is room for
  pub visit_full : (c : ℕ) (w : Found) (out out₁ : List ℕ) → c < cube g → is_inside (test_box ts) ts (middle f g c) ≡ true
      → capacity g ≤ w.count → Visited-so-far ts f g ks es out₀ c w out → Visiting f g ks es (inner ts f g) out₀ None out₁
  unfolding visited
  visit_full c w out out₁ h e l v =
      let after = inner_from ts f g (c + 1) (cube g - (c + 1)) in
      let all : v.below ++ (c ∷ after) ≡ inner ts f g = rw (inner_more ts f g c h e) at v.rest in
      let many : capacity g < length (inner ts f g) = omega (arith, l, count_of v, ap length all, length-append v.below (c ∷ after)) in
      record {
        answer = rw (lt-ltb (capacity g) (length (inner ts f g)) many);
        points = λ k fin. absurd (omega (arith, many, k));
      }

-- ---- half the cells are few

pub capacity_few : (g : ℕ) → g ≤ 256 → capacity g ≤ 8388608
unfolding capacity
capacity_few g h = omega (arith, cube_few g h)
