-- The lists by row yield what the scan does: the same candidates in the same order, each once, the same crossings, and so the same answers. Assumes nothing.
use Rattle.filling.specs.declared.Crossing.TheVariants.{At, Miss}
use Prim.Native.Nat.{ℕ, zero, suc, ◌+◌, ◌*◌, ◌/◌, ◌%◌, ◌≤◌, ◌<◌}
use native.Mathlib.Omega.{arith}
use mathlib.Core.Path.{◌≡◌, refl, sym, ◌∙◌, ap}
use mathlib.Core.List.{List, [], ◌∷◌, ◌++◌, append_assoc, append-nil}
use mathlib.Core.Bool.{Bool, true, false, cond, ◌&&◌, and_assoc}
use lib.ListN.{length, get_or}
use lib.IntN.{pos}
use lib.Ieee.{Float, binary64, le, of_int}
use Rattle.float.specs.Axis.{greatest, axis_index}
use Rattle.filling.specs.declared.Vec3.{Vec3}
use Rattle.filling.specs.declared.Triangle.{Triangle}
use Rattle.filling.specs.declared.Bounds.{Bounds}
use Rattle.filling.specs.declared.Indices.{Indices}
use Rattle.filling.specs.Lists.{triangle, triangles_at, mesh, good_triangle, good_triangles}
use Rattle.filling.specs.Ray.{ray}
use Rattle.filling.specs.Inside.{scaled, indices, reached, low_of, high_of, candidate, listed, crossing, crossings, odd_rest, is_inside}
use Rattle.filling.proofs.Lists.{good_more}
use Rattle.filling.proofs.Listed.{below}
use Rattle.filling.specs.Rows.{one, list_of, spans, pair_of, triangle_of, meets, row_list, ahead, kept, scanned, crossing_on, crossings_in, row_pair}

-- an index is at most 95
greatest_low : (n : ℕ) (v : Float) → greatest n v ≤ n
unfolding greatest
greatest_low zero v = omega arith
greatest_low (suc n) v = go (le (of_int binary64 (pos (suc n))) v) (greatest_low n v)
  where
    go : (t : Bool) → greatest n v ≤ n → cond t (suc n) (greatest n v) ≤ suc n
    go true l = omega arith
    go false l = omega arith

pub index_low : (v : Float) → axis_index v ≤ 95
index_low v = greatest_low 95 v

-- ---- the rule, taken apart: y and z by the list, x by the test
pub apart : (s : List ℕ) (b : Bounds) (at : Indices) (i : ℕ) → at.j < 96
    → candidate b at (triangle_of s i) ≡ (meets s b i (pair_of at.j at.k) && ahead s b at i)
unfolding candidate reached meets spans ahead low_of high_of pair_of
apart s b at i l =
    let e : (at.k * 96 + at.j) % 96 ≡ at.j = omega arith in
    let f : (at.k * 96 + at.j) / 96 ≡ at.k = omega arith in
    rw (e, f) (simp and_assoc)

-- ---- candidates
kept_append : (f : ℕ → Bool) (l m : List ℕ) → kept f (l ++ m) ≡ kept f l ++ kept f m
unfolding kept
kept_append f [] m = refl
kept_append f (i ∷ l) m = rw (kept_append f l m) (sym (append_assoc (one (f i) i) (kept f l) (kept f m)))

kept_one : (f : ℕ → Bool) (t : Bool) (i : ℕ) → kept f (one t i) ≡ one (t && f i) i
unfolding kept one
kept_one f true i = append-nil (one (f i) i)
kept_one f false i = refl

module _ (s : List ℕ) (b : Bounds) (at : Indices) (low : at.j < 96) where
  -- the list, still tested on x, yields the candidates of the scan, in their order
  pub same_candidates : (n : ℕ) → kept (ahead s b at) (row_list s b n (pair_of at.j at.k)) ≡ scanned s b at n
  unfolding row_list list_of scanned kept
  same_candidates zero = refl
  same_candidates (suc n) =
      kept_append (ahead s b at) (list_of (meets s b) (pair_of at.j at.k) n) (one (meets s b n (pair_of at.j at.k)) n)
      ∙ rw (kept_one (ahead s b at) (meets s b n (pair_of at.j at.k)) n, ← apart s b at n low, same_candidates n)

-- for every mesh, box and point: the list of the point's pair, tested on x, is the scan's candidates
pub row_candidates : (s : List ℕ) (b : Bounds) (o : Vec3) → let at = indices b o in let n = length s / 72 in
    kept (ahead s b at) (row_list s b n (row_pair b o.y o.z)) ≡ scanned s b at n
unfolding indices row_pair
row_candidates s b o =
    let low = index_low (scaled b.min.y b.max.y o.y) in
    same_candidates s b (indices b o) (omega arith) (length s / 72)

-- ---- crossings

-- the mesh's triangles, the last apart
triangles_last : (s : List ℕ) (at n : ℕ) → triangles_at s at (suc n) ≡ triangles_at s at n ++ triangle s (at + 72 * n) ∷ []
unfolding triangles_at
triangles_last s at zero = let e : at + 72 * 0 ≡ at = omega arith in ap (λ x. triangle s x ∷ []) (sym e)
triangles_last s at (suc n) =
    let e : at + 72 + 72 * n ≡ at + 72 * suc n = omega arith in
    ap (λ (l : List Triangle). triangle s at ∷ l) (triangles_last s (at + 72) n ∙ ap (λ x. triangles_at s (at + 72) n ++ triangle s x ∷ []) e)

first_last : (s : List ℕ) (n : ℕ) → triangles_at s 0 (suc n) ≡ triangles_at s 0 n ++ triangle_of s n ∷ []
unfolding triangle_of
first_last s n = let e : 0 + 72 * n ≡ 72 * n = omega arith in triangles_last s 0 n ∙ ap (λ x. triangles_at s 0 n ++ triangle s x ∷ []) e

crossings_append : (b : Bounds) (at : Indices) (o : Vec3) (l m : List Triangle) → crossings b at o (l ++ m) ≡ crossings b at o l ++ crossings b at o m
unfolding crossings
crossings_append b at o [] m = refl
crossings_append b at o (t ∷ l) m = rw (crossings_append b at o l m) (sym (append_assoc (listed (crossing b at o t)) (crossings b at o l) (crossings b at o m)))

module _ (s : List ℕ) (b : Bounds) (at : Indices) (o : Vec3) where
  in_append : (l m : List ℕ) → crossings_in s b at o (l ++ m) ≡ crossings_in s b at o l ++ crossings_in s b at o m
  unfolding crossings_in
  in_append [] m = refl
  in_append (i ∷ l) m = rw (in_append l m) (sym (append_assoc (listed (crossing_on s b at o i)) (crossings_in s b at o l) (crossings_in s b at o m)))

  in_one : (t : Bool) (i : ℕ) → crossings_in s b at o (one t i) ≡ listed (cond (t && ahead s b at i) (ray o (triangle_of s i)) Miss)
  unfolding crossings_in crossing_on one
  in_one true i = append-nil _
  in_one false i = refl

  last_crossing : (i : ℕ) → crossings b at o (triangle_of s i ∷ []) ≡ listed (cond (candidate b at (triangle_of s i)) (ray o (triangle_of s i)) Miss)
  unfolding crossings crossing
  last_crossing i = append-nil _

  none_crossed : [] ≡ crossings b at o (triangles_at s 0 0)
  unfolding crossings triangles_at
  none_crossed = refl

  pub same_first : at.j < 96 → (n : ℕ) → crossings_in s b at o (row_list s b n (pair_of at.j at.k)) ≡ crossings b at o (triangles_at s 0 n)
  unfolding row_list list_of crossings_in
  same_first low zero = none_crossed
  same_first low (suc n) =
      in_append (list_of (meets s b) (pair_of at.j at.k) n) (one (meets s b n (pair_of at.j at.k)) n)
      ∙ rw (in_one (meets s b n (pair_of at.j at.k)) n, ← apart s b at n low, ← last_crossing n, same_first low n)
      (sym (ap (crossings b at o) (first_last s n) ∙ crossings_append b at o (triangles_at s 0 n) (triangle_of s n ∷ [])))

  -- what is sorted is the same list, so nothing above it changes
  pub same_crossings : at.j < 96 → crossings_in s b at o (row_list s b (length s / 72) (pair_of at.j at.k)) ≡ crossings b at o (mesh s)
  unfolding mesh
  same_crossings low = same_first low (length s / 72)

-- ---- answers: each point of a row by the row's one list
pub same_answer : (s : List ℕ) (b : Bounds) (x y z : Float) → let o : Vec3 = record { x = x; y = y; z = z } in
    is_inside b (mesh s) o ≡ odd_rest (crossings_in s b (indices b o) o (row_list s b (length s / 72) (row_pair b y z)))
unfolding is_inside row_pair indices odd_rest
same_answer s b x y z =
    let o : Vec3 = record { x = x; y = y; z = z } in
    let l = index_low (scaled b.min.y b.max.y y) in
    ap odd_rest (sym (same_crossings s b (indices b o) o (omega arith)))

-- ---- the entries of a list are triangles of the mesh
good_from : (s : List ℕ) (at n i : ℕ) → good_triangles (triangles_at s at n) ≡ true → i < n → good_triangle (triangle s (at + 72 * i)) ≡ true
unfolding triangles_at
good_from s at zero i g l = absurd (omega arith)
good_from s at (suc n) zero g l =
    let e : at + 72 * 0 ≡ at = omega arith in rw e (good_more (triangle s at) (triangles_at s (at + 72) n) g).0
good_from s at (suc n) (suc i) g l =
    let e : at + 72 * suc i ≡ at + 72 + 72 * i = omega arith in
    rw e (good_from s (at + 72) n i (good_more (triangle s at) (triangles_at s (at + 72) n) g).1 (omega arith))

pub good_at : (s : List ℕ) (i : ℕ) → good_triangles (mesh s) ≡ true → i < length s / 72 → good_triangle (triangle_of s i) ≡ true
unfolding mesh triangle_of
good_at s i g l = let e : 0 + 72 * i ≡ 72 * i = omega arith in rw e at (good_from s 0 (length s / 72) i g l)

pub entry_good : (s : List ℕ) (b : Bounds) (p t : ℕ) → good_triangles (mesh s) ≡ true → t < length (row_list s b (length s / 72) p)
    → (72 * get_or (row_list s b (length s / 72) p) t 0 + 72 ≤ length s) × (good_triangle (triangle_of s (get_or (row_list s b (length s / 72) p) t 0)) ≡ true)
unfolding row_list
entry_good s b p t g l =
    let low = below (meets s b) p (length s / 72) t l in
    (omega arith, good_at s (get_or (list_of (meets s b) p (length s / 72)) t 0) g low)

pub pair_low : (b : Bounds) (y z : Float) → row_pair b y z < 9216
unfolding row_pair pair_of
pair_low b y z = omega (arith, index_low (scaled b.min.y b.max.y y), index_low (scaled b.min.z b.max.z z))
