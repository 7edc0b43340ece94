-- What a reader has to believe of the original's walk, for every mesh whose coordinates are within 01's bounds: the bytes s, with `good_triangles (mesh s) ≡ true`.
-- To believe it, read the definitions (filling/specs: Inside, Rows; specs/Walk) and the signatures here. Assumes nothing.
use Prim.Native.Nat.{ℕ, ◌/◌, ◌%◌, ◌≤◌, ◌<◌}
use native.Mathlib.Omega.{arith}
use mathlib.Core.Path.{◌≡◌, refl, ap, ap₂}
use mathlib.Core.Bool.{Bool, true}
use mathlib.Core.List.{List, [], ◌∷◌, Permᴰ, map}
use lib.ListN.{length}
use lib.Dec.{eqb}
use lib.Ieee.{Float}
use Rattle.filling.specs.declared.Vec3.{Vec3}
use Rattle.filling.specs.Lists.{mesh, good_triangles}
use Rattle.filling.specs.Inside.{test_box, scaled, indices, low_of, high_of, crossings, sorted, retained, odd_rest, is_inside}
use Rattle.filling.specs.Rows.{triangle_of, scanned}
use Rattle.filling.proofs.Rows.{index_low}
use Rattle.inside_laws.specs.Walk.{Stamps, fresh, Fit, walk, walks, hits, answers, Permuted}
use Rattle.inside_laws.proofs.Ranges as ranges
use Rattle.inside_laws.proofs.Row as row
use Rattle.inside_laws.proofs.Answer.{hits_sorted}

-- the state before the first point fits
pub fresh_fit : (n : ℕ) → Fit n (fresh n)
fresh_fit = row.fresh_fit

module _ (s : List ℕ) (good : good_triangles (mesh s) ≡ true) where
  -- a triangle's range on x is not empty: rounding keeps the order of its least and its greatest coordinate
  pub range_x : (t : ℕ) → t < length s / 72 → (low_of (test_box (mesh s)) (triangle_of s t)).i ≤ (high_of (test_box (mesh s)) (triangle_of s t)).i
  range_x t l = ranges.range_x s t good l

  -- for every point, from every state that points leave behind: the walk finds the candidates of the scan, each once, and leaves such a state
  pub walk_candidates : (o : Vec3) (st : Stamps) → Fit (length s / 72) st → let b = test_box (mesh s) in let n = length s / 72 in let w = walk s b n (indices b o) st in
      Permᴰ w.found (scanned s b (indices b o) n) × Fit n w.state
  unfolding indices
  walk_candidates o st f =
      let b = test_box (mesh s) in
      let x = index_low (scaled b.min.x b.max.x o.x) in
      let y = index_low (scaled b.min.y b.max.y o.y) in
      let z = index_low (scaled b.min.z b.max.z o.z) in
      row.point_after s b (length s / 72) (indices b o) (omega arith) (omega arith) (omega arith) range_x st f

  -- so the crossings of what it finds, sorted, are the scan's
  pub walk_crossings : (o : Vec3) (st : Stamps) → Fit (length s / 72) st → let b = test_box (mesh s) in
      sorted (hits s o (walk s b (length s / 72) (indices b o) st).found) ≡ sorted (crossings b (indices b o) o (mesh s))
  unfolding indices
  walk_crossings o st f =
      let b = test_box (mesh s) in
      let y = index_low (scaled b.min.y b.max.y o.y) in
      hits_sorted s o b (indices b o) (walk s b (length s / 72) (indices b o) st).found (omega arith) (walk_candidates o st f).0

  -- and their parity is what `is_inside` says
  pub walk_answer : (o : Vec3) (st : Stamps) → Fit (length s / 72) st → let b = test_box (mesh s) in
      odd_rest (hits s o (walk s b (length s / 72) (indices b o) st).found) ≡ is_inside b (mesh s) o
  unfolding odd_rest is_inside
  walk_answer o st f = ap (λ (l : List Float). eqb (length (retained l) % 2) 1) (walk_crossings o st f)

  -- ---- a whole list of points, however long, from the first one on

  walks_from : (os : List Vec3) (st : Stamps) → Fit (length s / 72) st → let b = test_box (mesh s) in let n = length s / 72 in
      Permuted (walks s b n os st) (map (λ o. scanned s b (indices b o) n) os)
  unfolding walks Permuted
  walks_from [] st f = tt
  walks_from (o ∷ os) st f = let w = walk_candidates o st f in (w.0, walks_from os _ w.1)

  pub walks_candidates : (os : List Vec3) → let b = test_box (mesh s) in let n = length s / 72 in
      Permuted (walks s b n os (fresh n)) (map (λ o. scanned s b (indices b o) n) os)
  walks_candidates os = walks_from os (fresh (length s / 72)) (fresh_fit (length s / 72))

  answers_from : (os : List Vec3) (st : Stamps) → Fit (length s / 72) st → let b = test_box (mesh s) in answers s b (length s / 72) os st ≡ map (is_inside b (mesh s)) os
  unfolding answers
  answers_from [] st f = refl
  answers_from (o ∷ os) st f = ap₂ (λ (x : Bool) (l : List Bool). x ∷ l) (walk_answer o st f) (answers_from os _ (walk_candidates o st f).1)

  pub walks_answers : (os : List Vec3) → let b = test_box (mesh s) in let n = length s / 72 in answers s b n os (fresh n) ≡ map (is_inside b (mesh s)) os
  walks_answers os = answers_from os (fresh (length s / 72)) (fresh_fit (length s / 72))
