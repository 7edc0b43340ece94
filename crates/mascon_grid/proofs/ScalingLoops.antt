-- Laws of the loop of scaling: one record more is scaled. Assumes nothing.
use Prim.Native.Nat.{ℕ, zero, suc, ◌+◌, ◌-◌, ◌*◌, ◌≤◌, ◌<◌}
use mathlib.Core.Path.{◌≡◌, refl, sym, ap, ◌∙◌}
use mathlib.Core.Bool.{true, false, ◌&&◌}
use mathlib.Core.List.{List, [], ◌∷◌}
use native.Mathlib.Omega.{arith}
use lib.ListN.{length}
use Rattle.rym1.specs.declared.Point.{Point}
use Rattle.rym1.specs.Bytes.{splice}
use Rattle.rym1.specs.File.{point_at, points_at, point_bytes, points_bytes}
use Rattle.rym1.proofs.Bytes.{word_splice_behind, splice_none, splice_splice}
use Rattle.rym1.proofs.Points.{same_point, length_point, length_points, length_points_at}
use Rattle.filling.specs.Fill.{fine, masses_finite}
use Rattle.mascon_grid.specs.Scaled.{scaled_point, scaled_points}

-- ---- records

pub length_scaled : (k l : ℕ) (ps : List Point) → length (scaled_points k l ps) ≡ length ps
unfolding scaled_points
length_scaled k l [] = refl
length_scaled k l (p ∷ ps) = ap suc (length_scaled k l ps)

-- those behind a splice stay
points_past : (s : List ℕ) (at : ℕ) (new : List ℕ) (from n : ℕ) → at + length new ≤ from → at ≤ length s
    → points_at (splice s at new) from n ≡ points_at s from n
unfolding points_at point_at
points_past s at new from zero h b = refl
points_past s at new from (suc n) h b =
    let head =
    same_point (point_at (splice s at new) from) (point_at s from)
    (word_splice_behind 2 s at new from h b)
    (word_splice_behind 2 s at new (from + 2) (omega arith) b)
    (word_splice_behind 2 s at new (from + 4) (omega arith) b)
    (word_splice_behind 2 s at new (from + 6) (omega arith) b)
    (word_splice_behind 4 s at new (from + 8) (omega arith) b)
    (word_splice_behind 4 s at new (from + 12) (omega arith) b) in
    let tail = points_past s at new (from + 16) n (omega arith) b in
    λ i. head i ∷ tail i

-- ---- the loop over records

-- i of n are scaled: the others decide as all do, and once scaled make the whole of it
pub record Scaling (out₀ out : List ℕ) (k l n i : ℕ) : Type 0 where
  pub answer : masses_finite (scaled_points k l (points_at out (64 + 16 * i) (n - i))) ≡ masses_finite (scaled_points k l (points_at out₀ 64 n))
  pub bytes : splice out (64 + 16 * i) (points_bytes (scaled_points k l (points_at out (64 + 16 * i) (n - i))))
      ≡ splice out₀ 64 (points_bytes (scaled_points k l (points_at out₀ 64 n)))

-- the next record, p once it is scaled
module _ (out₀ out : List ℕ) (k l n i : ℕ) (p : Point) (h : i < n) (ep : p ≡ scaled_point k l (point_at out (64 + 16 * i))) (d : Scaling out₀ out k l n i) where
  abbrev after : ℕ
  after = 64 + 16 * (i + 1)

  abbrev rest : List Point
  rest = scaled_points k l (points_at out after (n - (i + 1)))

  more : scaled_points k l (points_at out (64 + 16 * i) (n - i)) ≡ p ∷ rest
  unfolding scaled_points points_at
  more =
      let left : n - i ≡ suc (n - (i + 1)) = omega arith in
      let next : 64 + 16 * i + 16 ≡ after = omega arith in
      ap (λ (m : ℕ). scaled_points k l (points_at out (64 + 16 * i) m)) left
      ∙ (λ j. sym ep j ∷ scaled_points k l (points_at out (next j) (n - (i + 1))))

  decides : (fine p && masses_finite rest) ≡ masses_finite (scaled_points k l (points_at out₀ 64 n))
  unfolding masses_finite
  decides = rw more at d.answer

  pub scaling_stop : fine p ≡ false → false ≡ masses_finite (scaled_points k l (points_at out₀ 64 n))
  scaling_stop bad = rw bad at decides

  pub scaling_turn : 64 + 16 * n ≤ length out → fine p ≡ true → (out₁ : List ℕ) → out₁ ≡ splice out (64 + 16 * i) (point_bytes p) → Scaling out₀ out₁ k l n (i + 1)
  unfolding points_bytes
  scaling_turn room good out₁ eo =
      let at = 64 + 16 * i in
      let same : scaled_points k l (points_at out₁ after (n - (i + 1))) ≡ rest =
      rw eo (ap (scaled_points k l) (points_past out at (point_bytes p) after (n - (i + 1)) (omega (arith, length_point p)) (omega arith))) in
      let long : length rest ≡ n - (i + 1) = length_scaled k l (points_at out after (n - (i + 1))) ∙ length_points_at out after (n - (i + 1)) in
      record {
        answer = rw same (rw good at decides);
        bytes =
            rw (same, eo)
            (splice_splice out at (point_bytes p) (points_bytes rest) after
            (omega (arith, length_point p, length_points rest, long)) (omega (arith, length_point p))
            ∙ rw more at d.bytes);
      }

pub scaling_end : (out₀ out : List ℕ) (k l n i : ℕ) → n ≤ i → Scaling out₀ out k l n i
    → (true ≡ masses_finite (scaled_points k l (points_at out₀ 64 n))) × (out ≡ splice out₀ 64 (points_bytes (scaled_points k l (points_at out₀ 64 n))))
unfolding scaled_points points_at points_bytes masses_finite
scaling_end out₀ out k l n i h d =
    let none : n - i ≡ 0 = omega arith in
    (rw none at d.answer, sym (splice_none out (64 + 16 * i)) ∙ rw none at d.bytes)
