-- What fill answers and leaves, way by way. Assumes nothing.
use Prim.Native.Nat.{ℕ, ◌+◌, ◌*◌, ◌/◌, ◌≤◌, ◌<◌}
use mathlib.Core.Path.{◌≡◌, refl, sym, ap, ◌∙◌, subst}
use mathlib.Core.Bool.{Bool, true, false, not, cond, ◌&&◌, true≢false}
use mathlib.Core.List.{List, [], ◌∷◌, ◌++◌}
use native.Mathlib.Omega.{arith}
use lib.ListN.{length, drop, replicate, length-append}
use lib.Dec.{ltb}
use lib.Ieee.{Float}
use Rattle.std.proofs.Common.{Option, Some, None, Result, Err}
use borrow.Author.Tests.{le-ltb, ne_eqb, ltb-false, not-true, not-false}
use Rattle.float.specs.Narrow.{float_word, float_words}
use Rattle.float.specs.Number.{zero64, one64}
use Rattle.rym1.specs.declared.Cause.{Cause}
use Rattle.rym1.specs.declared.Cause.TheVariants.{CapacityExceeded, FloatNotFinite}
use Rattle.rym1.specs.declared.Point.{Point}
use Rattle.rym1.specs.Bytes.{splice, words_bytes}
use Rattle.rym1.specs.Causes.{number, told, when, first, Outcome, outcome, refuse}
use Rattle.rym1.specs.File.{size, grid_cause, finite, all_finite, points_bytes}
use Rattle.rym1.proofs.Bytes.{drop_splice}
use Rattle.rym1.proofs.Points.{AllFit}
use Rattle.filling.specs.declared.Frame.{Frame}
use Rattle.filling.specs.Lists.{mesh, kernels}
use Rattle.filling.specs.Inside.{bounds}
use Rattle.filling.specs.Frame.{frame}
use Rattle.filling.specs.Fill.{Task, task, capacity, inner, frame_of, cells_of, raw_from, raw_of, scale_of, scale_by, records_of, measures, corners, raw_sums, header_words, file_bytes}
use Rattle.filling.specs.Fill.{masses_finite, floats_finite, box_flat, lists_wrong, fill_cause, cleared, filled, fill, early}
use Rattle.visit.specs.declared.Found.{Found}
use Rattle.visit.specs.Visited.{raw_point, raw_points, found, visited, Visiting}
use Rattle.mascon_grid.specs.Scaled.{scaled_points, header_floats, header_around, header_of, written_points, all_fine, finished}
use Rattle.mascon_grid.proofs.Finished.{header_long, length_written}
use Rattle.mascon_grid.proofs.Raw.{inner_fit, raw_long, raw_at, scaled_are, scaled_back, scale_back, scale_small, scale_none, one_finite}

-- ---- what a visit's answer tells

full_tells : (b : Bool) (w : Found) → None ≡ cond b None (Some w) → b ≡ true
full_tells true w e = refl
full_tells false w e = cc

done_tells : (b : Bool) (w v : Found) → Some w ≡ cond b None (Some v) → (b ≡ false) × (w ≡ v)
done_tells true w v e = (cc, cc)
done_tells false w v e = (refl, cc)

-- ---- fill_grid: the visit's answer is none, or its finds w; f is the task's frame

-- a write over all of an earlier one
over : (s : List ℕ) (at : ℕ) (u v : List ℕ) → at + length u ≤ length v → at ≤ length s → splice (splice s at u) 0 v ≡ splice s 0 v
over s at u v e b =
    let back : drop (0 + length v) (splice s at u) ≡ drop (0 + length v) s = drop_splice (0 + length v) s at u (omega arith) b in
    let split : (l : List ℕ) → splice l 0 v ≡ v ++ drop (0 + length v) l = λ l. unfold splice in refl in
    rw (split (splice s at u), back, split s)

abbrev Visits : Task → List ℕ → Option Found → List ℕ → Type 0
Visits t out r out' = Visiting (frame_of t) t.grid (kernels t.cauchy) (kernels t.elliptic) (cells_of t) out r out'

abbrev raws : Task → List Point
raws t = raw_points (frame_of t) t.grid (kernels t.cauchy) (kernels t.elliptic) (cells_of t)

visit_full : (t : Task) (out out' : List ℕ) → Visits t out None out' → length out' ≡ length out → outcome 18 (replicate (length out') 0) ≡ filled t out
unfolding filled cleared visited
visit_full t out out' v same =
    let many : ltb (capacity t.grid) (length (cells_of t)) ≡ true = full_tells _ _ v.answer in
    rw (many, same)

-- ---- the elliptic scale: where every mass is finite it is too, and without a point it is 1

implied : (s a b : Bool) → (b ≡ true → s ≡ true) → (s && (a && b)) ≡ (a && b)
implied s true true h = rw (h refl)
implied true true false h = refl
implied false true false h = refl
implied true false b h = refl
implied false false b h = refl

none_raw : (t : Task) → cells_of t ≡ [] → raw_of t t.elliptic ≡ zero64
unfolding raw_of raw_from
none_raw t e = ap (raw_from (frame_of t) t.grid (kernels t.elliptic) zero64) e

one_scale : (t : Task) → cells_of t ≡ [] → scale_by t t.elliptic ≡ one64
unfolding scale_by
one_scale t e = ap (scale_of t.target) (none_raw t e) ∙ scale_none t.target

elliptic_fine : (t : Task) → masses_finite (records_of t (cells_of t)) ≡ true → finite (float_word (scale_by t t.elliptic)) ≡ true
elliptic_fine t = go (cells_of t) refl
  where
    k : ℕ
    k = float_word (scale_by t t.cauchy)

    l : ℕ
    l = float_word (scale_by t t.elliptic)

    go : (cs : List ℕ) → cells_of t ≡ cs → masses_finite (records_of t cs) ≡ true → finite l ≡ true
    go [] e h = ap (λ (x : Float). finite (float_word x)) (one_scale t e) ∙ one_finite
    go (c ∷ cs) e h =
        scale_back k l (raw_point (frame_of t) t.grid (kernels t.cauchy) (kernels t.elliptic) c) (raw_points (frame_of t) t.grid (kernels t.cauchy) (kernels t.elliptic) cs)
        (unfold scale_by in scale_small t.target (raw_of t t.elliptic))
        (unfold raw_points in ap masses_finite (scaled_are t (c ∷ cs)) ∙ h)

module _ (t : Task) (out out' : List ℕ) (pos : 0 < t.grid) (few : t.grid ≤ 256) (room : size (capacity t.grid) ≤ length out) (w : Found)
    (v : Visits t out (Some w) out') where
  cells_few : ltb (capacity t.grid) (length (cells_of t)) ≡ false
  unfolding visited
  cells_few = (done_tells _ _ _ v.answer).0

  finds_are : w ≡ found (frame_of t) t.grid (kernels t.cauchy) (kernels t.elliptic) (cells_of t)
  unfolding visited
  finds_are = (done_tells (ltb (capacity t.grid) (length (cells_of t))) _ _ v.answer).1

  count_is : w.count ≡ length (cells_of t)
  unfolding found
  count_is = ap (λ (d : Found). d.count) finds_are

  enough : 64 + 16 * length (cells_of t) ≤ length out
  unfolding size
  enough = omega (arith, ltb-false (capacity t.grid) (length (cells_of t)) cells_few, room)

  large_is : w.large ≡ not (masses_finite (raws t))
  unfolding found
  large_is = ap (λ (d : Found). d.large) finds_are

  fit : AllFit (raws t)
  unfolding cells_of
  fit = inner_fit (frame_of t) t.grid (kernels t.cauchy) (kernels t.elliptic) pos few (mesh t.mesh)

  -- a mass that is too large is one that is not finite once scaled
  visit_large : w.large ≡ true → length out' ≡ length out → outcome 20 (replicate (length out') 0) ≡ filled t out
  unfolding filled floats_finite cleared
  visit_large e same =
      let some : masses_finite (raws t) ≡ false = not-true (masses_finite (raws t)) (sym large_is ∙ e) in
      rw (cells_few, none_finite (masses_finite (records_of t (cells_of t))) refl some, and_false (all_finite (measures t ++ (corners (frame_of t) ++ raw_sums t))), same)
    where
      none_finite : (b : Bool) → masses_finite (records_of t (cells_of t)) ≡ b → masses_finite (raws t) ≡ false → masses_finite (records_of t (cells_of t)) ≡ false
      none_finite false e some = e
      none_finite true e some =
          absurd (true≢false (sym (scaled_back (float_word (scale_by t t.cauchy)) (float_word (scale_by t t.elliptic)) (raws t) fit (ap masses_finite (scaled_are t (cells_of t)) ∙ e)) ∙ some))

      and_false : (a : Bool) → (a && false) ≡ false
      and_false true = refl
      and_false false = refl

  bytes_long : length (points_bytes (raws t)) ≡ 16 * length (cells_of t)
  bytes_long = raw_long (frame_of t) t.grid (kernels t.cauchy) (kernels t.elliptic) (cells_of t)

  -- every mass is finite
  module _ (same : length out' ≡ length out) (ok : w.large ≡ false) where
    visit_room : 64 + 16 * w.count ≤ length out'
    visit_room = omega (arith, count_is, same, enough)

    left : out' ≡ splice out 64 (points_bytes (raws t))
    left = v.points (ltb-false (capacity t.grid) (length (cells_of t)) cells_few) (not-false (masses_finite (raws t)) (sym large_is ∙ ok))

    records_are : written_points w t.target out' ≡ records_of t (cells_of t)
    unfolding written_points found scale_by raw_of cells_of
    records_are =
        let ks = kernels t.cauchy in
        let es = kernels t.elliptic in
        let f = frame_of t in
        ap (λ (d : Found). written_points d t.target out') finds_are
        ∙ ap (scaled_points (float_word (scale_by t t.cauchy)) (float_word (scale_by t t.elliptic))) (raw_at f t.grid ks es (cells_of t) out out' fit (omega (arith, enough)) left)
        ∙ scaled_are t (cells_of t)

    header_is : header_of t.grid (frame_of t) w t.target t.density ≡ header_words t
    unfolding header_of header_around header_floats float_words header_words measures corners raw_sums found scale_by raw_of
    header_is = ap (λ (d : Found). header_of t.grid (frame_of t) d t.target t.density) finds_are

    floats_are : all_finite (float_words (header_floats (frame_of t) w t.target t.density)) ≡ all_finite (measures t ++ (corners (frame_of t) ++ raw_sums t))
    unfolding header_floats float_words measures corners raw_sums found scale_by raw_of
    floats_are = ap (λ (d : Found). all_finite (float_words (header_floats (frame_of t) d t.target t.density))) finds_are

    -- the elliptic scale stands in no header: where every mass is finite it is too
    fine_is : all_fine (frame_of t) w t.target t.density out' ≡ floats_finite t
    unfolding all_fine floats_finite
    fine_is =
        let scale : finite (float_word (scale_of t.target w.elliptic)) ≡ finite (float_word (scale_by t t.elliptic)) =
        (unfold found scale_by raw_of in ap (λ (d : Found). finite (float_word (scale_of t.target d.elliptic))) finds_are) in
        rw (records_are, floats_are, scale) (implied (finite (float_word (scale_by t t.elliptic))) (all_finite (measures t ++ (corners (frame_of t) ++ raw_sums t))) (masses_finite (records_of t (cells_of t))) (elliptic_fine t))

    file_left : splice out' 0 (words_bytes (header_of t.grid (frame_of t) w t.target t.density) ++ points_bytes (written_points w t.target out')) ≡ splice out 0 (file_bytes t)
    unfolding file_bytes
    file_left =
        let words = words_bytes (header_of t.grid (frame_of t) w t.target t.density) in
        let records = points_bytes (written_points w t.target out') in
        let raw = points_bytes (raws t) in
        let long : length (words ++ records) ≡ 64 + 16 * length (cells_of t) =
        length-append words records
        ∙ omega (arith, header_long t.grid (frame_of t) w t.target t.density, length_written w t.target out', count_is) in
        ap (λ (l : List ℕ). splice l 0 (words ++ records)) left
        ∙ over out 64 raw (words ++ records) (omega (arith, bytes_long, long)) (omega (arith, enough))
        ∙ (λ i. splice out 0 (words_bytes (header_is i) ++ points_bytes (records_are i)))

    visit_done : finished t.grid (frame_of t) w t.target t.density out' ≡ filled t out
    unfolding finished filled cleared
    visit_done = rw (cells_few, file_left, fine_is, count_is, same)

-- the same, as the code has them: m, c and e are the lists' bytes, r what the visit answered
module _ (g : ℕ) (m c e : List ℕ) (target density : Float) (f : Frame) (ef : f ≡ frame (bounds (mesh m)) g) (out out' : List ℕ) {r : Option Found}
    (v : Visiting f g (kernels c) (kernels e) (inner (mesh m) f g) out r out') where
  of_task : (r' : Option Found) → r ≡ r' → Visits (task g m c e target density) out r' out'
  unfolding frame_of cells_of
  of_task r' er =
      subst (λ (a : Option Found). Visits (task g m c e target density) out a out') er (subst (λ (h : Frame). Visiting h g (kernels c) (kernels e) (inner (mesh m) h g) out r out') ef v)

  pub way_18 : r ≡ None → length out' ≡ length out → (a : Result ℕ Cause) (out₁ : List ℕ) → a ≡ Err CapacityExceeded → out₁ ≡ replicate (length out') 0
      → outcome (told a) out₁ ≡ filled (task g m c e target density) out
  unfolding told number
  way_18 er same a out₁ ea e₁ = (λ i. outcome (told (ea i)) (e₁ i)) ∙ visit_full (task g m c e target density) out out' (of_task None er) same

  module _ (pos : 0 < g) (few : g ≤ 256) (room : size (capacity g) ≤ length out) (w : Found) (er : r ≡ Some w) (same : length out' ≡ length out) where
    pub way_large : w.large ≡ true → (a : Result ℕ Cause) (out₁ : List ℕ) → a ≡ Err FloatNotFinite → out₁ ≡ replicate (length out') 0
        → outcome (told a) out₁ ≡ filled (task g m c e target density) out
    unfolding told number
    way_large h a out₁ ea e₁ =
        (λ i. outcome (told (ea i)) (e₁ i)) ∙ visit_large (task g m c e target density) out out' pos few room w (of_task (Some w) er) h same

    module _ (fine : w.large ≡ false) where
      pub finds_room : 64 + 16 * w.count ≤ length out'
      finds_room = visit_room (task g m c e target density) out out' pos few room w (of_task (Some w) er) same fine

      pub way_finished : {done : Outcome (List ℕ)} → done ≡ finished g f w target density out' → done ≡ filled (task g m c e target density) out
      unfolding frame_of
      way_finished is =
          is
          ∙ ap (λ (h : Frame). finished g h w target density out') ef
          ∙ visit_done (task g m c e target density) out out' pos few room w (of_task (Some w) er) same fine

-- ---- build_mascon

late : (n : ℕ) → early (size n) ≡ false
unfolding early size
late n = rw (ne_eqb (64 + 16 * n) 3 (λ e. omega arith), ne_eqb (64 + 16 * n) 17 (λ e. omega arith), ne_eqb (64 + 16 * n) 8 (λ e. omega arith))

-- none of 3, 17 and 8 is answered once they are passed
filled_late : (t : Task) (out : List ℕ) → early (filled t out).answer ≡ false
unfolding filled cleared outcome
filled_late t out = go (ltb (capacity t.grid) (length (cells_of t))) (floats_finite t)
  where
    go : (full good : Bool)
        → early (cond full (outcome 18 (replicate (length out) 0)) (cond good (outcome (size (length (cells_of t))) (splice out 0 (file_bytes t))) (outcome 20 (replicate (length out) 0)))).answer ≡ false
    go true good = unfold early in refl
    go false true = late (length (cells_of t))
    go false false = unfold early in refl

-- s: the floats of scratch, s' what is left in them
abbrev Filling : Task → List Float → List ℕ → Result ℕ Cause → List Float → List ℕ → Type 0
Filling t s out r s' out' = (outcome (told r) out' ≡ fill t (length s) out) × (early (told r) ≡ true → s' ≡ s)

module _ (g : ℕ) (m c e : List ℕ) (target density : Float) (s : List Float) (out : List ℕ) where
  module _ (ok : grid_cause g ≡ 0) {b : Bool} (eb : b ≡ lists_wrong m c e target density) (right : b ≡ false) (scratch : length m / 72 ≤ length s)
      (k : ℕ) (ek : k ≡ capacity g) (room : 64 + 16 * k ≤ length out) (f : Frame) (ef : f ≡ frame (bounds (mesh m)) g) {q : Bool} (eq : q ≡ box_flat f) where
    pub way_filled : q ≡ false → (r : Result ℕ Cause) (s' : List Float) (out' : List ℕ) → outcome (told r) out' ≡ filled (task g m c e target density) out
        → Filling (task g m c e target density) s out r s' out'
    unfolding fill fill_cause first when refuse size frame_of outcome
    way_filled h r s' out' done =
        let t = task g m c e target density in
        let answer : told r ≡ (filled t out).answer = ap (λ (o : Outcome (List ℕ)). o.answer) done in (
          done
              ∙ rw (
                ok,
                ← eb,
                right,
                le-ltb (length s) (length m / 72) scratch,
                ← ek,
                le-ltb (length out) (64 + 16 * k) room,
                ← ef,
                ← eq,
                h,
              ),
          λ soon. absurd (true≢false (sym soon ∙ ap early answer ∙ filled_late t out)),
        )
