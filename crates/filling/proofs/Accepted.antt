-- A filled file. Where fill answers a length, what it leaves is accepted by a reader and is in working form; its grid, count and records are the task's. Assumes nothing.
use Prim.Native.Nat.{ℕ, zero, suc, ◌+◌, ◌*◌, ◌≤◌, ◌<◌}
use mathlib.Core.Path.{◌≡◌, refl, sym, ap, ◌∙◌}
use mathlib.Core.Bool.{Bool, true, false, cond, ◌&&◌, ◌||◌}
use mathlib.Core.List.{List, [], ◌∷◌, ◌++◌, append_assoc}
use native.Mathlib.Omega.{arith}
use lib.ListN.{length, get_or, drop, replicate, length-append}
use lib.Dec.{ltb}
use lib.Ieee.{Float, binary32, of_bits, lt}
use borrow.Author.Tests.{ltb-false, not-false, le-leb}
use Rattle.float.specs.Narrow.{float_word}
use Rattle.rym1.specs.Bytes.{word, words_bytes, splice}
use Rattle.rym1.specs.Causes.{when, Outcome, outcome, refuse}
use Rattle.rym1.specs.File.{grid, count, density, volume, scale, box_min, box_max, points_at, points, points_bytes, size, cube, finite, all_finite, header_floats, below, grid_cause, points_cause, file_cause, working, work_cause}
use Rattle.rym1.specs.Cells.{cell_point}
use Rattle.rym1.proofs.Bytes.{length_splice, length_words, word_at}
use Rattle.rym1.proofs.Causes.{or_false_l, or_false_r, and_true_l, and_true_r, when_zero, first_zero_l, first_zero_r, first_none, first_small, when_small}
use Rattle.rym1.proofs.Accepted.{Finite, Accepted, grid_right, by_none, finite_fits}
use Rattle.rym1.proofs.Points.{AllFit, length_points, points_at_law}
use Rattle.rym1.proofs.Cells.{cube_few, cell_of_point, point_cause_law, point_fits}
use Rattle.filling.specs.declared.Triangle.{Triangle}
use Rattle.filling.specs.declared.Frame.{Frame}
use Rattle.filling.specs.Inside.{is_inside, test_box}
use Rattle.filling.specs.Frame.{middle}
use Rattle.filling.specs.Fill.{Task, capacity, inner_from, inner, frame_of, cells_of, record_of, records_of, measures, corners, raw_sums, header_words, file_bytes}
use Rattle.filling.specs.Fill.{below_narrowed, flat, box_flat, masses_finite, floats_finite, lists_wrong, fill_cause, cleared, filled, fill}

-- ---- floats on end

finite_left : (a b : List ℕ) → all_finite (a ++ b) ≡ true → all_finite a ≡ true
unfolding all_finite
finite_left [] b e = refl
finite_left (p ∷ a) b e = rw (and_true_l (finite p) _ e) (finite_left a b (and_true_r (finite p) _ e))

finite_at : (ws : List ℕ) (i : ℕ) → i < length ws → all_finite ws ≡ true → finite (get_or ws i 0) ≡ true
unfolding all_finite
finite_at [] i h e = absurd (omega arith)
finite_at (w ∷ ws) zero h e = and_true_l (finite w) _ e
finite_at (w ∷ ws) (suc i) h e = finite_at ws i (omega arith) (and_true_r (finite w) _ e)

-- ---- the cells: strictly ascending, from lo up and below n

abbrev pub Ascend : ℕ → ℕ → List ℕ → Type 0
Ascend lo n [] = Unit {0}
Ascend lo n (c ∷ cs) = (lo ≤ c) × (c < n) × Ascend (suc c) n cs

ascend_from : (ts : List Triangle) (f : Frame) (g n lo c k : ℕ) → lo ≤ c → c + k ≤ n → Ascend lo n (inner_from ts f g c k)
unfolding inner_from
ascend_from ts f g n lo c zero l h = tt
ascend_from ts f g n lo c (suc k) l h =
    go (is_inside (test_box ts) ts (middle f g c)) (ascend_from ts f g n lo (suc c) k (omega arith) (omega arith)) (ascend_from ts f g n (suc c) (suc c) k (omega arith) (omega arith))
  where
    go : (b : Bool) → Ascend lo n (inner_from ts f g (suc c) k) → Ascend (suc c) n (inner_from ts f g (suc c) k)
        → Ascend lo n (cond b (c ∷ inner_from ts f g (suc c) k) (inner_from ts f g (suc c) k))
    go true past next = (l, omega arith, next)
    go false past next = past

pub cells_ascend : (t : Task) → Ascend 0 (cube t.grid) (cells_of t)
unfolding cells_of inner
cells_ascend t = ascend_from _ (frame_of t) t.grid (cube t.grid) 0 0 (cube t.grid) (omega arith) (omega arith)

-- ---- their records

length_records : (t : Task) (cs : List ℕ) → length (records_of t cs) ≡ length cs
unfolding records_of
length_records t [] = refl
length_records t (c ∷ cs) = ap suc (length_records t cs)

records_work : (t : Task) (lo n : ℕ) (cs : List ℕ) → Ascend lo n cs → working t.grid lo (records_of t cs) ≡ true
unfolding working records_of record_of
records_work t lo n [] a = refl
records_work t lo n (c ∷ cs) a =
    rw (cell_of_point t.grid c _, le-leb lo c a.0, records_work t (suc c) n cs a.2)
    (unfold cell_point in refl)

-- the masses of the first, and the records behind it
first_finite : (t : Task) (c : ℕ) (cs : List ℕ) → masses_finite (records_of t (c ∷ cs)) ≡ true → Finite (record_of t c).cauchy (record_of t c).elliptic
unfolding records_of masses_finite
first_finite t c cs e =
    let a = finite (record_of t c).cauchy in
    let b = finite (record_of t c).elliptic in
    let here = and_true_l (a && b) _ e in
    record { cauchy_finite = and_true_l a b here; elliptic_finite = and_true_r a b here }

rest_finite : (t : Task) (c : ℕ) (cs : List ℕ) → masses_finite (records_of t (c ∷ cs)) ≡ true → masses_finite (records_of t cs) ≡ true
unfolding records_of masses_finite
rest_finite t c cs e = and_true_r (finite (record_of t c).cauchy && finite (record_of t c).elliptic) _ e

module _ (t : Task) (pos : 0 < t.grid) where
  -- none of 6 and 7 is against them, and they fit
  records_sound : (lo : ℕ) (cs : List ℕ) → Ascend lo (cube t.grid) cs → masses_finite (records_of t cs) ≡ true → points_cause t.grid (records_of t cs) ≡ 0
  unfolding points_cause records_of record_of cell_point
  records_sound lo [] a e = refl
  records_sound lo (c ∷ cs) a e =
      first_none _ _ (point_cause_law t.grid pos c _ a.1 (first_finite t c cs e))
      ∙ records_sound (suc c) cs a.2 (rest_finite t c cs e)

  records_fit : t.grid ≤ 256 → (lo : ℕ) (cs : List ℕ) → Ascend lo (cube t.grid) cs → masses_finite (records_of t cs) ≡ true → AllFit (records_of t cs)
  unfolding records_of record_of cell_point
  records_fit few lo [] a e = tt
  records_fit few lo (c ∷ cs) a e =
      (point_fits t.grid pos c _ few a.1 (first_finite t c cs e), records_fit few (suc c) cs a.2 (rest_finite t c cs e))

-- ---- where a length is answered

-- what is known then: none of 3, 9, 18, 19 and 20, and the file stands at the start of the output
record Written (t : Task) (out : List ℕ) (done : Outcome (List ℕ)) : Type 0 where
  pos : 0 < t.grid
  few : t.grid ≤ 256
  room : size (length (cells_of t)) ≤ length out
  half : length (cells_of t) ≤ capacity t.grid
  box : box_flat (frame_of t) ≡ false
  floats : all_finite (measures t ++ (corners (frame_of t) ++ raw_sums t)) ≡ true
  masses : masses_finite (records_of t (cells_of t)) ≡ true
  is : done ≡ outcome (size (length (cells_of t))) (splice out 0 (file_bytes t))

-- a cause's number is below 64
cause_small : (t : Task) (floats : ℕ) (out : List ℕ) → fill_cause t floats out < 64
unfolding fill_cause
cause_small t floats out =
    first_small _ _ (unfold grid_cause in when_small _ 3 (omega arith))
    (first_small _ _ (when_small _ 17 (omega arith))
    (first_small _ _ (when_small _ 8 (omega arith))
    (first_small _ _ (when_small _ 9 (omega arith))
    (when_small _ 19 (omega arith)))))

module _ (t : Task) (floats : ℕ) (out : List ℕ) where
  not_refused : (k : ℕ) → k < 64 → (done : Outcome (List ℕ)) → 64 ≤ (refuse k out done).answer → (k ≡ 0) × (refuse k out done ≡ done)
  unfolding refuse
  not_refused zero low done h = (refl, refl)
  not_refused (suc k) low done h = absurd (omega arith)

  by_length : 64 ≤ (filled t out).answer → (ltb (capacity t.grid) (length (cells_of t)) ≡ false) × (floats_finite t ≡ true)
  unfolding filled cleared outcome
  by_length h = go (ltb (capacity t.grid) (length (cells_of t))) (floats_finite t) h
    where
      go : (full good : Bool) → 64 ≤ (cond full (outcome 18 (replicate (length out) 0)) (cond good (outcome (size (length (cells_of t))) (splice out 0 (file_bytes t))) (outcome 20 (replicate (length out) 0)))).answer
          → (full ≡ false) × (good ≡ true)
      go true good h = absurd (unfold outcome in omega arith)
      go false true h = (refl, refl)
      go false false h = absurd (unfold outcome in omega arith)

  is_file : ltb (capacity t.grid) (length (cells_of t)) ≡ false → floats_finite t ≡ true → filled t out ≡ outcome (size (length (cells_of t))) (splice out 0 (file_bytes t))
  unfolding filled
  is_file half good = rw (half, good)

  roomy : length (cells_of t) ≤ capacity t.grid → size (capacity t.grid) ≤ length out → size (length (cells_of t)) ≤ length out
  unfolding size
  roomy half room = omega arith

  written : 64 ≤ (fill t floats out).answer → Written t out (fill t floats out)
  unfolding fill fill_cause floats_finite
  written h =
      let passed = not_refused (fill_cause t floats out) (cause_small t floats out) (filled t out) h in
      let wrong = lists_wrong t.mesh t.cauchy t.elliptic t.target t.density in
      let short = ltb (length out) (size (capacity t.grid)) in
      let k17 = first_zero_r (grid_cause t.grid) _ passed.0 in
      let k8 = first_zero_r (when wrong 17) _ k17 in
      let k9 = first_zero_r (when _ 8) _ k8 in
      let k19 = first_zero_r (when short 9) _ k9 in
      let on = grid_right t.grid (first_zero_l (grid_cause t.grid) _ passed.0) in
      let left = by_length (rw passed.1 at h) in
      let half = ltb-false (capacity t.grid) (length (cells_of t)) left.0 in
      record {
        pos = on.0;
        few = on.1;
        room = roomy half (ltb-false (length out) (size (capacity t.grid)) (when_zero short 8 (first_zero_l (when short 9) _ k9)));
        half = half;
        box = when_zero (box_flat (frame_of t)) 18 k19;
        floats = and_true_l (all_finite (measures t ++ (corners (frame_of t) ++ raw_sums t))) _ left.1;
        masses = and_true_r (all_finite (measures t ++ (corners (frame_of t) ++ raw_sums t))) _ left.1;
        is = passed.1 ∙ is_file left.0 left.1;
      }

-- ---- the file

wide : (min max : Float) → flat min max ≡ false → lt (of_bits binary32 (float_word min)) (of_bits binary32 (float_word max)) ≡ true
unfolding flat below_narrowed
wide min max e = and_true_r (finite (float_word max)) _ (and_true_r (finite (float_word min)) _ (not-false _ e))

module _ (t : Task) (out : List ℕ) (done : Outcome (List ℕ)) (w : Written t out done) where
  header_long : length (words_bytes (header_words t)) ≡ 64
  unfolding header_words measures corners raw_sums
  header_long = length_words (header_words t)

  file_long : length (file_bytes t) ≡ size (length (cells_of t))
  unfolding file_bytes size
  file_long =
      let ps = records_of t (cells_of t) in
      length-append (words_bytes (header_words t)) (points_bytes ps)
      ∙ omega (arith, header_long, length_points ps, length_records t (cells_of t))

  left_is : done.left ≡ words_bytes (header_words t) ++ (points_bytes (records_of t (cells_of t)) ++ drop (0 + length (file_bytes t)) out)
  unfolding splice outcome file_bytes
  left_is = ap (λ (o : Outcome (List ℕ)). o.left) w.is ∙ append_assoc (words_bytes (header_words t)) (points_bytes (records_of t (cells_of t))) _

  left_long : length done.left ≡ length out
  unfolding outcome
  left_long = ap (λ (o : Outcome (List ℕ)). length o.left) w.is ∙ length_splice out 0 (file_bytes t) (omega (arith, file_long, w.room))

  cells_few : length (cells_of t) ≤ 8388608
  unfolding capacity
  cells_few = omega (arith, w.half, cube_few t.grid w.few)

  -- the word i of the header
  header_word : (i : ℕ) → i < 16 → get_or (header_words t) i 0 < 4294967296 → word 4 done.left (4 * i) ≡ get_or (header_words t) i 0
  unfolding header_words measures corners raw_sums
  header_word i h low = ap (λ (l : List ℕ). word 4 l (4 * i)) left_is ∙ word_at (header_words t) _ i h low

  grid_is : grid done.left ≡ t.grid
  unfolding grid header_words
  grid_is = header_word 2 (omega arith) (omega (arith, w.few))

  count_is : count done.left ≡ length (cells_of t)
  unfolding count header_words
  count_is = header_word 3 (omega arith) (omega (arith, cells_few))

  points_are : points done.left ≡ records_of t (cells_of t)
  unfolding points
  points_are =
      let ps = records_of t (cells_of t) in
      let fit = records_fit t w.pos w.few 0 (cells_of t) (cells_ascend t) w.masses in
      (λ i. points_at (left_is i) 64 ((count_is ∙ sym (length_records t (cells_of t))) i))
      ∙ points_at_law (words_bytes (header_words t)) ps _ 64 header_long fit

  -- float i of those that 20 judges
  float_low : (i : ℕ) → i < 11 → get_or (measures t ++ (corners (frame_of t) ++ raw_sums t)) i 0 < 4294967296
  unfolding measures corners raw_sums
  float_low i h = finite_fits _ (finite_at (measures t ++ (corners (frame_of t) ++ raw_sums t)) i h w.floats)

  header_float : (i j : ℕ) → i < 16 → j < 11 → get_or (header_words t) i 0 ≡ get_or (measures t ++ (corners (frame_of t) ++ raw_sums t)) j 0 → word 4 done.left (4 * i) ≡ get_or (header_words t) i 0
  header_float i j h k e = header_word i h (rw e (float_low j k))

  floats_are : header_floats done.left ≡ measures t ++ corners (frame_of t)
  unfolding header_floats density volume scale box_min box_max header_words measures corners raw_sums
  floats_are =
      rw (
        header_float 4 0 (omega arith) (omega arith) refl,
        header_float 5 1 (omega arith) (omega arith) refl,
        header_float 6 2 (omega arith) (omega arith) refl,
        header_float 8 3 (omega arith) (omega arith) refl,
        header_float 9 4 (omega arith) (omega arith) refl,
        header_float 10 5 (omega arith) (omega arith) refl,
        header_float 11 6 (omega arith) (omega arith) refl,
        header_float 12 7 (omega arith) (omega arith) refl,
        header_float 13 8 (omega arith) (omega arith) refl,
      )

  -- the box as it is written: 19 asks what 5 asks
  box_is : (below done.left 0 ≡ true) × (below done.left 1 ≡ true) × (below done.left 2 ≡ true)
  unfolding box_flat below box_min box_max header_words measures corners raw_sums
  box_is =
      let f = frame_of t in
      let x = flat f.min.x f.max.x in
      let y = flat f.min.y f.max.y in
      let z = flat f.min.z f.max.z in
      let behind = or_false_r x (y || z) w.box in (
        rw (header_float 8 3 (omega arith) (omega arith) refl, header_float 11 6 (omega arith) (omega arith) refl) (wide _ _ (or_false_l x (y || z) w.box)),
        rw (header_float 9 4 (omega arith) (omega arith) refl, header_float 12 7 (omega arith) (omega arith) refl) (wide _ _ (or_false_l y z behind)),
        rw (header_float 10 5 (omega arith) (omega arith) refl, header_float 13 8 (omega arith) (omega arith) refl) (wide _ _ (or_false_r y z behind)),
      )

  header_is : Accepted done.left
  unfolding header_words size
  header_is =
      record {
        long = omega (arith, left_long, w.room);
        mark = header_word 0 (omega arith) (omega arith);
        version = header_word 1 (omega arith) (omega arith);
        grid_pos = rw grid_is w.pos;
        grid_few = rw grid_is w.few;
        room = rw (count_is, left_long) w.room;
        floats = rw floats_are (finite_left (measures t ++ corners (frame_of t)) (raw_sums t) (rw (append_assoc (measures t) (corners (frame_of t)) (raw_sums t)) w.floats));
        box = box_is;
      }

  accepted_file : file_cause done.left ≡ 0
  accepted_file = by_none done.left header_is (rw (grid_is, points_are) (records_sound t w.pos 0 (cells_of t) (cells_ascend t) w.masses))

  working_file_law : work_cause done.left ≡ 0
  unfolding work_cause when
  working_file_law = rw (grid_is, points_are, records_work t 0 (cube t.grid) (cells_of t) (cells_ascend t))

-- ---- the theorems: every answer from 64 up is the length of a file

module _ (t : Task) (floats : ℕ) (out : List ℕ) (long : 64 ≤ (fill t floats out).answer) where
  -- none of causes 1 to 7: a reader accepts the output as it stands
  pub fill_accepted : file_cause (fill t floats out).left ≡ 0
  fill_accepted = accepted_file t out (fill t floats out) (written t floats out long)

  -- not 10: it is in working form
  pub fill_works : work_cause (fill t floats out).left ≡ 0
  fill_works = working_file_law t out (fill t floats out) (written t floats out long)

  pub fill_grid : grid (fill t floats out).left ≡ t.grid
  fill_grid = grid_is t out (fill t floats out) (written t floats out long)

  pub fill_count : count (fill t floats out).left ≡ length (cells_of t)
  fill_count = count_is t out (fill t floats out) (written t floats out long)

  -- the answer is the file's length
  pub fill_length : (fill t floats out).answer ≡ size (count (fill t floats out).left)
  unfolding outcome
  fill_length = ap (λ (o : Outcome (List ℕ)). o.answer) (written t floats out long).is ∙ ap size (sym fill_count)

  -- its records are those of the inside cells
  pub fill_points : points (fill t floats out).left ≡ records_of t (cells_of t)
  fill_points = points_are t out (fill t floats out) (written t floats out long)
