-- Files in working form. What open makes of an accepted file is accepted, is in working form, has the same map of masses, and is what open makes of it again;
-- and a file in working form is what open makes of it, so that two with one header and one map are equal byte for byte. Assumes nothing.
use Prim.Native.Nat.{ℕ, ◌+◌, ◌*◌, ◌≤◌, ◌<◌}
use mathlib.Core.Path.{◌≡◌, refl, sym, ap, ◌∙◌, fun_ext}
use mathlib.Core.Bool.{Bool, true, false, not}
use mathlib.Core.Logic.{◌⊎◌, inl, inr}
use mathlib.Core.List.{List, ◌++◌, append_assoc}
use native.Mathlib.Nat.{zero-add}
use native.Mathlib.Omega.{arith}
use lib.ListN.{length, take, drop, length-append}
use lib.Dec.{ltb}
use lib.Seq.{length-take-le, take_at, take-add}
use borrow.Author.Tests.{ltb-true, ltb-false, not-false}
use Rattle.rym1.specs.declared.Point.{Point}
use Rattle.rym1.specs.Bytes.{word, le, splice}
use Rattle.rym1.specs.Causes.{when}
use Rattle.rym1.specs.File.{grid, count, density, volume, scale, box_min, box_max, points_at, points, points_bytes, size, cube, header_floats, below, points_cause, file_cause, working, work_cause}
use Rattle.rym1.specs.Cells.{look_from, look, masses_in, mass_map, records}
use Rattle.rym1.specs.Open.{counted, file_of, occupied_of, occupied, opened}
use Rattle.rym1.proofs.Bytes.{AllBytes, length_le, length_splice, word_take, word_append_left, word_splice_before, word_splice_behind, word_splice_fits, splice_over, splice_word, take_bytes}
use Rattle.rym1.proofs.Causes.{when_zero}
use Rattle.rym1.proofs.Accepted.{Accepted, accepted, accepted_points, by_none}
use Rattle.rym1.proofs.Points.{AllFit, length_points, points_at_law, points_bytes_law, length_points_at}
use Rattle.rym1.proofs.Cells.{AllFinite, cube_few, records_few, records_cause, records_fit, records_working, look_outside, map_finite, map_records, working_records}

-- ---- headers

-- the words of a header but its count
abbrev pub SameHeader : List ℕ → List ℕ → Type 0
SameHeader f f' = (off : ℕ) → off + 4 ≤ 64 → (off + 4 ≤ 12) ⊎ (16 ≤ off) → word 4 f off ≡ word 4 f' off

pub same_grid : (f f' : List ℕ) → SameHeader f f' → grid f ≡ grid f'
unfolding grid
same_grid f f' s = s 8 (omega arith) (inl (omega arith))

pub same_floats : (f f' : List ℕ) → SameHeader f f' → header_floats f ≡ header_floats f'
unfolding header_floats density volume scale box_min box_max
same_floats f f' s =
    rw (
      s 16 (omega arith) (inr (omega arith)),
      s 20 (omega arith) (inr (omega arith)),
      s 24 (omega arith) (inr (omega arith)),
      s 32 (omega arith) (inr (omega arith)),
      s 36 (omega arith) (inr (omega arith)),
      s 40 (omega arith) (inr (omega arith)),
      s 44 (omega arith) (inr (omega arith)),
      s 48 (omega arith) (inr (omega arith)),
      s 52 (omega arith) (inr (omega arith)),
    )

pub same_below : (f f' : List ℕ) → SameHeader f f' → (axis : ℕ) → axis < 3 → below f axis ≡ below f' axis
unfolding below box_min box_max
same_below f f' s axis h = rw (s (32 + 4 * axis) (omega arith) (inr (omega arith)), s (44 + 4 * axis) (omega arith) (inr (omega arith)))

-- a file with an accepted header, its records there
pub header_accepted : (f f' : List ℕ) → SameHeader f f' → Accepted f → 64 ≤ length f' → size (count f') ≤ length f' → Accepted f'
header_accepted f f' s a long room =
    record {
      long = long;
      mark = sym (s 0 (omega arith) (inl (omega arith))) ∙ a.mark;
      version = sym (s 4 (omega arith) (inl (omega arith))) ∙ a.version;
      grid_pos = rw (same_grid f f' s) at a.grid_pos;
      grid_few = rw (same_grid f f' s) at a.grid_few;
      room = room;
      floats = rw (same_floats f f' s) at a.floats;
      box = (
        sym (same_below f f' s 0 (omega arith)) ∙ a.box.0,
        sym (same_below f f' s 1 (omega arith)) ∙ a.box.1,
        sym (same_below f f' s 2 (omega arith)) ∙ a.box.2,
      );
    }

pub same_take : (f : List ℕ) → SameHeader f (take 64 f)
same_take f off h _ = sym (word_take 4 64 f off h)

-- ---- a header, records, and a rest

module _ (h : List ℕ) (long : length h ≡ 64) where
  pub length_counted : (n : ℕ) → length (counted h n) ≡ 64
  unfolding counted
  length_counted n = length_splice h 12 (le 4 n) (omega (arith, length_le 4 n)) ∙ long

  pub counted_counted : (n k : ℕ) → counted (counted h n) k ≡ counted h k
  unfolding counted
  counted_counted n k = splice_over h 12 (le 4 n) (le 4 k) (length_le 4 n ∙ sym (length_le 4 k)) (omega arith)

  pub length_file : (ps : List Point) → length (file_of h ps) ≡ size (length ps)
  unfolding file_of size
  length_file ps = length-append (counted h (length ps)) (points_bytes ps) ∙ omega (arith, length_counted (length ps), length_points ps)

  module _ (ps : List Point) (rest : List ℕ) where
    laid_open : file_of h ps ++ rest ≡ counted h (length ps) ++ (points_bytes ps ++ rest)
    unfolding file_of
    laid_open = append_assoc (counted h (length ps)) (points_bytes ps) rest

    word_header : (off : ℕ) → off + 4 ≤ 64 → word 4 (file_of h ps ++ rest) off ≡ word 4 (counted h (length ps)) off
    word_header off b =
        ap (λ (l : List ℕ). word 4 l off) laid_open
        ∙ word_append_left 4 (counted h (length ps)) (points_bytes ps ++ rest) off (omega (arith, length_counted (length ps)))

    pub same_laid : SameHeader h (file_of h ps ++ rest)
    unfolding counted
    same_laid off b (inl low) = sym (word_header off b ∙ word_splice_before 4 h 12 (le 4 (length ps)) off low (omega arith))
    same_laid off b (inr high) = sym (word_header off b ∙ word_splice_behind 4 h 12 (le 4 (length ps)) off (omega (arith, length_le 4 (length ps))) (omega arith))

    pub count_laid : length ps < 4294967296 → count (file_of h ps ++ rest) ≡ length ps
    unfolding count counted
    count_laid few = word_header 12 (omega arith) ∙ word_splice_fits 4 (length ps) h 12 (omega arith) few

    pub points_laid : length ps < 4294967296 → AllFit ps → points (file_of h ps ++ rest) ≡ ps
    unfolding points
    points_laid few fit =
        ap (λ (n : ℕ). points_at (file_of h ps ++ rest) 64 n) (count_laid few)
        ∙ ap (λ (l : List ℕ). points_at l 64 (length ps)) laid_open
        ∙ points_at_law (counted h (length ps)) ps rest 64 (length_counted (length ps)) fit

    pub header_laid : take 64 (file_of h ps ++ rest) ≡ counted h (length ps)
    header_laid = ap (λ (l : List ℕ). take 64 l) laid_open ∙ take_at (counted h (length ps)) (points_bytes ps ++ rest) 64 (length_counted (length ps))

-- ---- what open makes of an accepted file, with anything behind it

module _ (f : List ℕ) (ok : file_cause f ≡ 0) where
  a : Accepted f
  a = accepted f ok

  h_long : length (take 64 f) ≡ 64
  h_long = length-take-le 64 f a.long

  same_h : SameHeader (take 64 f) f
  same_h off b w = sym (same_take f off b w)

  pub finite_map : AllFinite (mass_map f)
  unfolding mass_map look
  finite_map = map_finite (grid f) 0 (points f) (accepted_points f ok)

  pub occupied_few : occupied f ≤ 16777216
  unfolding occupied occupied_of records
  occupied_few = omega (arith, records_few (grid f) (mass_map f) 0 (cube (grid f)), cube_few (grid f) a.grid_few)

  few : occupied f < 4294967296
  few = omega (arith, occupied_few)

  fit : AllFit (occupied_of f)
  unfolding occupied_of records
  fit = records_fit (grid f) a.grid_pos (mass_map f) finite_map a.grid_few 0 (cube (grid f)) (omega arith)

  occupied_sound : points_cause (grid f) (occupied_of f) ≡ 0
  unfolding occupied_of records
  occupied_sound = records_cause (grid f) a.grid_pos (mass_map f) finite_map 0 (cube (grid f)) (omega arith)

  pub length_opened : length (opened f) ≡ size (occupied f)
  unfolding opened occupied
  length_opened = length_file (take 64 f) h_long (occupied_of f)

  module _ (rest : List ℕ) where
    same_opened : SameHeader f (opened f ++ rest)
    unfolding opened
    same_opened off b w = sym (same_h off b w) ∙ same_laid (take 64 f) h_long (occupied_of f) rest off b w

    pub opened_grid : grid (opened f ++ rest) ≡ grid f
    opened_grid = sym (same_grid f (opened f ++ rest) same_opened)

    pub opened_count : count (opened f ++ rest) ≡ occupied f
    unfolding opened occupied
    opened_count = count_laid (take 64 f) h_long (occupied_of f) rest few

    pub opened_points : points (opened f ++ rest) ≡ occupied_of f
    unfolding opened occupied
    opened_points = points_laid (take 64 f) h_long (occupied_of f) rest few fit

    pub opened_accepted : file_cause (opened f ++ rest) ≡ 0
    opened_accepted =
        by_none (opened f ++ rest)
        (header_accepted f (opened f ++ rest) same_opened a
        (omega (arith, length-append (opened f) rest, size_is))
        (rw opened_count (omega (arith, length-append (opened f) rest, length_opened))))
        (rw (opened_grid, opened_points) occupied_sound)
      where
        size_is : 64 ≤ length (opened f)
        size_is = rw length_opened (unfold size in omega arith)

    pub opened_works : work_cause (opened f ++ rest) ≡ 0
    unfolding work_cause occupied_of records when
    opened_works = rw (opened_points, opened_grid, records_working (grid f) (mass_map f) 0 0 (cube (grid f)) (omega arith))

    -- cell by cell: inside the grid the records say so, and past it neither file names a cell
    pub opened_map : mass_map (opened f ++ rest) ≡ mass_map f
    unfolding mass_map look
    opened_map = fun_ext λ c. rw (opened_points, opened_grid) (go c (ltb c (cube (grid f))) refl)
      where
        go : (c : ℕ) (t : Bool) → ltb c (cube (grid f)) ≡ t → masses_in (look_from (grid f) 0 (occupied_of f) c) ≡ masses_in (look_from (grid f) 0 (points f) c)
        go c true e = unfold occupied_of in map_records (grid f) (mass_map f) c (ltb-true c (cube (grid f)) e)
        go c false e =
            let past : cube (grid f) ≤ c = ltb-false c (cube (grid f)) e in
            ap masses_in
            (look_outside (grid f) 0 (occupied_of f) c occupied_sound past
            ∙ sym (look_outside (grid f) 0 (points f) c (accepted_points f ok) past))

    again_records : occupied_of (opened f ++ rest) ≡ occupied_of f
    unfolding occupied_of
    again_records = rw (opened_grid, opened_map)

    pub opened_again : opened (opened f ++ rest) ≡ opened f
    unfolding opened file_of
    opened_again =
        ap (λ (ps : List Point). file_of (take 64 (opened f ++ rest)) ps) again_records
        ∙ ap (λ (h : List ℕ). file_of h (occupied_of f)) header
        ∙ recounted
      where
        header : take 64 (opened f ++ rest) ≡ counted (take 64 f) (length (occupied_of f))
        header = header_laid (take 64 f) h_long (occupied_of f) rest

        recounted : file_of (counted (take 64 f) (length (occupied_of f))) (occupied_of f) ≡ opened f
        recounted =
            ap (λ (h : List ℕ). h ++ points_bytes (occupied_of f)) (counted_counted (take 64 f) h_long (length (occupied_of f)) (length (occupied_of f)))

-- ---- a file in working form

module _ (f : List ℕ) (ok : file_cause f ≡ 0) (works : work_cause f ≡ 0) where
  pub working_points : occupied_of f ≡ points f
  unfolding occupied_of records mass_map look work_cause
  working_points =
      working_records (grid f) 0 0 (cube (grid f)) (points f)
      (not-false (working (grid f) 0 (points f)) (when_zero (not (working (grid f) 0 (points f))) 9 works))
      (accepted_points f ok) (zero-add (cube (grid f)))

  pub working_count : occupied f ≡ count f
  unfolding occupied points
  working_count = ap length working_points ∙ length_points_at f 64 (count f)

  pub working_opened : AllBytes f → take (size (count f)) f ≡ opened f
  unfolding size opened file_of occupied count counted
  working_opened all =
      take-add 64 (16 * count f) f
      ∙ ap (λ (l : List ℕ). take 64 f ++ l) (sym records_there)
      ∙ ap (λ (h : List ℕ). h ++ points_bytes (occupied_of f)) (sym header)
    where
      records_there : points_bytes (occupied_of f) ≡ take (16 * count f) (drop 64 f)
      records_there = ap points_bytes working_points ∙ (unfold points in points_bytes_law f 64 (count f) all (accepted f ok).room)

      header : counted (take 64 f) (length (occupied_of f)) ≡ take 64 f
      header =
          ap (λ (n : ℕ). splice (take 64 f) 12 (le 4 n)) (working_count ∙ sym (word_take 4 64 f 12 (omega arith)))
          ∙ splice_word 4 (take 64 f) 12 (take_bytes 64 f all) (omega (arith, length-take-le 64 f (accepted f ok).long))

pub working_same : (f f' : List ℕ) → AllBytes f → AllBytes f' → file_cause f ≡ 0 → work_cause f ≡ 0 → file_cause f' ≡ 0 → work_cause f' ≡ 0
    → take 64 f ≡ take 64 f' → mass_map f ≡ mass_map f' → take (size (count f)) f ≡ take (size (count f')) f'
working_same f f' all all' ok w ok' w' header map =
    working_opened f ok w all ∙ same_file ∙ sym (working_opened f' ok' w' all')
  where
    same_grids : grid f ≡ grid f'
    same_grids = unfold grid in sym (word_take 4 64 f 8 (omega arith)) ∙ ap (λ (l : List ℕ). word 4 l 8) header ∙ word_take 4 64 f' 8 (omega arith)

    same_file : opened f ≡ opened f'
    same_file = unfold opened occupied_of in rw (header, same_grids, map)
