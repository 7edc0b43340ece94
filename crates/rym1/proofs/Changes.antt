-- What a change of one cell makes of a file in working form: the file of the map that has been changed there, in as many bytes. Assumes nothing.
use Prim.Native.Nat.{ℕ, zero, suc, ◌+◌, ◌-◌, ◌*◌, ◌≤◌, ◌<◌}
use mathlib.Core.Path.{◌≡◌, refl, sym, ap, ◌∙◌}
use mathlib.Core.Option.{Option, none, some}
use mathlib.Core.List.{List, [], ◌∷◌, ◌++◌, append_assoc}
use native.Mathlib.Nat.{zero-add}
use native.Mathlib.Omega.{arith}
use lib.ListN.{length, take, drop, replicate, length-append, length-drop, take-append-drop}
use lib.Seq.{length-take-le, take_at, drop_at}
use borrow.Author.Tests.{lt-ltb, le-ltb}
use Rattle.rym1.specs.declared.Point.{Point}
use Rattle.rym1.specs.Bytes.{le, splice}
use Rattle.rym1.specs.Causes.{when}
use Rattle.rym1.specs.File.{grid, count, points, point_bytes, points_bytes, size, cube, file_cause, work_cause}
use Rattle.rym1.specs.Cells.{Masses, Map, look, cell_point, at_cell, records_from, records}
use Rattle.rym1.specs.Open.{counted, file_of}
use Rattle.rym1.specs.Edits.{lower, later_bytes, inserted, removed, changed, change}
use Rattle.rym1.proofs.Bytes.{length_le, splice_append_left}
use Rattle.rym1.proofs.Accepted.{Accepted, by_none}
use Rattle.rym1.proofs.Points.{AllFit, length_point, length_points, points_append}
use Rattle.rym1.proofs.Cells.{AllFinite, slot_at, cube_few, cell_of_point, records_ext, records_split, records_few, records_cause, records_fit, records_working, look_records}
use Rattle.rym1.proofs.Opened.{SameHeader, same_grid, header_accepted, length_counted, counted_counted, length_file, same_laid, count_laid, points_laid}

-- ---- bytes

-- a splice over as much as stands behind p
pub splice_at : (p old new r : List ℕ) (at : ℕ) → length p ≡ at → length new ≡ length old → splice (p ++ (old ++ r)) at new ≡ p ++ (new ++ r)
unfolding splice
splice_at p old new r at e l =
    let e2 : length (p ++ old) ≡ at + length new = length-append p old ∙ omega arith in
    let back : drop (at + length new) (p ++ (old ++ r)) ≡ r = rw (← append_assoc p old r) (drop_at (p ++ old) r (at + length new) e2) in
    rw (take_at p (old ++ r) at e, back)

length_middle : (L : List Point) (p : Point) (U : List Point) → length (L ++ (p ∷ U)) ≡ suc (length (L ++ U))
length_middle L p U = length-append L (p ∷ U) ∙ omega (arith, length-append L U)

module _ (h : List ℕ) (long : length h ≡ 64) where
  -- another count over one
  recounted : (n k : ℕ) (t : List ℕ) → counted (counted h n ++ t) k ≡ counted h k ++ t
  recounted n k t = apart (counted h n) (length_counted h long n) ∙ ap (λ (l : List ℕ). l ++ t) (counted_counted h long n k)
    where
      apart : (l : List ℕ) → length l ≡ 64 → counted (l ++ t) k ≡ counted l k ++ t
      apart l e = unfold counted in splice_append_left l t 12 (le 4 k) (omega (arith, length_le 4 k))

  module _ (L : List Point) where
    -- the header and the records of L
    abbrev front : ℕ → List ℕ
    front n = counted h n ++ points_bytes L

    length_front : (n : ℕ) → length (front n) ≡ size (length L)
    unfolding size
    length_front n = length-append (counted h n) (points_bytes L) ∙ omega (arith, length_counted h long n, length_points L)

    shown : (X : List Point) (rest : List ℕ) → file_of h (L ++ X) ++ rest ≡ front (length (L ++ X)) ++ (points_bytes X ++ rest)
    unfolding file_of
    shown X rest = rw (points_append L X) (simp append_assoc)

    closed : (n : ℕ) (X : List Point) (rest : List ℕ) → n ≡ length (L ++ X) → counted h n ++ (points_bytes L ++ (points_bytes X ++ rest)) ≡ file_of h (L ++ X) ++ rest
    closed n X rest e = rw e (sym (shown X rest ∙ append_assoc (counted h (length (L ++ X))) (points_bytes L) (points_bytes X ++ rest)))

    module _ (U : List Point) where
      -- the record behind those of L becomes another
      replaced_is : (p q : Point) (rest : List ℕ) → splice (file_of h (L ++ (p ∷ U)) ++ rest) (size (length L)) (point_bytes q) ≡ file_of h (L ++ (q ∷ U)) ++ rest
      unfolding points_bytes
      replaced_is p q rest =
          let same : length (L ++ (p ∷ U)) ≡ length (L ++ (q ∷ U)) = length_middle L p U ∙ sym (length_middle L q U) in
          rw (shown (p ∷ U) rest, shown (q ∷ U) rest, same, append_assoc (point_bytes p) (points_bytes U) rest, append_assoc (point_bytes q) (points_bytes U) rest)
          (splice_at (front (length (L ++ (q ∷ U)))) (point_bytes p) (point_bytes q) (points_bytes U ++ rest) (size (length L)) (length_front (length (L ++ (q ∷ U)))) (length_point q ∙ sym (length_point p)))

      module _ (few : suc (length (L ++ U)) < 4294967296) where
        -- a record arrives behind those of L, over the first sixteen bytes of the rest
        inserted_is : (q : Point) (rest : List ℕ) → 16 ≤ length rest
            → inserted (file_of h (L ++ U) ++ rest) (length L) (point_bytes q) ≡ file_of h (L ++ (q ∷ U)) ++ drop 16 rest
        unfolding inserted later_bytes points_bytes
        inserted_is q rest room =
            let N : ℕ = length (L ++ U) in
            let B : List ℕ = points_bytes U in
            let gap : List ℕ = take 16 rest in
            let back : List ℕ = drop 16 rest in
            let cnt : count (file_of h (L ++ U) ++ rest) ≡ N = count_laid h long (L ++ U) rest (omega arith) in
            let parts : file_of h (L ++ U) ++ rest ≡ front N ++ (B ++ rest) = shown U rest in
            let long-B : length B ≡ 16 * (N - length L) = length_points U ∙ omega (arith, length-append L U) in
            let tail : take (16 * (N - length L)) (drop (size (length L)) (front N ++ (B ++ rest))) ≡ B =
            rw (drop_at (front N) (B ++ rest) (size (length L)) (length_front N)) (take_at B rest (16 * (N - length L)) long-B) in
            let whole : B ++ rest ≡ (B ++ gap) ++ back = rw (append_assoc B gap back, take-append-drop 16 rest) in
            let same : length (point_bytes q ++ B) ≡ length (B ++ gap) =
            length-append (point_bytes q) B ∙ omega (arith, length-append B gap, length_point q, length-take-le 16 rest room) in
            let moved : splice (front N ++ (B ++ rest)) (size (length L)) (point_bytes q ++ B) ≡ front N ++ ((point_bytes q ++ B) ++ back) =
            rw whole (splice_at (front N) (B ++ gap) (point_bytes q ++ B) back (size (length L)) (length_front N) same) in
            rw (cnt, parts, tail, moved, append_assoc (counted h N) (points_bytes L) ((point_bytes q ++ B) ++ back))
            (recounted N (suc N) (points_bytes L ++ ((point_bytes q ++ B) ++ back)) ∙ closed (suc N) (q ∷ U) back (sym (length_middle L q U)))

        -- the record behind those of L goes, and sixteen bytes of 0 come before the rest
        removed_is : (p : Point) (rest : List ℕ) → removed (file_of h (L ++ (p ∷ U)) ++ rest) (length L) ≡ file_of h (L ++ U) ++ (replicate 16 0 ++ rest)
        unfolding removed later_bytes points_bytes
        removed_is p rest =
            let N : ℕ = length (L ++ (p ∷ U)) in
            let B : List ℕ = points_bytes U in
            let zeros : List ℕ = replicate 16 0 in
            let more : N ≡ suc (length (L ++ U)) = length_middle L p U in
            let cnt : count (file_of h (L ++ (p ∷ U)) ++ rest) ≡ N = count_laid h long (L ++ (p ∷ U)) rest (omega arith) in
            let parts : file_of h (L ++ (p ∷ U)) ++ rest ≡ front N ++ ((point_bytes p ++ B) ++ rest) = shown (p ∷ U) rest in
            let long-B : length B ≡ 16 * (N - suc (length L)) = length_points U ∙ omega (arith, length-append L (p ∷ U)) in
            let split : front N ++ ((point_bytes p ++ B) ++ rest) ≡ (front N ++ point_bytes p) ++ (B ++ rest) = simp append_assoc in
            let long-p : length (front N ++ point_bytes p) ≡ size (suc (length L)) = length-append (front N) (point_bytes p) ∙ step in
            let tail : take (16 * (N - suc (length L))) (drop (size (suc (length L))) (front N ++ ((point_bytes p ++ B) ++ rest))) ≡ B =
            rw (split, drop_at (front N ++ point_bytes p) (B ++ rest) (size (suc (length L))) long-p) (take_at B rest (16 * (N - suc (length L))) long-B) in
            let same : length (B ++ zeros) ≡ length (point_bytes p ++ B) =
            length-append B zeros ∙ omega (arith, length-append (point_bytes p) B, length_point p) in
            let moved : splice (front N ++ ((point_bytes p ++ B) ++ rest)) (size (length L)) (B ++ zeros) ≡ front N ++ ((B ++ zeros) ++ rest) =
            splice_at (front N) (point_bytes p ++ B) (B ++ zeros) rest (size (length L)) (length_front N) same in
            let less : N - 1 ≡ length (L ++ U) = omega arith in
            rw (cnt, parts, tail, moved, less, append_assoc (counted h N) (points_bytes L) ((B ++ zeros) ++ rest), append_assoc B zeros rest)
            (recounted N (length (L ++ U)) (points_bytes L ++ (B ++ (zeros ++ rest))) ∙ closed (length (L ++ U)) U (zeros ++ rest) refl)
          where
            step : length (front (length (L ++ (p ∷ U)))) + length (point_bytes p) ≡ size (suc (length L))
            step = unfold size in omega (arith, length_front (length (L ++ (p ∷ U))), length_point p)

-- ---- the records around a cell

-- those of the lower cells, and of the higher ones
abbrev pub lows : ℕ → Map → ℕ → List Point
lows g m c = records_from g m 0 c

abbrev pub highs : ℕ → Map → ℕ → List Point
highs g m c = records_from g m (suc c) (cube g - suc c)

pub records_at : (g : ℕ) (m : Map) (c : ℕ) → c < cube g → records g m ≡ lows g m c ++ at_cell g c (m c) (highs g m c)
unfolding records records_from
records_at g m c low =
    let e : cube g ≡ c + suc (cube g - suc c) = omega arith in
    ap (λ (n : ℕ). records_from g m 0 n) e ∙ records_split g m 0 c (suc (cube g - suc c)) ∙ rw (zero-add c)

-- maps that differ at most in cell c
pub records_but : (g : ℕ) (m m' : Map) (c : ℕ) → c < cube g → ((k : ℕ) → (k ≡ c → ⊥) → m' k ≡ m k) → records g m' ≡ lows g m c ++ at_cell g c (m' c) (highs g m c)
records_but g m m' c low off =
    records_at g m' c low
    ∙ rw (
      records_ext g m' m 0 c (λ i l u. off i (λ e. omega arith)),
      records_ext g m' m (suc c) (cube g - suc c) (λ i l u. off i (λ e. omega arith)),
    )

-- records of lower cells count, others do not
lower_all : (g : ℕ) (m : Map) (c lo k : ℕ) → lo + k ≤ c → lower g c (records_from g m lo k) ≡ length (records_from g m lo k)
unfolding records_from at_cell lower
lower_all g m c lo zero h = refl
lower_all g m c lo (suc k) h = go (m lo) (lower_all g m c (suc lo) k (omega arith))
  where
    go : (o : Option Masses) → lower g c (records_from g m (suc lo) k) ≡ length (records_from g m (suc lo) k)
        → lower g c (at_cell g lo o (records_from g m (suc lo) k)) ≡ length (at_cell g lo o (records_from g m (suc lo) k))
    go none ih = ih
    go (some v) ih = rw (cell_of_point g lo v, lt-ltb lo c (omega arith), ih) (omega arith)

lower_none : (g : ℕ) (m : Map) (c lo k : ℕ) → c ≤ lo → lower g c (records_from g m lo k) ≡ 0
unfolding records_from at_cell lower
lower_none g m c lo zero h = refl
lower_none g m c lo (suc k) h = go (m lo) (lower_none g m c (suc lo) k (omega arith))
  where
    go : (o : Option Masses) → lower g c (records_from g m (suc lo) k) ≡ 0 → lower g c (at_cell g lo o (records_from g m (suc lo) k)) ≡ 0
    go none ih = ih
    go (some v) ih = rw (cell_of_point g lo v, le-ltb lo c h, ih)

lower_append : (g c : ℕ) (ps qs : List Point) → lower g c (ps ++ qs) ≡ lower g c ps + lower g c qs
unfolding lower
lower_append g c [] qs = sym (zero-add (lower g c qs))
lower_append g c (p ∷ ps) qs = rw (lower_append g c ps qs) (omega arith)

pub lower_records : (g : ℕ) (m : Map) (c : ℕ) → c ≤ cube g → lower g c (records g m) ≡ length (lows g m c)
unfolding records
lower_records g m c low =
    let e : cube g ≡ c + (cube g - c) = omega arith in
    ap (λ (n : ℕ). lower g c (records_from g m 0 n)) e
    ∙ ap (lower g c) (records_split g m 0 c (cube g - c))
    ∙ lower_append g c (records_from g m 0 c) (records_from g m (0 + c) (cube g - c))
    ∙ omega (arith, lower_all g m c 0 c (omega arith), lower_none g m c (0 + c) (cube g - c) (omega arith))

-- ---- a file in working form, by its header and its map

pub record Laid (h : List ℕ) (m : Map) (f : List ℕ) : Type 0 where
  pub long : length h ≡ 64
  pub rest : List ℕ
  pub is : f ≡ file_of h (records (grid h) m) ++ rest
  pub accepted : Accepted f
  pub finite : AllFinite m

module _ (h : List ℕ) (m : Map) (f : List ℕ) (l : Laid h m f) where
  same_header : SameHeader h f
  same_header off b w = rw l.is (same_laid h l.long (records (grid h) m) l.rest off b w)

  pub laid_grid : grid f ≡ grid h
  laid_grid = sym (same_grid h f same_header)

  pub laid_pos : 0 < grid h
  laid_pos = rw laid_grid at l.accepted.grid_pos

  pub laid_small : grid h ≤ 256
  laid_small = rw laid_grid at l.accepted.grid_few

  -- any map has so few records
  pub laid_few : (m' : Map) → length (records (grid h) m') ≤ 16777216
  unfolding records
  laid_few m' = omega (arith, records_few (grid h) m' 0 (cube (grid h)), cube_few (grid h) laid_small)

  pub laid_count : count f ≡ length (records (grid h) m)
  laid_count = rw l.is (count_laid h l.long (records (grid h) m) l.rest (omega (arith, laid_few m)))

  laid_fit : AllFit (records (grid h) m)
  unfolding records
  laid_fit = records_fit (grid h) laid_pos m l.finite laid_small 0 (cube (grid h)) (omega arith)

  pub laid_points : points f ≡ records (grid h) m
  laid_points = rw l.is (points_laid h l.long (records (grid h) m) l.rest (omega (arith, laid_few m)) laid_fit)

  pub laid_length : length f ≡ size (length (records (grid h) m)) + length l.rest
  laid_length = ap length l.is ∙ length-append (file_of h (records (grid h) m)) l.rest ∙ rw (length_file h l.long (records (grid h) m))

  pub laid_look : (c : ℕ) → c < cube (grid h) → look f c ≡ slot_at (length (lows (grid h) m c)) (m c)
  unfolding look records
  laid_look c low =
      let start : c - 0 ≡ c = omega arith in
      rw (laid_grid, laid_points) (rw (start, zero-add (length (lows (grid h) m c))) at (look_records (grid h) 0 m 0 (cube (grid h)) c (omega arith) (omega arith)))

  pub laid_cause : file_cause f ≡ 0
  unfolding records
  laid_cause = by_none f l.accepted (rw (laid_points, laid_grid) (records_cause (grid h) laid_pos m l.finite 0 (cube (grid h)) (omega arith)))

  pub laid_works : work_cause f ≡ 0
  unfolding work_cause records when
  laid_works = rw (laid_points, laid_grid, records_working (grid h) m 0 0 (cube (grid h)) (omega arith))

  pub laid_taken : take (size (count f)) f ≡ file_of h (records (grid h) m)
  laid_taken =
      rw (laid_count, l.is) (take_at (file_of h (records (grid h) m)) l.rest (size (length (records (grid h) m))) (length_file h l.long (records (grid h) m)))

  -- the same with anything behind it
  pub relaid : (rest' : List ℕ) → Laid h m (file_of h (records (grid h) m) ++ rest')
  unfolding size
  relaid rest' =
      let ps = records (grid h) m in
      let f' = file_of h ps ++ rest' in
      let n : count f' ≡ length ps = count_laid h l.long ps rest' (omega (arith, laid_few m)) in
      let long' = length-append (file_of h ps) rest' in
      let whole = length_file h l.long ps in
      record {
        long = l.long;
        rest = rest';
        is = refl;
        accepted =
            header_accepted f f' (λ off b w. sym (same_header off b w) ∙ same_laid h l.long ps rest' off b w) l.accepted
            (omega (arith, long', whole)) (omega (arith, n, long', whole));
        finite = l.finite;
      }

  -- ---- a change of one cell

  module _ (m' : Map) (c : ℕ) (o : Option Masses) (low : c < cube (grid h)) (here : m' c ≡ o) (off : (k : ℕ) → (k ≡ c → ⊥) → m' k ≡ m k)
      (room : size (length (records (grid h) m')) ≤ length f) where
    abbrev L : List Point
    L = lows (grid h) m c

    abbrev U : List Point
    U = highs (grid h) m c

    held : (p : Masses) → m c ≡ some p → records (grid h) m ≡ L ++ (cell_point (grid h) c p ∷ U)
    unfolding at_cell
    held p e = records_at (grid h) m c low ∙ rw e

    free : m c ≡ none → records (grid h) m ≡ L ++ U
    unfolding at_cell
    free e = records_at (grid h) m c low ∙ rw e

    arrived : (q : Masses) → m' c ≡ some q → records (grid h) m' ≡ L ++ (cell_point (grid h) c q ∷ U)
    unfolding at_cell
    arrived q e = records_but (grid h) m m' c low off ∙ rw e

    gone : m' c ≡ none → records (grid h) m' ≡ L ++ U
    unfolding at_cell
    gone e = records_but (grid h) m m' c low off ∙ rw e

    less : length (records (grid h) m) ≡ suc (length (records (grid h) m')) → size (length (records (grid h) m')) + length (replicate 16 0 ++ l.rest) ≡ length f
    unfolding size
    less e = omega (arith, laid_length)

    enough : length (records (grid h) m') ≡ suc (length (records (grid h) m)) → 16 ≤ length l.rest
    unfolding size
    enough e = omega (arith, laid_length)

    grown : length (records (grid h) m') ≡ suc (length (records (grid h) m)) → size (length (records (grid h) m')) + length (drop 16 l.rest) ≡ length f
    unfolding size
    grown e = omega (arith, laid_length, length-drop 16 l.rest)

    -- the bytes behind the records afterwards
    changed_is : (now new : Option Masses) → m c ≡ now → m' c ≡ new
        → (rest : List ℕ) × (changed f c (slot_at (length (lows (grid h) m c)) now) new ≡ file_of h (records (grid h) m') ++ rest)
        × (size (length (records (grid h) m')) + length rest ≡ length f)
    unfolding changed slot_at
    changed_is (some p) (some q) en eo =
        let was = held p en in
        let will = arrived q eo in (
          l.rest,
          rw (laid_grid, l.is, was, will) (replaced_is h l.long L U (cell_point (grid h) c p) (cell_point (grid h) c q) l.rest),
          rw (ap length will ∙ length_middle L (cell_point (grid h) c q) U ∙ sym (length_middle L (cell_point (grid h) c p) U) ∙ ap length (sym was)) (sym laid_length),
        )
    changed_is (some p) none en eo =
        let was = held p en in
        let will = gone eo in
        let more : length (records (grid h) m) ≡ suc (length (records (grid h) m')) = ap length was ∙ length_middle L (cell_point (grid h) c p) U ∙ ap (λ (ps : List Point). suc (length ps)) (sym will) in
        let few : suc (length (L ++ U)) < 4294967296 = omega (arith, more, laid_few m, ap length will) in (
          replicate 16 0 ++ l.rest,
          rw (l.is, was, will) (removed_is h l.long L U few (cell_point (grid h) c p) l.rest),
          less more,
        )
    changed_is none (some q) en eo =
        let was = free en in
        let will = arrived q eo in
        let more : length (records (grid h) m') ≡ suc (length (records (grid h) m)) = ap length will ∙ length_middle L (cell_point (grid h) c q) U ∙ ap (λ (ps : List Point). suc (length ps)) (sym was) in
        let few : suc (length (L ++ U)) < 4294967296 = omega (arith, more, laid_few m', ap length was) in (
          drop 16 l.rest,
          rw (laid_grid, laid_points, lower_records (grid h) m c (omega arith), l.is, was, will)
              (inserted_is h l.long L U few (cell_point (grid h) c q) l.rest (enough more)),
          grown more,
        )
    changed_is none none en eo =
        let same : records (grid h) m' ≡ records (grid h) m = gone eo ∙ sym (free en) in
        (l.rest, l.is ∙ rw same, rw same (sym laid_length))

    change_is : (rest : List ℕ) × (change f c o ≡ file_of h (records (grid h) m') ++ rest) × (size (length (records (grid h) m')) + length rest ≡ length f)
    unfolding change
    change_is = rw (laid_look c low) (changed_is (m c) o refl here)

    pub change_length : length (change f c o) ≡ length f
    change_length =
        ap length change_is.1
        ∙ length-append (file_of h (records (grid h) m')) change_is.0
        ∙ ap (λ (n : ℕ). n + length change_is.0) (length_file h l.long (records (grid h) m'))
        ∙ change_is.2

    pub change_laid : AllFinite m' → Laid h m' (change f c o)
    change_laid all =
        let f' : List ℕ = change f c o in
        let rest : List ℕ = change_is.0 in
        let is : f' ≡ file_of h (records (grid h) m') ++ rest = change_is.1 in
        let same : SameHeader f f' = λ off b w. sym (same_header off b w) ∙ rw is (same_laid h l.long (records (grid h) m') rest off b w) in
        let counts : count f' ≡ length (records (grid h) m') = rw is (count_laid h l.long (records (grid h) m') rest (omega (arith, laid_few m'))) in
        record {
          long = l.long;
          rest = rest;
          is = is;
          accepted = header_accepted f f' same l.accepted (rw change_length l.accepted.long) (rw (counts, change_length) room);
          finite = all;
        }
