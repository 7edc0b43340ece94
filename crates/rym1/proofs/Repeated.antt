-- Files in which no two records name one cell: those in working form, and what open and fold write. In such a file each record is its cell's only one,
-- and as many cells are occupied as there are records. Assumes nothing.
use Prim.Native.Nat.{ℕ, zero, suc, ◌+◌, ◌*◌, ◌-◌, ◌≤◌, ◌<◌}
use mathlib.Core.Path.{◌≡◌, refl, sym, ap, ◌∙◌}
use mathlib.Core.Bool.{Bool, true, false, not, true≢false, ◌||◌}
use mathlib.Core.Option.{Option, none, some}
use mathlib.Core.List.{List, [], ◌∷◌, ◌++◌}
use native.Mathlib.Nat.{zero-add}
use native.Mathlib.Decide.{ℕ_discrete}
use native.Mathlib.Omega.{arith}
use lib.ListN.{length, drop}
use lib.Dec.{eqb, leb, ltb}
use borrow.Author.Tests.{leb-true, lt-ltb, le-ltb, ltb-false, eq-eqb, ne_eqb, eqb-false, not-false}
use Rattle.rym1.specs.declared.Point.{Point}
use Rattle.rym1.specs.Bytes.{splice}
use Rattle.rym1.specs.Causes.{when, first, outcome, refuse}
use Rattle.rym1.specs.File.{grid, count, size, point_at, points_at, points, cell_of, cube, point_cause, points_cause, file_cause, working, work_cause, names, repeated, repeat_cause}
use Rattle.rym1.specs.Cells.{Masses, Map, vacant, held, masses_of, named, later, look_from, look, masses_in, mass_map, at_cell, records_from, records}
use Rattle.rym1.specs.Open.{occupied_of, occupied, opened, both, open_cause, open_file, fold_cause, fold_file}
use Rattle.rym1.proofs.Causes.{and_true_l, and_true_r, or_false_l, or_false_r, when_zero, first_zero_l, first_zero_r}
use Rattle.rym1.proofs.Accepted.{accepted_points}
use Rattle.rym1.proofs.Points.{length_points_at}
use Rattle.rym1.proofs.Cells.{cell_of_low, named_same, look_past, map_of, records_ext}
use Rattle.rym1.proofs.Opened.{opened_grid, opened_count, opened_accepted, opened_works, opened_again, working_count}

or_right : (a b : Bool) → (a || b) ≡ true → b ≡ false → a ≡ true
or_right true b e q = refl
or_right false b e q = absurd (true≢false (sym e ∙ q))

or_left : (a b : Bool) → (a || b) ≡ true → a ≡ false → b ≡ true
or_left true b e q = absurd (true≢false q)
or_left false b e q = e

-- ---- cells that no record names

module _ (g : ℕ) where
  pub unnamed : (i c : ℕ) (ps : List Point) → names g c ps ≡ false → look_from g i ps c ≡ vacant
  unfolding names look_from
  unnamed i c [] e = refl
  unnamed i c (p ∷ ps) e =
      look_past g i p ps c (eqb-false (cell_of g p) c (or_false_l (eqb (cell_of g p) c) _ e)) ∙ unnamed (suc i) c ps (or_false_r (eqb (cell_of g p) c) _ e)

  -- records from `low` up do not name a lower cell
  none_lower : (low c : ℕ) (ps : List Point) → working g low ps ≡ true → c < low → names g c ps ≡ false
  unfolding working names
  none_lower low c [] w h = refl
  none_lower low c (p ∷ ps) w h =
      let here : low ≤ cell_of g p = leb-true low (cell_of g p) (and_true_l (leb low (cell_of g p)) _ w) in
      let rest = and_true_r (eqb p.pad 0) _ (and_true_r (leb low (cell_of g p)) _ w) in
      rw (ne_eqb (cell_of g p) c (λ e. omega (arith, e, here, h)), none_lower (suc (cell_of g p)) c ps rest (omega (arith, here)))

  -- ---- working form

  pub working_distinct : (low : ℕ) (ps : List Point) → working g low ps ≡ true → repeated g ps ≡ false
  unfolding working repeated
  working_distinct low [] w = refl
  working_distinct low (p ∷ ps) w =
      let rest = and_true_r (eqb p.pad 0) _ (and_true_r (leb low (cell_of g p)) _ w) in
      rw (none_lower (suc (cell_of g p)) (cell_of g p) ps rest (omega arith), working_distinct (suc (cell_of g p)) ps rest)

  -- ---- the only record of a cell

  -- a record whose cell no later one names is what its cell holds
  pub first_only : (i : ℕ) (p : Point) (ps : List Point) → names g (cell_of g p) ps ≡ false → look_from g i (p ∷ ps) (cell_of g p) ≡ held i (masses_of p)
  unfolding look_from later
  first_only i p ps e = rw (unnamed (suc i) (cell_of g p) ps e, named_same g i p (cell_of g p) refl)

  names_last : (ps qs : List Point) (p : Point) → names g (cell_of g p) (ps ++ (p ∷ qs)) ≡ true
  unfolding names
  names_last [] qs p = rw (eq-eqb (cell_of g p) (cell_of g p) refl)
  names_last (q ∷ ps) qs p = rw (names_last ps qs p) (or_true (eqb (cell_of g q) (cell_of g p)))
    where
      or_true : (a : Bool) → (a || true) ≡ true
      or_true true = refl
      or_true false = refl

  -- and so is any other
  pub only_record : (i : ℕ) (ps : List Point) (p : Point) (qs : List Point) → repeated g (ps ++ (p ∷ qs)) ≡ false
      → look_from g i (ps ++ (p ∷ qs)) (cell_of g p) ≡ held (i + length ps) (masses_of p)
  unfolding repeated
  only_record i [] p qs e = first_only i p qs (or_false_l (names g (cell_of g p) qs) _ e) ∙ ap (λ (n : ℕ). held n (masses_of p)) (omega arith)
  only_record i (q ∷ ps) p qs e =
      look_past g i q (ps ++ (p ∷ qs)) (cell_of g p) (apart (or_false_l (names g (cell_of g q) (ps ++ (p ∷ qs))) _ e))
      ∙ only_record (suc i) ps p qs (or_false_r (names g (cell_of g q) (ps ++ (p ∷ qs))) _ e)
      ∙ ap (λ (n : ℕ). held n (masses_of p)) (omega arith)
    where
      apart : names g (cell_of g q) (ps ++ (p ∷ qs)) ≡ false → cell_of g q ≡ cell_of g p → ⊥
      apart f d = true≢false (sym (rw (← d) at (names_last ps qs p)) ∙ f)

  -- ---- as many cells are occupied as there are records

  -- a map with one more cell has one more record
  one_more : (m m' : Map) (v : Masses) (c lo k : ℕ) → m c ≡ none → m' c ≡ some v → lo ≤ c → c < lo + k
      → ((d : ℕ) → (d ≡ c → ⊥) → m' d ≡ m d) → length (records_from g m' lo k) ≡ suc (length (records_from g m lo k))
  unfolding records_from at_cell
  one_more m m' v c lo zero e e' l u same = absurd (omega arith)
  one_more m m' v c lo (suc k) e e' l u same = elim (ℕ_discrete lo c) [
    | yes d ↦
        let rest : records_from g m' (suc lo) k ≡ records_from g m (suc lo) k = records_ext g m' m (suc lo) k (λ i a b. same i (λ q. omega (arith, q, d, a))) in
        rw (d, e, e') (ap (λ (n : ℕ). suc n) (ap length (rw d at rest)))
    | no h ↦
        rw (same lo h) (go (m lo) (one_more m m' v c (suc lo) k e e' (omega arith) (omega arith) same))
  ]
    where
      go : (o : Option Masses) → length (records_from g m' (suc lo) k) ≡ suc (length (records_from g m (suc lo) k))
          → length (at_cell g lo o (records_from g m' (suc lo) k)) ≡ suc (length (at_cell g lo o (records_from g m (suc lo) k)))
      go none q = q
      go (some w) q = ap (λ (n : ℕ). suc n) q

  none_there : (i lo k : ℕ) → length (records_from g (map_of g i []) lo k) ≡ 0
  unfolding records_from look_from masses_in at_cell
  none_there i lo zero = refl
  none_there i lo (suc k) = none_there i (suc lo) k

  -- the records that a list of records leaves, each cell's last one
  abbrev left : ℕ → List Point → List Point
  left i ps = records_from g (map_of g i ps) 0 (cube g)

  -- one more where no later record names the cell
  fresh : (i : ℕ) (p : Point) (ps : List Point) → points_cause g (p ∷ ps) ≡ 0 → names g (cell_of g p) ps ≡ false → length (left i (p ∷ ps)) ≡ suc (length (left (suc i) ps))
  fresh i p ps ok e =
      let here : map_of g (suc i) ps (cell_of g p) ≡ none = unfold masses_in in ap masses_in (unnamed (suc i) (cell_of g p) ps e) in
      let there : map_of g i (p ∷ ps) (cell_of g p) ≡ some (masses_of p) = unfold masses_in in ap masses_in (first_only i p ps e) in
      let low : cell_of g p < cube g = unfold points_cause in cell_of_low g p (first_zero_l (point_cause g p) _ ok) in
      one_more (map_of g (suc i) ps) (map_of g i (p ∷ ps)) (masses_of p) (cell_of g p) 0 (cube g) here there (omega arith) (rw (zero-add (cube g)) low)
      (λ d h. ap masses_in (look_past g i p ps d (λ q. h (sym q))))

  -- a cell that is named is held
  held_there : (i c : ℕ) (ps : List Point) → names g c ps ≡ true → (k : ℕ) × (m : Masses) × (look_from g i ps c ≡ held k m)
  unfolding names look_from later named
  held_there i c [] e = absurd (true≢false (sym e))
  held_there i c (p ∷ ps) e = go (names g c ps) refl (λ q. held_there (suc i) c ps q)
    where
      go : (t : Bool) → names g c ps ≡ t → (names g c ps ≡ true → (k : ℕ) × (m : Masses) × (look_from g (suc i) ps c ≡ held k m))
          → (k : ℕ) × (m : Masses) × (later (look_from g (suc i) ps c) (named g i p c) ≡ held k m)
      go true q h = let (k, m, there) = h q in (k, m, rw there)
      go false q h = (i, masses_of p, rw (unnamed (suc i) c ps q, or_right (eqb (cell_of g p) c) (names g c ps) e q))

  -- none more where one does
  stale : (i : ℕ) (p : Point) (ps : List Point) → names g (cell_of g p) ps ≡ true → left i (p ∷ ps) ≡ left (suc i) ps
  stale i p ps e = records_ext g (map_of g i (p ∷ ps)) (map_of g (suc i) ps) 0 (cube g) (λ c _ _. ap masses_in (same c))
    where
      same : (c : ℕ) → look_from g i (p ∷ ps) c ≡ look_from g (suc i) ps c
      same c = elim (ℕ_discrete (cell_of g p) c) [
        | yes d ↦ let (k, m, h) = held_there (suc i) (cell_of g p) ps e in unfold look_from later in rw (← d, h)
        | no d ↦ look_past g i p ps c d
      ]

  pub distinct_count : (i : ℕ) (ps : List Point) → points_cause g ps ≡ 0 → repeated g ps ≡ false → length (left i ps) ≡ length ps
  unfolding repeated
  distinct_count i [] ok e = none_there i 0 (cube g)
  distinct_count i (p ∷ ps) ok e =
      fresh i p ps ok (or_false_l (names g (cell_of g p) ps) _ e)
      ∙ ap (λ (n : ℕ). suc n) (distinct_count (suc i) ps (unfold points_cause in first_zero_r (point_cause g p) _ ok) (or_false_r (names g (cell_of g p) ps) _ e))

  -- no more cells than records, and fewer where two name one cell
  count_most : (i : ℕ) (ps : List Point) → points_cause g ps ≡ 0 → length (left i ps) ≤ length ps
  count_most i [] ok = omega (arith, none_there i 0 (cube g))
  count_most i (p ∷ ps) ok = go (names g (cell_of g p) ps) refl (count_most (suc i) ps (unfold points_cause in first_zero_r (point_cause g p) _ ok))
    where
      go : (t : Bool) → names g (cell_of g p) ps ≡ t → length (left (suc i) ps) ≤ length ps → length (left i (p ∷ ps)) ≤ suc (length ps)
      go true q h = omega (arith, ap length (stale i p ps q), h)
      go false q h = omega (arith, fresh i p ps ok q, h)

  count_fewer : (i : ℕ) (ps : List Point) → points_cause g ps ≡ 0 → repeated g ps ≡ true → length (left i ps) < length ps
  unfolding repeated
  count_fewer i [] ok e = absurd (true≢false (sym e))
  count_fewer i (p ∷ ps) ok e = go (names g (cell_of g p) ps) refl (λ ok e. count_fewer (suc i) ps ok e)
    where
      rest : points_cause g ps ≡ 0
      rest = unfold points_cause in first_zero_r (point_cause g p) _ ok

      go : (t : Bool) → names g (cell_of g p) ps ≡ t → (points_cause g ps ≡ 0 → repeated g ps ≡ true → length (left (suc i) ps) < length ps) → length (left i (p ∷ ps)) < suc (length ps)
      go true q h = omega (arith, ap length (stale i p ps q), count_most (suc i) ps rest)
      go false q h = omega (arith, fresh i p ps ok q, h rest (or_left (names g (cell_of g p) ps) (repeated g ps) e q))

-- ---- files

points_cut : (f : List ℕ) (at k n : ℕ) → points_at f at (k + suc n) ≡ points_at f at k ++ (point_at f (at + 16 * k) ∷ points_at f (at + 16 * k + 16) n)
unfolding points_at
points_cut f at zero n = ap (points_at f at) (zero-add (suc n)) ∙ ap (λ (b : ℕ). point_at f b ∷ points_at f (b + 16) n) (omega arith)
points_cut f at (suc k) n =
    ap (points_at f at) (let e : suc k + suc n ≡ suc (k + suc n) = omega arith in e)
    ∙ ap (λ (ps : List Point). point_at f at ∷ ps)
    (points_cut f (at + 16) k n ∙ ap (λ (b : ℕ). points_at f (at + 16) k ++ (point_at f b ∷ points_at f (b + 16) n)) (omega arith))

-- where 21 is not given, record k of the file is what its cell holds
pub file_only_record : (f : List ℕ) → repeat_cause f ≡ 0 → (k : ℕ) → k < count f
    → look f (cell_of (grid f) (point_at f (64 + 16 * k))) ≡ held k (masses_of (point_at f (64 + 16 * k)))
unfolding look points repeat_cause
file_only_record f d k h =
    let p = point_at f (64 + 16 * k) in
    let before = points_at f 64 k in
    let behind = points_at f (64 + 16 * k + 16) (count f - k - 1) in
    let cut : points_at f 64 (count f) ≡ before ++ (p ∷ behind) = ap (points_at f 64) (omega (arith, h)) ∙ points_cut f 64 k (count f - k - 1) in
    let once : repeated (grid f) (points_at f 64 (count f)) ≡ false = when_zero (repeated (grid f) (points_at f 64 (count f))) 20 d in
    ap (λ (ps : List Point). look_from (grid f) 0 ps (cell_of (grid f) p)) cut
    ∙ only_record (grid f) 0 before p behind (sym (ap (repeated (grid f)) cut) ∙ once)
    ∙ ap (λ (n : ℕ). held n (masses_of p)) (omega (arith, length_points_at f 64 k))

-- in working form no cell is named twice
pub working_file_distinct : (f : List ℕ) → work_cause f ≡ 0 → repeat_cause f ≡ 0
unfolding work_cause repeat_cause when
working_file_distinct f w =
    rw (working_distinct (grid f) 0 (points f) (not-false (working (grid f) 0 (points f)) (when_zero (not (working (grid f) 0 (points f))) 9 w)))

-- so open takes what fold, or open, wrote
pub opened_distinct : (f : List ℕ) → file_cause f ≡ 0 → (rest : List ℕ) → repeat_cause (opened f ++ rest) ≡ 0
opened_distinct f ok rest = working_file_distinct (opened f ++ rest) (opened_works f ok rest)

-- where 21 is not given, every record is an occupied cell's
pub distinct_occupied : (f : List ℕ) → file_cause f ≡ 0 → repeat_cause f ≡ 0 → occupied f ≡ count f
unfolding occupied occupied_of records mass_map look repeat_cause
distinct_occupied f ok d =
    distinct_count (grid f) 0 (points f) (accepted_points f ok) (when_zero (repeated (grid f) (points f)) 20 d)
    ∙ (unfold points in length_points_at f 64 (count f))

-- 21 is given exactly where fewer cells are occupied than there are records
pub repeat_counted : (f : List ℕ) → file_cause f ≡ 0 → repeat_cause f ≡ when (ltb (occupied f) (count f)) 21
unfolding occupied occupied_of records mass_map look repeat_cause
repeat_counted f ok = go (repeated (grid f) (points f)) refl
  where
    n_is : length (points f) ≡ count f
    n_is = unfold points in length_points_at f 64 (count f)

    k : ℕ
    k = length (records_from (grid f) (map_of (grid f) 0 (points f)) 0 (cube (grid f)))

    go : (t : Bool) → repeated (grid f) (points f) ≡ t → when t 21 ≡ when (ltb k (count f)) 21
    go true q = ap (λ (b : Bool). when b 21) (sym (lt-ltb k (count f) (omega (arith, n_is, count_fewer (grid f) 0 (points f) (accepted_points f ok) q))))
    go false q = ap (λ (b : Bool). when b 21) (sym (le-ltb k (count f) (omega (arith, n_is, distinct_count (grid f) 0 (points f) (accepted_points f ok) q))))

pub fewer_twice : (f : List ℕ) → file_cause f ≡ 0 → occupied f < count f → repeat_cause f ≡ 21
unfolding when
fewer_twice f ok h = repeat_counted f ok ∙ rw (lt-ltb (occupied f) (count f) h)

pub as_many_once : (f : List ℕ) → file_cause f ≡ 0 → count f ≤ occupied f → repeat_cause f ≡ 0
unfolding when
as_many_once f ok h = repeat_counted f ok ∙ rw (le-ltb (occupied f) (count f) h)

-- ---- what fold wrote

-- what open or fold made of a file, with anything behind it, is opened as it is
pub opened_opens : (f : List ℕ) → file_cause f ≡ 0 → (rest : List ℕ) (words : ℕ) (out j : List ℕ) → cube (grid f) ≤ words → size (occupied f) ≤ length out → 0 < length j
    → open_file (opened f ++ rest) words out j ≡ outcome (size (occupied f)) (both (splice out 0 (opened f)) (splice j 0 (0 ∷ [])))
unfolding open_file open_cause first when refuse
opened_opens f ok rest words out j enough room word =
    let same : occupied (opened f ++ rest) ≡ occupied f =
    working_count (opened f ++ rest) (opened_accepted f ok rest) (opened_works f ok rest) ∙ opened_count f ok rest in
    rw (
      opened_accepted f ok rest,
      opened_grid f ok rest,
      le-ltb words (cube (grid f)) enough,
      opened_distinct f ok rest,
      same,
      le-ltb (length out) (size (occupied f)) room,
      ne_eqb (length j) 0 (λ e. omega (arith, e, word)),
      opened_again f ok rest,
    )

-- a file that fold accepts, once folded, is one that open accepts with the same scratch, and it comes back unchanged
pub fold_opens : (f : List ℕ) (words : ℕ) (out : List ℕ) → fold_cause f words out ≡ 0 → (out₁ j : List ℕ) → size (occupied f) ≤ length out₁ → 0 < length j
    → open_file (fold_file f words out).left words out₁ j ≡ outcome (size (occupied f)) (both (splice out₁ 0 (opened f)) (splice j 0 (0 ∷ [])))
unfolding fold_file fold_cause refuse
fold_opens f words out h out₁ j room word =
    let ok = first_zero_l (file_cause f) _ h in
    let k8 = first_zero_r (file_cause f) _ h in
    let enough = ltb-false words (cube (grid f)) (when_zero (ltb words (cube (grid f))) 7 (first_zero_l (when (ltb words (cube (grid f))) 8) _ k8)) in
    rw h (unfold splice outcome in opened_opens f ok (drop (0 + length (opened f)) out) words out₁ j enough room word)
