-- In a file in working form a row's points are records on end: from the total at its first cell on, as many as it has marks. Assumes nothing.
use Rattle.std.specs.Prelude.{Option as Found, None}
use Prim.Native.Nat.{ℕ, zero, suc, ◌+◌, ◌-◌, ◌*◌, ◌%◌, ◌≤◌, ◌<◌}
use mathlib.Core.Path.{◌≡◌, refl, sym, ap, ◌∙◌, subst}
use mathlib.Core.Bool.{Bool, true, false, cond}
use mathlib.Core.Option.{Option, none, some}
use mathlib.Core.List.{List, [], ◌∷◌, ◌++◌, append-nil}
use native.Mathlib.Nat.{zero-add, sub-zero, one-mul, add-mul, mul-le-mul_right}
use native.Mathlib.Omega.{arith}
use lib.ListN.{length, get_or}
use lib.Arith.{digits_lt, digits_mod}
use lib.Dec.{eqb}
use borrow.Author.Tests.{eqb-true, eq-eqb}
use Rattle.rym1.specs.Bytes.{word16, word32}
use Rattle.rym1.specs.File.{grid, count, point_at, points, cell, cell_of, cube, groups, file_cause, work_cause}
use Rattle.rym1.specs.Cells.{Masses, Slot, vacant, held, look, masses_of, mass_map, records}
use Rattle.rym1.specs.Open.{occupied, occupied_of}
use Rattle.rym1.proofs.Opened.{working_count}
use Rattle.rym1.proofs.Accepted.{Inside, accepted, accepted_points, inside_at}
use Rattle.rym1.proofs.Cells.{cell_low, cube_few, slot_at, HeldAt, held_at}
use Rattle.lookup.specs.Lookup.{slot_word}
use Rattle.marks.specs.Marks.{one, mark, tally, Entered}
use Rattle.marks.proofs.Digits.{tally_more}
use Rattle.marks.proofs.Index.{look_marked, tally_few, tally_records}
use Rattle.search.specs.Next.{bit_at, next}
use Rattle.search.proofs.Least.{Unmarked, next_none, unmarked_tally}
use Rattle.search.proofs.Reading.{file_next}
use Rattle.rtm1.specs.Visit.{Placed, here, run, point_in}
use Rattle.rtm1.specs.Build.{scratch_words}
use Rattle.rtm1.proofs.Visit.{run_first, run_none}
use Rattle.runs.specs.declared.Form.{Form}
use Rattle.runs.specs.declared.Run.{Run}
use Rattle.runs.specs.declared.Form.TheVariants.{Marks, Words}
use Rattle.runs.specs.Runs.{placed_at, placed, form_of, room_of, Held, Ready, Ran}

-- a grid has at most 256 cells along an axis
pub grid_few : {form : Form} {words f : List ℕ} {g : ℕ} → Ready form words f g → g ≤ 256
grid_few {form} {words} {f} {g} h = rw h.gridded (accepted f h.accepted).grid_few

-- what the words hold, by their form
pub marks_held : {form : Form} {words f : List ℕ} {g : ℕ} → Ready form words f g → form ≡ Marks → Held Marks words f
marks_held {form} {words} {f} {g} h e = subst (λ (form : Form). Held form words f) e h.held

pub words_held : {form : Form} {words f : List ℕ} {g : ℕ} → Ready form words f g → form ≡ Words → Held Words words f
words_held {form} {words} {f} {g} h e = subst (λ (form : Form). Held form words f) e h.held

pub length_placed : (f : List ℕ) (z y i k : ℕ) → length (placed f z y i k) ≡ k
unfolding placed
length_placed f z y i zero = refl
length_placed f z y i (suc k) = ap suc (length_placed f z y (suc i) k)

fields_at : (f : List ℕ) (at : ℕ) (m : Masses) (x a b : ℕ) → at + 8 ≡ a → at + 12 ≡ b → (point_at f at).x ≡ x → masses_of (point_at f at) ≡ m
    → (word16 f at ≡ x) × (word32 f a ≡ m.cauchy) × (word32 f b ≡ m.elliptic)
unfolding masses_of point_at
fields_at f at m x a b ea eb ex e = (ex, rw (← ea) (ap (λ (v : Masses). v.cauchy) e), rw (← eb) (ap (λ (v : Masses). v.elliptic) e))

-- a record's point, from the cell that holds it
module _ (f : List ℕ) (ok : file_cause f ≡ 0) (x y z i : ℕ) (m : Masses) (low : Inside (grid f) x y z) (q : look f (cell (grid f) x y z) ≡ held i m) where
  at_index : HeldAt f (grid f) 64 0 (count f) (cell (grid f) x y z) i m
  at_index = held_at f (grid f) 64 0 (count f) (cell (grid f) x y z) i m (unfold look points in q)

  there : point_at f (64 + 16 * (i - 0)) ≡ point_at f (64 + 16 * i)
  there = ap (λ (k : ℕ). point_at f (64 + 16 * k)) (sub-zero i)

  in_grid_law : Inside (grid f) (point_at f (64 + 16 * i)).x (point_at f (64 + 16 * i)).y (point_at f (64 + 16 * i)).z
  in_grid_law = inside_at (grid f) f (64 + 16 * i) (count f) i (point_at f (64 + 16 * i)) (unfold points in accepted_points f ok) refl (omega (arith, at_index.before)) refl

  same_x : (point_at f (64 + 16 * i)).x ≡ x
  same_x =
      let g = grid f in
      let p = point_at f (64 + 16 * i) in
      let names : (p.z * g + p.y) * g + p.x ≡ (z * g + y) * g + x = unfold cell_of cell in sym (ap (cell_of g) there) ∙ at_index.names in
      sym (digits_mod (p.z * g + p.y) in_grid_law.x_low) ∙ ap (λ (n : ℕ). n % g) names ∙ digits_mod (z * g + y) low.x_low

  pub the_point : here x y z (look f (cell (grid f) x y z)) ≡ placed_at f z y i ∷ []
  the_point =
      let has : masses_of (point_at f (64 + 16 * i)) ≡ m = sym (ap masses_of there) ∙ at_index.has in
      let at = fields_at f (64 + 16 * i) m x (72 + 16 * i) (76 + 16 * i) (omega arith) (omega arith) same_x has in
      rw (q, at.0, at.1, at.2)

-- a row
module _ (f : List ℕ) (ok : file_cause f ≡ 0) (works : work_cause f ≡ 0) (y z : ℕ) (yl : y < grid f) (zl : z < grid f) where
  pub row_run : (x w : ℕ) → x + w ≤ grid f
      → run (point_in (look f) (grid f) z y) x w ≡ placed f z y (tally (mark f) 0 (cell (grid f) x y z)) (tally (mark f) (cell (grid f) x y z) w)
  unfolding run placed tally
  row_run x zero h = refl
  row_run x (suc w) h = go (mass_map f c) refl (row_run (suc x) w (omega arith))
    where
      g : ℕ
      g = grid f

      c : ℕ
      c = cell g x y z

      low : Inside g x y z
      low = record { x_low = omega arith; y_low = yl; z_low = zl }

      behind : cell g (suc x) y z ≡ suc c
      behind = unfold cell in omega arith

      more : tally (mark f) 0 (suc c) ≡ tally (mark f) 0 c + mark f c
      more = ap (tally (mark f) 0) (sym (native.Mathlib.Numerals.add-one c)) ∙ tally_more (mark f) 0 c 1 ∙ (unfold tally in rw (zero-add c) (omega arith))

      found : look f c ≡ slot_at (tally (mark f) 0 c) (mass_map f c)
      found = look_marked f ok works c (cell_low g x y z low)

      go : (o : Option Masses) → mass_map f c ≡ o
          → run (point_in (look f) g z y) (suc x) w ≡ placed f z y (tally (mark f) 0 (cell g (suc x) y z)) (tally (mark f) (cell g (suc x) y z) w)
          → here x y z (look f c) ++ run (point_in (look f) g z y) (suc x) w ≡ placed f z y (tally (mark f) 0 c) (mark f c + tally (mark f) (suc c) w)
      go none e ih =
          let vac : look f c ≡ vacant = found ∙ ap (slot_at (tally (mark f) 0 c)) e ∙ (unfold slot_at in refl) in
          let no : mark f c ≡ 0 = unfold mark in ap one e ∙ (unfold one in refl) in
          let same : tally (mark f) 0 (suc c) ≡ tally (mark f) 0 c = omega (arith, more, no) in
          rw (vac, no, zero-add (tally (mark f) (suc c) w)) (ih ∙ rw (behind, same))
      go (some m) e ih =
          let has : look f c ≡ held (tally (mark f) 0 c) m = found ∙ ap (slot_at (tally (mark f) 0 c)) e ∙ (unfold slot_at in refl) in
          let yes : mark f c ≡ 1 = unfold mark in ap one e ∙ (unfold one in refl) in
          let next : tally (mark f) 0 (suc c) ≡ suc (tally (mark f) 0 c) = omega (arith, more, yes) in
          let rest : run (point_in (look f) g z y) (suc x) w ≡ placed f z y (suc (tally (mark f) 0 c)) (tally (mark f) (suc c) w) = ih ∙ rw (behind, next) in
          let count : mark f c + tally (mark f) (suc c) w ≡ suc (tally (mark f) (suc c) w) = omega (arith, yes) in
          rw (the_point f ok x y z (tally (mark f) 0 c) m low has, rest, count) (unfold placed in refl)

-- ---- what a run comes to

pub few : (g : ℕ) (x w y z : ℕ) → y < g → z < g → x + w ≤ g → cell g x y z + w ≤ cube g
unfolding cell cube
few g x w y z yl zl h =
    let row : z * g + y < g * g = digits_lt zl yl in
    let up : (z * g + y + 1) * g ≤ g * g * g = mul-le-mul_right g (omega (arith, row)) in
    let apart : (z * g + y + 1) * g ≡ (z * g + y) * g + g = add-mul (z * g + y) 1 g ∙ ap (λ (n : ℕ). (z * g + y) * g + n) (one-mul g) in
    omega (arith, up, apart)

module _ (f : List ℕ) (ok : file_cause f ≡ 0) (works : work_cause f ≡ 0) (g : ℕ) (eg : g ≡ grid f) (x x1 y z : ℕ) (xl : x < x1) (xh : x1 ≤ g) (yl : y < g) (zl : z < g) where
  row_is : run (point_in (look f) g z y) x (x1 - x) ≡ placed f z y (tally (mark f) 0 (cell g x y z)) (tally (mark f) (cell g x y z) (x1 - x))
  row_is =
      let h : x + (x1 - x) ≤ grid f = omega (arith, eg) in
      rw eg (row_run f ok works y z (omega (arith, eg)) (omega (arith, eg)) x (x1 - x) h)

  all_counted : (k : ℕ) → k ≤ cube g → tally (mark f) 0 k ≤ count f
  all_counted k h =
      let split : k + (cube g - k) ≡ cube g = omega arith in
      let sum = tally_more (mark f) 0 k (cube g - k) in
      let all : tally (mark f) 0 (cube g) ≡ count f = rw eg (tally_records f 0 (cube (grid f)) ∙ (unfold occupied occupied_of records in working_count f ok works)) in
      omega (arith, rw split at sum, all)

  behind_none : run (point_in (look f) g z y) x1 (x1 - x1) ≡ []
  behind_none = run_none (point_in (look f) g z y) x1 x1 (omega arith)

  -- from the row's first cell up to its end
  pub marked_row : (c index count : ℕ) → c ≡ cell g x y z → index ≡ tally (mark f) 0 c → count ≡ tally (mark f) c (x1 - x)
      → Ran f g z y x x1 (record { index = index; count = count; next = x1 })
  marked_row c index count ec start all =
      let sum : tally (mark f) 0 (c + (x1 - x)) ≡ tally (mark f) 0 c + tally (mark f) c (x1 - x) = tally_more (mark f) 0 c (x1 - x) ∙ rw (zero-add c) in
      record {
        points = rw (behind_none, append-nil, all, start, ec) row_is;
        on = xl;
        in_row = omega arith;
        in_file = omega (arith, sum, start, all, all_counted (c + (x1 - x)) (omega (arith, ec, few g x (x1 - x) y z yl zl (omega arith))));
        fits = omega (arith, sum, start, all, tally_few f 0 (c + (x1 - x)), ec, few g x (x1 - x) y z yl zl (omega arith), cube_few g (rw eg (accepted f ok).grid_few));
      }

  -- where the search finds none
  pub marked_none : (c : ℕ) → c ≡ cell g x y z → Unmarked (mark f) c (c + (x1 - x)) → Ran f g z y x x1 (record { index = 0; count = 0; next = x1 })
  marked_none c ec free =
      let width : c + (x1 - x) - c ≡ x1 - x = omega arith in
      let no : tally (mark f) (cell g x y z) (x1 - x) ≡ 0 = rw (← ec, ← width) (unmarked_tally (mark f) c (c + (x1 - x)) free) in
      record {
        points = rw (behind_none, row_is, no) (unfold placed in refl);
        on = xl;
        in_row = omega arith;
        in_file = omega arith;
        fits = omega arith;
      }

-- no cell of the file from `first` up to `end` is occupied
pub miss_is : (words f : List ℕ) → Entered words f → (first end : ℕ) → end ≤ cube (grid f) → (r : Found ℕ) → r ≡ next (bit_at words) first end → r ≡ None → Unmarked (mark f) first end
miss_is words f d first end low r e q = (next_none (mark f) first end).0 (sym (file_next words f d first end low) ∙ sym e ∙ q)

-- the row's cells lie in the grid
pub row_fits : (f : List ℕ) (g : ℕ) (x x1 y z c : ℕ) → g ≡ grid f → c ≡ cell g x y z → x < x1 → x1 ≤ g → y < g → z < g → c + (x1 - x) ≤ cube (grid f)
row_fits f g x x1 y z c eg ec xl xh yl zl = rw (← eg) (omega (arith, ec, few g x (x1 - x) y z yl zl (omega arith)))

-- ---- a word per cell

module _ (f : List ℕ) (ok : file_cause f ≡ 0) (g : ℕ) (eg : g ≡ grid f) (x x1 y z : ℕ) (xl : x < x1) (xh : x1 ≤ g) (yl : y < g) (zl : z < g) (w : ℕ) (ew : w ≡ slot_word (look f (cell g x y z))) where
  pub worded_none : w ≡ 0 → Ran f g z y x x1 (record { index = 0; count = 0; next = x + 1 })
  unfolding placed
  worded_none e =
      record {
        points = run_first (point_in (look f) g z y) x1 x xl ∙ ap (λ (l : List Placed). l ++ run (point_in (look f) g z y) (x + 1) (x1 - (x + 1))) (go (look f (cell g x y z)) (sym ew ∙ e));
        on = omega arith;
        in_row = omega arith;
        in_file = omega arith;
        fits = omega arith;
      }
    where
      go : (s : Slot) → slot_word s ≡ 0 → here x y z s ≡ []
      go vacant d = refl
      go (held i m) d = absurd (let one : suc i ≡ 0 = unfold slot_word in d in omega arith)

  pub worded_one : (w ≡ 0 → ⊥) → w < 4294967296 → Ran f g z y x x1 (record { index = w - 1; count = 1; next = x + 1 })
  unfolding placed
  worded_one some_word fit = go (look f (cell g x y z)) refl
    where
      go : (s : Slot) → look f (cell g x y z) ≡ s → Ran f g z y x x1 (record { index = w - 1; count = 1; next = x + 1 })
      go vacant q = absurd (some_word (ew ∙ (ap slot_word q ∙ (unfold slot_word in refl))))
      go (held i m) q =
          let word : w ≡ suc i = ew ∙ ap slot_word q ∙ (unfold slot_word in refl) in
          let index : i ≡ w - 1 = omega arith in
          let low : Inside (grid f) x y z = record { x_low = omega (arith, eg); y_low = omega (arith, eg); z_low = omega (arith, eg) } in
          let at : look f (cell (grid f) x y z) ≡ held i m = ap (λ (k : ℕ). look f (cell k x y z)) (sym eg) ∙ q in
          let point : here x y z (look f (cell g x y z)) ≡ placed_at f z y i ∷ [] = ap (λ (k : ℕ). here x y z (look f (cell k x y z))) eg ∙ the_point f ok x y z i m low at in
          record {
            points = run_first (point_in (look f) g z y) x1 x xl ∙ ap (λ (l : List Placed). l ++ run (point_in (look f) g z y) (x + 1) (x1 - (x + 1))) (point ∙ ap (λ (k : ℕ). placed_at f z y k ∷ []) index);
            on = omega arith;
            in_row = omega arith;
            in_file = omega (arith, index, (at_index f ok x y z i m low at).before);
            fits = omega (arith, fit, some_word);
          }

module _ (f : List ℕ) (g z y x x1 : ℕ) where
  -- up to `at` a row has no points
  pub record Passed (at : ℕ) : Type 0 where
    pub points : run (point_in (look f) g z y) x (x1 - x) ≡ run (point_in (look f) g z y) at (x1 - at)
    pub on : x ≤ at

  -- an empty cell
  pub passed_none : (at : ℕ) → Passed at → Ran f g z y at x1 (record { index = 0; count = 0; next = at + 1 }) → Passed (at + 1)
  unfolding placed
  passed_none at d r = record { points = d.points ∙ r.points; on = omega (arith, d.on) }

  -- the first empty cell
  pub passed_first : Ran f g z y x x1 (record { index = 0; count = 0; next = x + 1 }) → Passed (x + 1)
  passed_first r = passed_none x (record { points = refl; on = omega arith }) r

  -- no point at all
  pub passed_end : (at : ℕ) → Passed at → x < x1 → x1 ≤ at → Ran f g z y x x1 (record { index = 0; count = 0; next = x1 })
  unfolding placed
  passed_end at d low high =
      let row = point_in (look f) g z y in
      record { points = d.points ∙ run_none row x1 at high ∙ sym (run_none row x1 x1 (omega arith)); on = low; in_row = omega arith; in_file = omega arith; fits = omega arith }

  -- what runs from there runs from x
  pub passed_run : (at : ℕ) → Passed at → (r : Run) → Ran f g z y at x1 r → Ran f g z y x x1 r
  passed_run at d r e = record { points = d.points ∙ e.points; on = omega (arith, d.on, e.on); in_row = e.in_row; in_file = e.in_file; fits = e.fits }

-- the row's cells by its first one
pub row_cell : (g x y z c : ℕ) → c ≡ cell g 0 y z → c + x ≡ cell g x y z
unfolding cell
row_cell g x y z c e = omega (arith, e)

-- a cell of the row lies in the words, and its number fits
pub row_in : {form : Form} {words f : List ℕ} {g : ℕ} → Ready form words f g → form ≡ Words → (x x1 y z c : ℕ) → c ≡ cell g 0 y z → x < x1 → x1 ≤ g → y < g → z < g
    → (c + x < cube (grid f)) × (cube (grid f) ≤ length words) × (c + x < 4294967296)
row_in {form} {words} {f} {g} h e x x1 y z c ec xl xh yl zl =
    let low = row_fits f g x x1 y z (c + x) h.gridded (row_cell g x y z c ec) xl xh yl zl in
    (omega (arith, low, xl), (words_held h e).room, omega (arith, low, cube_few (grid f) (accepted f h.accepted).grid_few))

-- the word of a cell of the row
pub row_word : {form : Form} {words f : List ℕ} {g : ℕ} → Ready form words f g → form ≡ Words → (x x1 y z c : ℕ) → c ≡ cell g 0 y z → x < x1 → x1 ≤ g → y < g → z < g
    → get_or words (c + x) 0 ≡ slot_word (look f (cell g x y z))
row_word {form} {words} {f} {g} h e x x1 y z c ec xl xh yl zl =
    (words_held h e).each (c + x) (row_in h e x x1 y z c ec xl xh yl zl).0 ∙ ap (λ (k : ℕ). slot_word (look f k)) (row_cell g x y z c ec)

-- ---- forms

pub form_marks : (f : List ℕ) → work_cause f ≡ 0 → Marks ≡ form_of f
unfolding form_of
form_marks f e = rw (eq-eqb (work_cause f) 0 e)

pub form_words : (f : List ℕ) → (work_cause f ≡ 0 → ⊥) → Words ≡ form_of f
unfolding form_of
form_words f h = go (eqb (work_cause f) 0) (λ t. h (eqb-true (work_cause f) 0 t))
  where
    go : (b : Bool) → (b ≡ true → ⊥) → Words ≡ cond b Marks Words
    go true n = absurd (n refl)
    go false n = refl

not_words : Marks ≡ Words → ⊥
not_words e = let z : ◌≡◌ {A = ℕ} 0 1 = cc in omega arith

pub marks_works : (f : List ℕ) → Marks ≡ form_of f → work_cause f ≡ 0
unfolding form_of
marks_works f e = go (eqb (work_cause f) 0) (λ t. eqb-true (work_cause f) 0 t) e
  where
    go : (b : Bool) → (b ≡ true → work_cause f ≡ 0) → Marks ≡ cond b Marks Words → work_cause f ≡ 0
    go true h d = h refl
    go false h d = absurd (not_words d)

pub room_is : (f : List ℕ) → room_of (form_of f) (grid f) ≡ scratch_words f
unfolding form_of room_of scratch_words
room_is f = go (eqb (work_cause f) 0)
  where
    go : (b : Bool) → room_of (cond b Marks Words) (grid f) ≡ cond b (2 * groups (cube (grid f))) (cube (grid f))
    go true = refl
    go false = refl
