-- The two buffers and the register: the relation that holds between calls, what follows from it, and that each call keeps it. Assumes nothing.
use Prim.Native.Nat.{ℕ, zero, suc, ◌+◌, ◌*◌, ◌≤◌, ◌<◌}
use mathlib.Core.Path.{◌≡◌, refl, sym, ap, ◌∙◌, subst, subst₂}
use mathlib.Core.Bool.{not, ◌&&◌, ◌||◌}
use mathlib.Core.Option.{Option, none, some}
use mathlib.Core.List.{List, [], ◌∷◌, ◌++◌}
use native.Mathlib.Decide.{ℕ_discrete}
use native.Mathlib.Numerals.{add-one}
use native.Mathlib.Omega.{arith}
use lib.ListN.{length, take, drop, length-append, length-drop, take-append-drop}
use lib.Seq.{length-take-le}
use lib.Dec.{eqb, ltb}
use borrow.Author.Tests.{ltb-false, le-ltb, eqb-false, ne_eqb}
use Rattle.rym1.specs.Causes.{when, first, Outcome, outcome, refuse}
use Rattle.rym1.specs.File.{grid, count, size, cell, cube, place_cause, mass_cause, file_cause}
use Rattle.rym1.specs.Cells.{Masses, Map, look, records}
use Rattle.rym1.specs.Open as files
use Rattle.rym1.specs.Open.{Buffers, both}
use Rattle.rym1.specs.Journal as words
use Rattle.rym1.specs.Journal.{entries, entry_at, most, journal_cause, push_cause, last_entry}
use Rattle.rym1.specs.Edits as edits
use Rattle.rym1.specs.Edits.{change, buffers_cause, room_cause, is_vacant, put_words, put_cause, remove_words, remove_cause, entry_cause, before, undo_cause, edited}
use Rattle.rym1.proofs.Causes.{or_false_l, or_false_r, when_zero, first_zero_l, first_zero_r, first_none}
use Rattle.rym1.proofs.Accepted.{Finite, inside, are_finite}
use Rattle.rym1.proofs.Cells.{AllFinite, slot_at, cube_few, cell_low}
use Rattle.rym1.proofs.Changes.{Laid, laid_grid, laid_small, laid_count, laid_length, laid_look, laid_cause, laid_works, laid_taken, change_laid, change_length, lows}
use Rattle.rym1.proofs.Entries as journal-laws
use Rattle.rym1.proofs.Entries.{journal_fine, last_is}
use Rattle.register.specs.Register.{cell_at, update, Change, Register, one, population, Call, put, remove, undo, in_grid, is_mass, is_empty, no_entry, Told, unless, accept, become, pushed, popped, step}
use Rattle.register.specs.Demand.{act, working_file}
use Rattle.register.proofs.Plain.{population_is}
use Rattle.register.proofs.Words.{place_is, masses_are, vacant_is, first_same}
use Rattle.register.proofs.Stacks.{update_same, update_other, update_back, records_count, kind, cauchy_of, elliptic_of, words_of, entry_for, NotBoth, kind_low, length_entry, put_words_law, remove_words_law, before_is, entry_fine, back, stack_words, length_words, Chain}

-- ---- the relation

pub record Rel (s : Buffers) (r : Register) : Type 0 where
  -- the file: the header and the map's records, then a rest
  pub laid : Laid r.header r.cells s.file
  -- the journal: the stack's height, its words, then a rest
  pub jrest : List ℕ
  pub journal_is : s.journal ≡ length r.stack ∷ (stack_words r.cells r.stack ++ jrest)
  pub few : length r.stack ≤ 16777216
  -- the rooms
  pub file_room_law : length s.file ≡ r.file_room
  pub journal_room_law : length s.journal ≡ r.journal_room
  -- every entry can be undone
  pub chain : Chain (grid r.header) r.file_room r.cells r.stack

-- what a call answers and leaves, on both sides
abbrev pub Agree : Outcome Buffers → Told → Type 0
Agree o t = (o.answer ≡ t.answer) × Rel o.left t.next

agree_by : {o o' : Outcome Buffers} {t t' : Told} → o ≡ o' → t ≡ t' → Agree o' t' → Agree o t
agree_by e1 e2 x = subst₂ Agree (sym e1) (sym e2) x

-- a refusal by the same cause on both sides
agree_refuse : (k k' : ℕ) (s : Buffers) (r : Register) (o : Outcome Buffers) (t : Told) → k ≡ k' → Rel s r → (k' ≡ 0 → Agree o t) → Agree (refuse k s o) (unless k' r t)
unfolding refuse unless
agree_refuse k k' s r o t e R h = subst (λ (n : ℕ). Agree (refuse n s o) (unless k' r t)) (sym e) (go k' h)
  where
    go : (n : ℕ) → (n ≡ 0 → Agree o t) → Agree (refuse n s o) (unless n r t)
    go zero h = h refl
    go (suc n) h = (refl, R)

module _ (s : Buffers) (r : Register) (R : Rel s r) where
  abbrev g : ℕ
  g = grid r.header

  -- ---- the file

  pub grid_is : grid s.file ≡ grid r.header
  grid_is = laid_grid r.header r.cells s.file R.laid

  pub count_is : count s.file ≡ population r
  count_is = laid_count r.header r.cells s.file R.laid ∙ sym (population_is r)

  pub builds : file_cause s.file ≡ 0
  builds = laid_cause r.header r.cells s.file R.laid

  pub working_is : working_file s.file ≡ files.file_of r.header (records (grid r.header) r.cells)
  unfolding working_file size
  working_is = laid_taken r.header r.cells s.file R.laid

  look_is : (c : ℕ) → c < cube g → look s.file c ≡ slot_at (length (lows g r.cells c)) (r.cells c)
  look_is c low = laid_look r.header r.cells s.file R.laid c low

  has_room : size (length (records g r.cells)) ≤ r.file_room
  has_room = omega (arith, laid_length r.header r.cells s.file R.laid, R.file_room_law)

  -- ---- the journal

  pub height : entries s.journal ≡ length r.stack
  height = rw R.journal_is (journal-laws.entries_is (length r.stack) R.few _)

  words_are : r.journal_room ≡ 1 + 3 * length r.stack + length R.jrest
  words_are =
      sym R.journal_room_law ∙ ap length R.journal_is
      ∙ omega (arith, length-append (stack_words r.cells r.stack) R.jrest, length_words r.cells r.stack)

  -- ---- causes

  buffers_fine : buffers_cause s.file s.journal ≡ 0
  unfolding buffers_cause
  buffers_fine =
      let journal : journal_cause s.journal ≡ 0 =
      rw R.journal_is (journal_fine (length r.stack) R.few (stack_words r.cells r.stack) (length_words r.cells r.stack) R.jrest) in
      first_none _ _ builds ∙ first_none _ _ (laid_works r.header r.cells s.file R.laid) ∙ journal

  push_cause_law : push_cause s.journal ≡ no_entry r
  unfolding push_cause no_entry entry_at most
  push_cause_law =
      let next : 1 + 3 * suc (length r.stack) ≡ 4 + 3 * length r.stack = omega arith in
      rw (height, R.journal_room_law, next)

  room_cause_law : (c : ℕ) → c < cube g → room_cause s.file (look s.file c) ≡ when (is_empty (r.cells c) && ltb r.file_room (64 + 16 * (population r + 1))) 14
  unfolding room_cause size
  room_cause_law c low =
      rw (look_is c low, vacant_is (length (lows g r.cells c)) (r.cells c), R.file_room_law, count_is, add-one (population r))

  -- ---- a change of one cell

  module _ (c : ℕ) (o : Option Masses) (low : c < cube g) (room : size (length (records g (update r.cells c o))) ≤ r.file_room) where
    fits : size (length (records g (update r.cells c o))) ≤ length s.file
    fits = rw R.file_room_law room

    file_after : AllFinite (update r.cells c o) → Laid r.header (update r.cells c o) (change s.file c o)
    file_after all =
        change_laid r.header r.cells s.file R.laid (update r.cells c o) c o low (update_same r.cells c o) (update_other r.cells c o) fits all

    room_after : length (change s.file c o) ≡ r.file_room
    room_after =
        change_length r.header r.cells s.file R.laid (update r.cells c o) c o low (update_same r.cells c o) (update_other r.cells c o) fits ∙ R.file_room_law

    answer_after : AllFinite (update r.cells c o) → (es : List Change)
        → size (count (change s.file c o)) ≡ 64 + 16 * population (become r (update r.cells c o) es)
    unfolding size become
    answer_after all es =
        rw (laid_count r.header (update r.cells c o) (change s.file c o) (file_after all), population_is (become r (update r.cells c o) es))

  -- ---- push

  -- the stack with what cell c held on top
  abbrev top : ℕ → Change
  top c = record { cell = c; held = r.cells c }

  back_is : (c : ℕ) (o : Option Masses) → back (update r.cells c o) (top c) ≡ r.cells
  unfolding back
  back_is c o = update_back r.cells c o

  finite_after : (c : ℕ) (o : Option Masses) → ((m : Masses) → o ≡ some m → Finite m.cauchy m.elliptic) → AllFinite (update r.cells c o)
  finite_after c o new k m e = elim (ℕ_discrete k c) [
    | yes i ↦ new m (sym (update_same r.cells c o) ∙ (rw i at e))
    | no i ↦ R.laid.finite k m (sym (update_other r.cells c o k i) ∙ e)
  ]

  -- room for three words more, and a height below the most
  free_words : no_entry r ≡ 0 → (4 + 3 * length r.stack ≤ r.journal_room) × (length r.stack < 16777216)
  unfolding no_entry
  free_words e =
      let n : ℕ = length r.stack in
      let neither = when_zero (ltb r.journal_room (4 + 3 * n) || eqb n 16777216) 12 e in
      let other : n ≡ 16777216 → ⊥ = eqb-false n 16777216 (or_false_r (ltb r.journal_room (4 + 3 * n)) (eqb n 16777216) neither) in
      (ltb-false r.journal_room (4 + 3 * n) (or_false_l (ltb r.journal_room (4 + 3 * n)) (eqb n 16777216) neither), omega (arith, R.few, other))

  pushed_rel : (c : ℕ) (o : Option Masses) (ws : List ℕ) → c < cube g → NotBoth (r.cells c) o → ((m : Masses) → o ≡ some m → Finite m.cauchy m.elliptic)
      → size (length (records g (update r.cells c o))) ≤ r.file_room → no_entry r ≡ 0 → ws ≡ words_of c (r.cells c) o
      → Agree (edited (change s.file c o) (words.pushed s.journal ws)) (accept (pushed r c o))
  unfolding edited outcome both accept pushed become
  pushed_rel c o ws low way new room free ew =
      let n : ℕ = length r.stack in
      let W : List ℕ = stack_words r.cells r.stack in
      let all : AllFinite (update r.cells c o) = finite_after c o new in
      let long : 3 ≤ length R.jrest = omega (arith, (free_words free).0, words_are) in
      let rest : List ℕ = drop 3 R.jrest in
      let lw : length ws ≡ 3 = ap length ew ∙ length_entry c (r.cells c) o in
      let parts : s.journal ≡ n ∷ (W ++ (take 3 R.jrest ++ rest)) = R.journal_is ∙ ap (λ (l : List ℕ). n ∷ (W ++ l)) (sym (take-append-drop 3 R.jrest)) in
      let after_push : words.pushed s.journal ws ≡ suc n ∷ ((W ++ ws) ++ rest) =
      ap (λ (j : List ℕ). words.pushed j ws) parts
      ∙ journal-laws.pushed_is n R.few W (length_words r.cells r.stack) (take 3 R.jrest) ws rest (length-take-le 3 R.jrest long) lw in
      let same-words : W ++ ws ≡ stack_words (update r.cells c o) (top c ∷ r.stack) = on_top c o ws ew in
      let same_length : length (words.pushed s.journal ws) ≡ r.journal_room =
      ap length after_push
      ∙ omega (arith, length-append (W ++ ws) rest, length-append W ws, length-drop 3 R.jrest, words_are, length_words r.cells r.stack) in (
        answer_after c o low room all (top c ∷ r.stack),
        record {
          laid = file_after c o low room all;
          jrest = rest;
          journal_is = after_push ∙ ap (λ (l : List ℕ). suc n ∷ (l ++ rest)) same-words;
          few = (free_words free).1;
          file_room_law = room_after c o low room;
          journal_room_law = same_length;
          chain = longer c o low way;
        },
      )
    where
      on_top : (c : ℕ) (o : Option Masses) (ws : List ℕ) → ws ≡ words_of c (r.cells c) o
          → stack_words r.cells r.stack ++ ws ≡ stack_words (update r.cells c o) (top c ∷ r.stack)
      on_top c o ws ew = unfold stack_words in rw (back_is c o, update_same r.cells c o, ew)

      longer : (c : ℕ) (o : Option Masses) → c < cube g → NotBoth (r.cells c) o → Chain g r.file_room (update r.cells c o) (top c ∷ r.stack)
      longer c o low way =
          let w : NotBoth (r.cells c) (update r.cells c o c) = rw (update_same r.cells c o) way in (
            low,
            w,
            rw (back_is c o) has_room,
            subst AllFinite (sym (back_is c o)) R.laid.finite,
            subst (λ (m : Map). Chain g r.file_room m r.stack) (sym (back_is c o)) R.chain,
          )

  -- ---- put

  put_room : (c : ℕ) (m : Masses) (now : Option Masses) → c < cube g → r.cells c ≡ now
      → when (is_empty now && ltb r.file_room (64 + 16 * (population r + 1))) 14 ≡ 0 → size (length (records g (update r.cells c (some m)))) ≤ r.file_room
  unfolding is_empty size one
  put_room c m none low e k =
      let enough = ltb-false r.file_room (64 + 16 * (population r + 1)) (when_zero _ 13 k) in
      omega (arith, enough, population_is r, records_count g r.cells c (some m) low, ap one e)
  put_room c m (some v) low e k = omega (arith, has_room, records_count g r.cells c (some m) low, ap one e)

  cell_is : (x y z : ℕ) → cell (grid s.file) x y z ≡ cell_at g x y z
  unfolding cell cell_at
  cell_is x y z = rw grid_is

  place_cause_law : (x y z : ℕ) → place_cause (grid s.file) x y z ≡ when (not (in_grid g x y z)) 6
  place_cause_law x y z = rw grid_is (place_is g x y z)

  in_cube : (x y z : ℕ) → when (not (in_grid g x y z)) 6 ≡ 0 → cell_at g x y z < cube g
  unfolding cell cell_at
  in_cube x y z k = cell_low g x y z (inside g x y z (place_is g x y z ∙ k))

  put_done : (c : ℕ) (m : Masses) → c < cube g → mass_cause m.cauchy m.elliptic ≡ 0 → no_entry r ≡ 0
      → when (is_empty (r.cells c) && ltb r.file_room (64 + 16 * (population r + 1))) 14 ≡ 0
      → Agree (edited (change s.file c (some m)) (words.pushed s.journal (put_words c (look s.file c)))) (accept (pushed r c (some m)))
  put_done c m low sound free room =
      pushed_rel c (some m) (put_words c (look s.file c)) low (some_way (r.cells c))
      (λ n e. let same : m ≡ n = cc in subst (λ (v : Masses). Finite v.cauchy v.elliptic) same (are_finite m.cauchy m.elliptic sound))
      (put_room c m (r.cells c) low refl room) free
      (rw (look_is c low) (put_words_law c (length (lows g r.cells c)) (r.cells c) m))
    where
      some_way : (o : Option Masses) → NotBoth o (some m)
      some_way none = tt
      some_way (some v) = tt

  pub put_step : (x y z a b : ℕ) → Agree (edits.put s.file s.journal x y z a b) (step r (put x y z a b))
  unfolding edits.put put_cause step both
  put_step x y z a b =
      let c : ℕ = cell_at g x y z in
      let m : Masses = record { cauchy = a; elliptic = b } in
      let c6 : ℕ = when (not (in_grid g x y z)) 6 in
      let c7 : ℕ = when (not (is_mass a && is_mass b)) 7 in
      let c14 : ℕ = when (is_empty (r.cells c) && ltb r.file_room (64 + 16 * (population r + 1))) 14 in
      let room : c6 ≡ 0 → room_cause s.file (look s.file (cell (grid s.file) x y z)) ≡ c14 = λ k. rw (cell_is x y z) (room_cause_law c (in_cube x y z k)) in
      let cause : put_cause s.file s.journal x y z a b ≡ first c6 (first c7 (first (no_entry r) c14)) =
      first_none _ _ buffers_fine
      ∙ first_same _ c6 _ _ (place_cause_law x y z) (λ k. first_same _ c7 _ _ (masses_are a b) (λ k7. first_same _ (no_entry r) _ _ push_cause_law (λ k13. room k))) in
      agree_refuse (put_cause s.file s.journal x y z a b) (first c6 (first c7 (first (no_entry r) c14))) s r _ _ cause R
      (λ k.
      let k7 = first_zero_r c6 (first c7 (first (no_entry r) c14)) k in
      let k13 = first_zero_r c7 (first (no_entry r) c14) k7 in
      agree_by (rw (cell_is x y z)) refl
      (put_done c m (in_cube x y z (first_zero_l c6 (first c7 (first (no_entry r) c14)) k))
      (masses_are a b ∙ first_zero_l c7 (first (no_entry r) c14) k7) (first_zero_l (no_entry r) c14 k13) (first_zero_r (no_entry r) c14 k13)))

  -- ---- remove

  remove_done : (c : ℕ) (now : Option Masses) → r.cells c ≡ now → c < cube g → when (is_empty now) 12 ≡ 0 → no_entry r ≡ 0
      → Agree (edited (change s.file c none) (words.pushed s.journal (remove_words c (look s.file c)))) (accept (pushed r c none))
  unfolding is_empty when
  remove_done c none e low held free = absurd (omega arith)
  remove_done c (some m) e low held free =
      pushed_rel c none (remove_words c (look s.file c)) low (rw e tt) (λ n i. absurd (none_is i)) room free
      (rw (look_is c low, e) (remove_words_law c (length (lows g r.cells c)) m))
    where
      none_is : {n : Masses} → ◌≡◌ {A = Option Masses} none (some n) → ⊥
      none_is i = let z : ◌≡◌ {A = ℕ} 0 1 = cc in omega arith

      room : size (length (records g (update r.cells c none))) ≤ r.file_room
      room = unfold size one in omega (arith, has_room, records_count g r.cells c none low, ap one e)

  pub remove_step : (x y z : ℕ) → Agree (edits.remove s.file s.journal x y z) (step r (remove x y z))
  unfolding edits.remove remove_cause step both
  remove_step x y z =
      let c : ℕ = cell_at g x y z in
      let c6 : ℕ = when (not (in_grid g x y z)) 6 in
      let c12 : ℕ = when (is_empty (r.cells c)) 12 in
      let there : c6 ≡ 0 → when (is_vacant (look s.file (cell (grid s.file) x y z))) 12 ≡ c12 =
      λ k. rw (cell_is x y z, look_is c (in_cube x y z k), vacant_is (length (lows g r.cells c)) (r.cells c)) in
      let cause : remove_cause s.file s.journal x y z ≡ first c6 (first c12 (no_entry r)) =
      first_none _ _ buffers_fine ∙ first_same _ c6 _ _ (place_cause_law x y z) (λ k. first_same _ c12 _ _ (there k) (λ k12. push_cause_law)) in
      agree_refuse (remove_cause s.file s.journal x y z) (first c6 (first c12 (no_entry r))) s r _ _ cause R
      (λ k.
      let k12 = first_zero_r c6 (first c12 (no_entry r)) k in
      agree_by (rw (cell_is x y z)) refl
      (remove_done c (r.cells c) refl (in_cube x y z (first_zero_l c6 (first c12 (no_entry r)) k)) (first_zero_l c12 (no_entry r) k12) (first_zero_r c12 (no_entry r) k12)))

  -- ---- undo

  undo_none : r.stack ≡ [] → Agree (edits.undo s.file s.journal) (popped r [])
  unfolding edits.undo undo_cause popped both refuse first when
  undo_none q =
      let none_there : entries s.journal ≡ 0 = height ∙ ap length q in
      let cause : undo_cause s.file s.journal ≡ 15 = first_none _ _ buffers_fine ∙ rw none_there in
      agree_by (rw cause) refl (refl, R)

  module _ (e : Change) (es : List Change) (q : r.stack ≡ e ∷ es) where
    below : Chain g r.file_room r.cells (e ∷ es)
    below = rw q at R.chain

    high : suc (length es) ≤ 16777216
    high = rw q at R.few

    journal_open : s.journal ≡ suc (length es) ∷ ((stack_words (back r.cells e) es ++ words_of e.cell e.held (r.cells e.cell)) ++ R.jrest)
    unfolding stack_words
    journal_open = R.journal_is ∙ ap (λ (l : List Change). length l ∷ (stack_words r.cells l ++ R.jrest)) q

    last_entry_law : last_entry s.journal ≡ entry_for e.cell e.held (r.cells e.cell)
    unfolding words_of entry_for
    last_entry_law =
        let small : e.cell < 16777216 = omega (arith, below.0, cube_few g (laid_small r.header r.cells s.file R.laid)) in
        rw journal_open
        (last_is (length es) high (stack_words (back r.cells e) es) (length_words (back r.cells e) es) (kind e.held (r.cells e.cell)) e.cell
        (cauchy_of e.held) (elliptic_of e.held) R.jrest (kind_low e.held (r.cells e.cell)) small)

    held_finite : (m : Masses) → e.held ≡ some m → Finite m.cauchy m.elliptic
    unfolding back
    held_finite m i = below.3 e.cell m (update_same r.cells e.cell e.held ∙ i)

    -- 14 is not against it: the map before the call had room
    room_fine : (held now : Option Masses) → e.held ≡ held → r.cells e.cell ≡ now → room_cause s.file (slot_at (length (lows g r.cells e.cell)) now) ≡ 0
    unfolding room_cause slot_at is_vacant when size one back
    room_fine held (some v) i k = refl
    room_fine none none i k =
        let bad : NotBoth none none = rw (i, k) at below.1 in
        absurd bad
    room_fine (some m) none i k =
        let more = records_count g r.cells e.cell e.held below.0 in
        let enough : 64 + 16 * suc (count s.file) ≤ length s.file =
        omega (arith, R.file_room_law, count_is, population_is r, below.2, more, ap one i, ap one k) in
        rw (le-ltb (length s.file) (64 + 16 * suc (count s.file)) enough)

    undo_fine : undo_cause s.file s.journal ≡ 0
    unfolding undo_cause when
    undo_fine =
        let c : ℕ = e.cell in
        let i : ℕ = length (lows g r.cells c) in
        let there : entries s.journal ≡ suc (length es) = height ∙ ap length q in
        let cell-last : (last_entry s.journal).cell ≡ c = ap (λ (l : words.Entry). l.cell) last_entry_law ∙ (unfold entry_for in refl) in
        let found : look s.file (last_entry s.journal).cell ≡ slot_at i (r.cells c) = rw cell-last (look_is c below.0) in
        let entry : entry_cause (grid s.file) (last_entry s.journal) (look s.file (last_entry s.journal).cell) ≡ 0 =
        rw (found, last_entry_law, grid_is) (entry_fine g c i e.held (r.cells c) below.1 below.0 held_finite) in
        let room : room_cause s.file (look s.file (last_entry s.journal).cell) ≡ 0 = rw found (room_fine e.held (r.cells c) refl refl) in
        let some-there : when (eqb (entries s.journal) 0) 15 ≡ 0 = rw (ne_eqb (entries s.journal) 0 (λ z. omega arith)) in
        first_none _ _ buffers_fine ∙ first_none _ _ some-there ∙ first_none _ _ entry ∙ room

    undo_done : Agree (edited (change s.file e.cell e.held) (words.popped s.journal)) (accept (become r (update r.cells e.cell e.held) es))
    unfolding edited outcome both accept become back
    undo_done =
        let c : ℕ = e.cell in
        let W : List ℕ = stack_words (back r.cells e) es in
        let ws : List ℕ = words_of c e.held (r.cells c) in
        let lw : length ws ≡ 3 = length_entry c e.held (r.cells c) in
        let after-pop : words.popped s.journal ≡ length es ∷ (W ++ (0 ∷ 0 ∷ 0 ∷ R.jrest)) =
        ap words.popped journal_open ∙ journal-laws.popped_is (length es) high W (length_words (back r.cells e) es) ws R.jrest lw in
        let same_length : length (words.popped s.journal) ≡ length s.journal =
        ap length after-pop
        ∙ omega (arith, ap length journal_open, length-append W (0 ∷ 0 ∷ 0 ∷ R.jrest), length-append (W ++ ws) R.jrest, length-append W ws) in (
          answer_after c e.held below.0 below.2 below.3 es,
          record {
            laid = file_after c e.held below.0 below.2 below.3;
            jrest = 0 ∷ 0 ∷ 0 ∷ R.jrest;
            journal_is = after-pop;
            few = omega (arith, high);
            file_room_law = room_after c e.held below.0 below.2;
            journal_room_law = same_length ∙ R.journal_room_law;
            chain = below.4;
          },
        )

    undo_some : Agree (edits.undo s.file s.journal) (popped r (e ∷ es))
    unfolding edits.undo popped both refuse
    undo_some =
        let read : before (last_entry s.journal) ≡ e.held = ap before last_entry_law ∙ before_is e.cell e.held (r.cells e.cell) in
        let cell-last : (last_entry s.journal).cell ≡ e.cell = ap (λ (l : words.Entry). l.cell) last_entry_law ∙ (unfold entry_for in refl) in
        agree_by (rw (undo_fine, read, cell-last)) refl undo_done

  pub undo_step : Agree (edits.undo s.file s.journal) (step r undo)
  unfolding step
  undo_step = go r.stack refl
    where
      go : (es : List Change) → r.stack ≡ es → Agree (edits.undo s.file s.journal) (popped r es)
      go [] q = undo_none q
      go (e ∷ es) q = undo_some e es q

-- ---- any call

pub one_step : (s : Buffers) (r : Register) → Rel s r → (k : Call) → Agree (act s k) (step r k)
unfolding act
one_step s r R (put x y z a b) = put_step s r R x y z a b
one_step s r R (remove x y z) = remove_step s r R x y z
one_step s r R undo = undo_step s r R
