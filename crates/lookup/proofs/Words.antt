-- Laws of the lookup in lent words: each record that is entered counts over the earlier ones, and the words that are not 0 are the occupied cells. Assumes nothing.
use Prim.Native.Nat.{ℕ, zero, suc, ◌+◌, ◌-◌, ◌*◌, ◌≤◌, ◌<◌}
use mathlib.Core.Path.{◌≡◌, refl, sym, ap, ◌∙◌}
use mathlib.Core.Bool.{Bool, true, false, not}
use mathlib.Core.List.{List, []}
use native.Mathlib.Nat.{sub-zero}
use native.Mathlib.Numerals.{add-one}
use native.Mathlib.Decide.{ℕ_discrete}
use borrow.Author.Tests.{ne_eqb}
use native.Mathlib.Omega.{arith}
use lib.ListN.{length, get_or, set, take, length-set, length-append}
use lib.Seq.{get_or-set_same, get_or-set_other}
use Rattle.rym1.specs.File.{grid, count, point_at, points_at, points, cell_of, cube}
use Rattle.rym1.specs.Cells.{Slot, vacant, held, named, later, look_from, look, masses_in, mass_map, at_cell, records_from, records}
use Rattle.rym1.specs.Open.{occupied, occupied_of}
use Rattle.rym1.proofs.Cells.{named_same, named_other, records_more}
use Rattle.lookup.specs.Lookup.{slot_word, Looked}
use Rattle.std.proofs.Common.{◌==◌, count_by}
use Rattle.std.proofs.lemmas.List.Sums.{count_by_more_no, count_by_more_yes}

-- ---- records, entered one after the other

-- a later word over an earlier one
unfoldable pub over : ℕ → ℕ → ℕ
over zero w = w
over (suc k) w = suc k

over_zero : (k : ℕ) → over k 0 ≡ k
unfolding over
over_zero zero = refl
over_zero (suc k) = refl

over_over : (a b c : ℕ) → over (over a b) c ≡ over a (over b c)
unfolding over
over_over zero b c = refl
over_over (suc a) b c = refl

over_later : (a b : Slot) → slot_word (later a b) ≡ over (slot_word a) (slot_word b)
unfolding over slot_word later
over_later vacant b = refl
over_later (held i m) b = refl

-- what is entered, under what is still to come, is the file's lookup; i of n records are entered
pub record Entering (words f : List ℕ) (g i n : ℕ) : Type 0 where
  pub room : cube g ≤ length words
  pub each : (c : ℕ) → c < cube g → over (slot_word (look_from g i (points_at f (64 + 16 * i) (n - i)) c)) (get_or words c 0) ≡ slot_word (look f c)

pub enter_start : (words f : List ℕ) (g n : ℕ) → g ≡ grid f → n ≡ count f → cube g ≤ length words → ((c : ℕ) → c < cube g → get_or words c 0 ≡ 0) → Entering words f g 0 n
enter_start words f g n eg en h all = record { room = h; each = λ c b. rw (all c b, sub-zero n, eg, en) (over_zero _ ∙ (unfold look points in refl)) }

pub enter_turn : (words f : List ℕ) (g i n c : ℕ) → i < n → c ≡ cell_of g (point_at f (64 + 16 * i)) → c < cube g
    → Entering words f g i n → Entering (set words c (i + 1)) f g (i + 1) n
enter_turn words f g i n c h e low d =
    record {
      room = rw (length-set words c (i + 1)) d.room;
      each = λ k b. step k b ∙ d.each k b;
    }
  where
    one_less : n - i ≡ suc (n - (i + 1))
    one_less = omega arith

    behind : 64 + 16 * (i + 1) ≡ 64 + 16 * i + 16
    behind = omega arith

    stored : (k : ℕ) → k < cube g → get_or (set words c (i + 1)) k 0 ≡ over (slot_word (named g i (point_at f (64 + 16 * i)) k)) (get_or words k 0)
    stored k b = elim (ℕ_discrete k c) [
      | yes s ↦
          rw (named_same g i (point_at f (64 + 16 * i)) k (sym e ∙ sym s), s) (get_or-set_same words c (i + 1) 0 (omega (arith, low, d.room)) ∙ add-one i ∙ (unfold slot_word over in refl))
      | no s ↦
          rw (named_other g i (point_at f (64 + 16 * i)) k (λ t. s (sym t ∙ sym e))) (get_or-set_other words c k (i + 1) 0 s ∙ (unfold slot_word over in refl))
    ]

    step : (k : ℕ) → k < cube g
        → over (slot_word (look_from g (i + 1) (points_at f (64 + 16 * (i + 1)) (n - (i + 1))) k)) (get_or (set words c (i + 1)) k 0)
        ≡ over (slot_word (look_from g i (points_at f (64 + 16 * i) (n - i)) k)) (get_or words k 0)
    step k b = unfold look_from points_at in
        rw (stored k b, behind, one_less, over_later, over_over, add-one i)

pub enter_end : (words f : List ℕ) (g i n : ℕ) → g ≡ grid f → n ≤ i → Entering words f g i n → Looked words f
enter_end words f g i n eg e d = record { room = rw eg at d.room; each = λ c b. none_left c ∙ d.each c (rw eg b) }
  where
    none_left : (c : ℕ) → get_or words c 0 ≡ over (slot_word (look_from g i (points_at f (64 + 16 * i) (n - i)) c)) (get_or words c 0)
    none_left c =
        let none : n - i ≡ 0 = omega arith in
        rw none (unfold points_at look_from slot_word over in refl)

-- ---- words that are not 0: the occupied cells

abbrev pub is_some : ℕ → Bool
is_some w = not (w == 0)

module _ (words f : List ℕ) (d : Looked words f) (k : ℕ) (low : k < cube (grid f)) (before : count_by is_some (take k words) ≡ length (records_from (grid f) (mass_map f) 0 k)) where
  longer : length (records_from (grid f) (mass_map f) 0 (k + 1)) ≡ length (records_from (grid f) (mass_map f) 0 k) + length (at_cell (grid f) k (mass_map f k) [])
  longer = ap length (records_more (grid f) (mass_map f) k) ∙ length-append (records_from (grid f) (mass_map f) 0 k) (at_cell (grid f) k (mass_map f k) [])

  there : k < length words
  there = omega (arith, d.room)

  one_further : (s : Slot) → look f k ≡ s → get_or words k 0 ≡ slot_word s → count_by is_some (take (k + 1) words) ≡ length (records_from (grid f) (mass_map f) 0 (k + 1))
  one_further vacant q e =
      let no : is_some (get_or words k 0) ≡ false = rw e (unfold slot_word in refl) in
      let none : length (at_cell (grid f) k (mass_map f k) []) ≡ 0 = unfold mass_map in rw q (unfold masses_in at_cell in refl) in
      omega (arith, before, longer, none, count_by_more_no is_some words k 0 there no)
  one_further (held i m) q e =
      let yes : is_some (get_or words k 0) ≡ true = ap not (ne_eqb (get_or words k 0) 0 (λ z. let more : suc i ≡ 0 = unfold slot_word in sym e ∙ z in omega arith)) in
      let one : length (at_cell (grid f) k (mass_map f k) []) ≡ 1 = unfold mass_map in rw q (unfold masses_in at_cell in refl) in
      omega (arith, before, longer, one, count_by_more_yes is_some words k 0 there yes)

marked_below : (words f : List ℕ) → Looked words f → (k : ℕ) → k ≤ cube (grid f)
    → count_by is_some (take k words) ≡ length (records_from (grid f) (mass_map f) 0 k)
marked_below words f d zero h = unfold records_from in refl
marked_below words f d (suc k) h =
    rw (← add-one k) (one_further words f d k (omega arith) (marked_below words f d k (omega arith)) (look f k) refl (d.each k (omega arith)))

pub marked_occupied : (words f : List ℕ) (n : ℕ) → Looked words f → n ≡ cube (grid f) → count_by is_some (take n words) ≡ occupied f
unfolding occupied occupied_of records
marked_occupied words f n d en = rw en (marked_below words f d (cube (grid f)) (omega arith))
