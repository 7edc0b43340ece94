-- Marks entered record by record, then the totals. One mark more: the word that has its cell grows by that cell's digit, and no other changes. Assumes nothing.
use Prim.Native.Nat.{ℕ, zero, suc, ◌+◌, ◌-◌, ◌*◌, ◌/◌, ◌%◌, ◌^◌, ◌≤◌, ◌<◌}
use mathlib.Core.Path.{◌≡◌, refl, sym, ap, ◌∙◌, fun_ext}
use mathlib.Core.Bool.{true, not}
use mathlib.Core.List.{List, ◌∷◌}
use native.Mathlib.Nat.{pow-suc, zero-add, sub-zero}
use native.Mathlib.Numerals.{add-one}
use native.Mathlib.Decide.{ℕ_discrete, dec_lt}
use native.Mathlib.Omega.{arith}
use lib.ListN.{length, get_or, set, length-set}
use lib.Seq.{get_or-set_same, get_or-set_other}
use lib.Dec.{eqb, leb}
use borrow.Author.Tests.{not-false}
use lib.Count.{ones}
use Rattle.rym1.specs.declared.Point.{Point}
use Rattle.rym1.specs.File.{grid, count, point_at, points_at, points, cell_of, cube, groups, file_cause, working, work_cause}
use Rattle.rym1.specs.Cells.{Slot, vacant, held, masses_of, later, look_from, look, masses_in, mass_map}
use Rattle.rym1.proofs.Accepted.{accepted}
use Rattle.rym1.proofs.Causes.{and_true_r, when_zero}
use Rattle.rym1.proofs.Cells.{cube_few, named_same, look_past, working_above}
use Rattle.marks.specs.Marks.{one, mark, tally, mark_word, Entered}
use Rattle.marks.proofs.Digits.{word_lt, ones_word, tally_more}
use Rattle.marks.proofs.Index.{mark_bit, tally_few, shifted, group_of}

module _ (p q : ℕ → ℕ) (a : ℕ) (here : q a ≡ p a + 1) (else : (i : ℕ) → (i ≡ a → ⊥) → q i ≡ p i) where
  pub word_kept : (c k : ℕ) → (a < c) → mark_word q c k ≡ mark_word p c k
  unfolding mark_word
  word_kept c zero h = refl
  word_kept c (suc k) h = rw (else c (λ e. omega arith), word_kept (suc c) k (omega arith))

  pub word_before : (c k : ℕ) → c + k ≤ a → mark_word q c k ≡ mark_word p c k
  unfolding mark_word
  word_before c zero h = refl
  word_before c (suc k) h = rw (else c (λ e. omega arith), word_before (suc c) k (omega arith))

  pub word_more : (c k : ℕ) → c ≤ a → a < c + k → mark_word q c k ≡ mark_word p c k + 2 ^ (a - c)
  unfolding mark_word
  word_more c zero l u = absurd (omega arith)
  word_more c (suc k) l u = elim (ℕ_discrete c a) [
    | yes e ↦
        let none : a - c ≡ 0 = omega arith in
        let this : q c ≡ p c + 1 = ap q e ∙ here ∙ ap (λ (n : ℕ). p n + 1) (sym e) in
        rw (none, this, word_kept (suc c) k (omega arith)) (omega arith)
    | no e ↦
        let more : a - c ≡ suc (a - suc c) = omega arith in
        rw (more, pow-suc 2 (a - suc c), else c e, word_more (suc c) k (omega arith) (omega arith)) (omega arith)
  ]

-- ---- marks, entered one after the other

-- the marks of the records that are still to come, i of n being entered
unfoldable pub coming : List ℕ → ℕ → ℕ → ℕ → ℕ → ℕ
coming f g i n c = one (masses_in (look_from g i (points_at f (64 + 16 * i) (n - i)) c))

-- what is entered, with what is still to come, is the file's marks; what is to come is in working form
pub record Entering (words f : List ℕ) (g i n : ℕ) : Type 0 where
  pub space : 2 * groups (cube g) ≤ length words
  pub each : (k : ℕ) → k < groups (cube g) → get_or words (2 * k) 0 + mark_word (coming f g i n) (32 * k) 32 ≡ mark_word (mark f) (32 * k) 32
  pub low : ℕ
  pub works : working g low (points_at f (64 + 16 * i) (n - i)) ≡ true

pub enter_start : (words f : List ℕ) (g n : ℕ) → work_cause f ≡ 0 → g ≡ grid f → n ≡ count f → 2 * groups (cube g) ≤ length words
    → ((k : ℕ) → k < 2 * groups (cube g) → get_or words k 0 ≡ 0) → Entering words f g 0 n
enter_start words f g n w eg en h all =
    record {
      space = h;
      each = λ k b. rw (all (2 * k) (omega arith), same) (zero-add _);
      low = 0;
      works = rw (sub-zero n, eg, en) (unfold points in in_form);
    }
  where
    each_same : (c : ℕ) → coming f g 0 n c ≡ mark f c
    each_same c = unfold coming mark mass_map look points in rw (sub-zero n, eg, en)

    same : coming f g 0 n ≡ mark f
    same = fun_ext (λ c. each_same c)

    in_form : working (grid f) 0 (points f) ≡ true
    in_form = unfold work_cause in not-false (working (grid f) 0 (points f)) (when_zero (not (working (grid f) 0 (points f))) 9 w)

behind_works : (g low : ℕ) (p : Point) (ps : List Point) → working g low (p ∷ ps) ≡ true → working g (suc (cell_of g p)) ps ≡ true
unfolding working
behind_works g low p ps w = and_true_r (eqb p.pad 0) _ (and_true_r (leb low (cell_of g p)) _ w)

alone : (g i : ℕ) (p : Point) (ps : List Point) (c : ℕ) → look_from g (suc i) ps c ≡ vacant → cell_of g p ≡ c → look_from g i (p ∷ ps) c ≡ held i (masses_of p)
unfolding look_from later
alone g i p ps c v e = rw (v, named_same g i p c e)

module _ (words f : List ℕ) (g i n c : ℕ) (h : i < n) (ec : c ≡ cell_of g (point_at f (64 + 16 * i))) (inside : c < cube g) (d : Entering words f g i n) where
  abbrev rest : List Point
  rest = points_at f (64 + 16 * (i + 1)) (n - (i + 1))

  is_cell : cell_of g (point_at f (64 + 16 * i)) ≡ c
  is_cell = sym ec

  first_is : points_at f (64 + 16 * i) (n - i) ≡ point_at f (64 + 16 * i) ∷ rest
  first_is =
      let more : n - i ≡ suc (n - (i + 1)) = omega arith in
      let behind : 64 + 16 * (i + 1) ≡ 64 + 16 * i + 16 = omega arith in
      rw (behind, more) (unfold points_at in refl)

  rest_works : working g (suc c) rest ≡ true
  rest_works =
      let all : working g d.low (point_at f (64 + 16 * i) ∷ rest) ≡ true = rw first_is at d.works in
      rw is_cell at (behind_works g d.low (point_at f (64 + 16 * i)) rest all)

  -- the record's cell is marked, and no later record names it
  here : coming f g i n c ≡ coming f g (i + 1) n c + 1
  unfolding coming masses_in one
  here =
      let above : look_from g (i + 1) rest c ≡ vacant = working_above g (i + 1) (suc c) rest c rest_works (omega arith) in
      let later-none : look_from g (suc i) rest c ≡ vacant = working_above g (suc i) (suc c) rest c rest_works (omega arith) in
      rw (first_is, above, alone g i (point_at f (64 + 16 * i)) rest c later-none is_cell)

  elsewhere : (k : ℕ) → (k ≡ c → ⊥) → coming f g i n k ≡ coming f g (i + 1) n k
  elsewhere k e = unfold coming in rw first_is (ap (λ (s : Slot). one (masses_in s)) (look_past g i (point_at f (64 + 16 * i)) rest k (λ t. e (sym t ∙ is_cell)) ∙ rw (add-one i)))

  abbrev word_at : ℕ
  word_at = c / 32

  in_words : word_at < groups (cube g)
  in_words = group_of (cube g) c inside

  grows : mark_word (coming f g i n) (32 * word_at) 32 ≡ mark_word (coming f g (i + 1) n) (32 * word_at) 32 + 2 ^ (c % 32)
  grows =
      let digit : c - 32 * word_at ≡ c % 32 = omega arith in
      rw digit at (word_more (coming f g (i + 1) n) (coming f g i n) c here elsewhere (32 * word_at) 32 (omega arith) (omega arith))

  pub word_there : 2 * word_at < length words
  word_there = omega (arith, in_words, d.space)

  -- nothing is carried
  pub mark_fits : get_or words (2 * word_at) 0 + 1 * 2 ^ (c % 32) % 4294967296 < 4294967296
  mark_fits =
      let most : mark_word (mark f) (32 * word_at) 32 < 4294967296 = word_lt (mark f) (mark_bit f) (32 * word_at) 32 in
      rw (shifted (c % 32) (omega arith)) (omega (arith, d.each word_at in_words, grows, most))

  pub enter_turn : Entering (set words (2 * word_at) (get_or words (2 * word_at) 0 + 1 * 2 ^ (c % 32) % 4294967296)) f g (i + 1) n
  enter_turn = rw (shifted (c % 32) (omega arith))
      (record {
        space = rw (length-set words (2 * word_at) _) d.space;
        each = λ k b. step k b;
        low = suc c;
        works = rest_works;
      })
    where
      step : (k : ℕ) → k < groups (cube g)
          → get_or (set words (2 * word_at) (get_or words (2 * word_at) 0 + 2 ^ (c % 32))) (2 * k) 0 + mark_word (coming f g (i + 1) n) (32 * k) 32 ≡ mark_word (mark f) (32 * k) 32
      step k b = elim (ℕ_discrete k word_at) [
        | yes e ↦
            rw (e, get_or-set_same words (2 * word_at) (get_or words (2 * word_at) 0 + 2 ^ (c % 32)) 0 word_there) (omega (arith, d.each word_at in_words, grows))
        | no e ↦
            rw (get_or-set_other words (2 * word_at) (2 * k) (get_or words (2 * word_at) 0 + 2 ^ (c % 32)) 0 (λ t. e (omega arith)))
            (ap (λ (m : ℕ). get_or words (2 * k) 0 + m) (sym (same k e)) ∙ d.each k b)
      ]
        where
          same : (k : ℕ) → (k ≡ word_at → ⊥) → mark_word (coming f g i n) (32 * k) 32 ≡ mark_word (coming f g (i + 1) n) (32 * k) 32
          same k e = elim (dec_lt k word_at) [
            | yes l ↦ word_before (coming f g (i + 1) n) (coming f g i n) c here elsewhere (32 * k) 32 (omega arith)
            | no l ↦ word_kept (coming f g (i + 1) n) (coming f g i n) c here elsewhere (32 * k) 32 (omega arith)
          ]

none_coming : (p : ℕ → ℕ) → ((c : ℕ) → p c ≡ 0) → (c k : ℕ) → mark_word p c k ≡ 0
unfolding mark_word
none_coming p all c zero = refl
none_coming p all c (suc k) = rw (all c, none_coming p all (suc c) k)

none_behind : (f : List ℕ) (g i n c : ℕ) → n ≤ i → coming f g i n c ≡ 0
unfolding coming points_at look_from masses_in one
none_behind f g i n c h = let no : n - i ≡ 0 = omega arith in ap (λ (k : ℕ). one (masses_in (look_from g i (points_at f (64 + 16 * i) k) c))) no

pub enter_end : (words f : List ℕ) (g i n : ℕ) → g ≡ grid f → n ≤ i → Entering words f g i n → Entered words f
enter_end words f g i n eg e d =
    record { room = rw eg at d.space; marks = λ k b. let all = d.each k (rw eg b) in omega (arith, all, none_coming (coming f g i n) none_left (32 * k) 32) }
  where
    none_left : (c : ℕ) → coming f g i n c ≡ 0
    none_left c = none_behind f g i n c e

-- ---- totals

-- the totals of the first k pairs stand, the marks of all
pub record Totalling (words f : List ℕ) (total k : ℕ) : Type 0 where
  pub entered : Entered words f
  pub sum : total ≡ tally (mark f) 0 (32 * k)
  pub totals : (i : ℕ) → i < k → get_or words (2 * i + 1) 0 ≡ tally (mark f) 0 (32 * i)

pub total_start : (words f : List ℕ) → Entered words f → Totalling words f 0 0
unfolding tally
total_start words f e = record { entered = e; sum = refl; totals = λ i h. absurd (omega arith) }

pub groups_few : (f : List ℕ) → file_cause f ≡ 0 → groups (cube (grid f)) ≤ 524288
unfolding groups
groups_few f ok = omega (arith, cube_few (grid f) (accepted f ok).grid_few)

module _ (words f : List ℕ) (total k : ℕ) (h : k < groups (cube (grid f))) (d : Totalling words f total k) where
  pub pair_there : 2 * k + 1 < length words
  pair_there = omega (arith, d.entered.room)

  abbrev stored : List ℕ
  stored = set words (2 * k + 1) total

  kept : (i : ℕ) → get_or stored (2 * i) 0 ≡ get_or words (2 * i) 0
  kept i = get_or-set_other words (2 * k + 1) (2 * i) total 0 (λ e. omega arith)

  pub next_total : total + ones (get_or stored (2 * k) 0) ≡ tally (mark f) 0 (32 * (k + 1))
  next_total =
      let up : 32 * (k + 1) ≡ 32 * k + 32 = omega arith in
      rw (kept k, d.entered.marks k h, ones_word (mark f) (mark_bit f) (32 * k) 32, d.sum, up)
      (sym (tally_more (mark f) 0 (32 * k) 32 ∙ rw (zero-add (32 * k))))

  pub total_fits : groups (cube (grid f)) ≤ 524288 → total + ones (get_or stored (2 * k) 0) < 4294967296
  total_fits few = omega (arith, next_total, tally_few f 0 (32 * (k + 1)))

  pub total_turn : Totalling stored f (total + ones (get_or stored (2 * k) 0)) (k + 1)
  total_turn =
      record {
        entered = record { room = rw (length-set words (2 * k + 1) total) d.entered.room; marks = λ i b. kept i ∙ d.entered.marks i b };
        sum = next_total;
        totals = λ i b. each i b;
      }
    where
      each : (i : ℕ) → i < k + 1 → get_or stored (2 * i + 1) 0 ≡ tally (mark f) 0 (32 * i)
      each i b = elim (ℕ_discrete i k) [
        | yes e ↦ rw e (get_or-set_same words (2 * k + 1) total 0 pair_there ∙ d.sum)
        | no e ↦ get_or-set_other words (2 * k + 1) (2 * i + 1) total 0 (λ t. e (omega arith)) ∙ d.totals i (omega arith)
      ]
