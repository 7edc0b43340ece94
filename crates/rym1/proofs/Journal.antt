-- Laws of journals: what is known of one that 11 and 13 do not refuse, when they refuse, and an entry more or less as stores. Assumes nothing.
use Prim.Native.Nat.{ℕ, suc, ◌+◌, ◌-◌, ◌*◌, ◌/◌, ◌%◌, ◌≤◌, ◌<◌}
use mathlib.Core.Path.{◌≡◌, refl, ap, ◌∙◌}
use mathlib.Core.Bool.{Bool, true, false, not, ◌||◌}
use mathlib.Core.List.{List, [], ◌∷◌}
use native.Mathlib.Omega.{arith}
use lib.ListN.{length, get_or, set}
use lib.Dec.{eqb, ltb}
use borrow.Author.Tests.{ltb-false, eqb-true, eqb-false, not-false, lt-ltb, le-ltb, eq-eqb, ne_eqb}
use borrow.Rule.Slice.PartMut.{put_mid}
use Rattle.rym1.specs.Bytes.{splice}
use Rattle.rym1.specs.Causes.{when}
use Rattle.rym1.specs.Journal.{top, entries, most, entry_at, journal_cause, push_cause, pushed, popped}
use Rattle.rym1.proofs.Bytes.{stores, length_splice, put_splice}
use Rattle.rym1.proofs.Causes.{or_false_l, or_false_r, when_zero}

-- ---- 11

-- a journal that is not refused: word 0 is the entry count, and the entries are there
pub record AcceptedJournal (j : List ℕ) : Type 0 where
  pub entries_is : get_or j 0 0 ≡ entries j
  pub few : entries j ≤ 16777216
  pub room : 1 + 3 * entries j ≤ length j

pub accepted_journal : (j : List ℕ) → journal_cause j ≡ 0 → AcceptedJournal j
unfolding journal_cause top entries most entry_at
accepted_journal j z =
    let w : ℕ = get_or j 0 0 in
    let all = when_zero (eqb (length j) 0 || (not (eqb (top w) 0) || (ltb most (entries j) || ltb (length j) (entry_at (entries j))))) 10 z in
    let right = or_false_r (eqb (length j) 0) _ all in
    let counts = or_false_r (not (eqb (top w) 0)) _ right in
    let none : top w ≡ 0 = eqb-true (top w) 0 (not-false (eqb (top w) 0) (or_false_l (not (eqb (top w) 0)) _ right)) in
    record {
      entries_is = omega (arith, none);
      few = ltb-false most (entries j) (or_false_l (ltb most (entries j)) _ counts);
      room = ltb-false (length j) (entry_at (entries j)) (or_false_r (ltb most (entries j)) (ltb (length j) (entry_at (entries j))) counts);
    }

pub journal_empty : (j : List ℕ) → length j ≡ 0 → 11 ≡ journal_cause j
unfolding journal_cause when
journal_empty j e = rw (eq-eqb (length j) 0 e)

-- a word above 2^24 has its top bits set, or counts too many
many : (w : ℕ) (b : Bool) → 16777216 < w → (not (eqb (top w) 0) || (ltb 16777216 (w % 1073741824) || b)) ≡ true
unfolding top
many w b h = go (eqb (w / 1073741824) 0) refl
  where
    go : (t : Bool) → eqb (w / 1073741824) 0 ≡ t → (not t || (ltb 16777216 (w % 1073741824) || b)) ≡ true
    go false e = refl
    go true e = rw (lt-ltb 16777216 (w % 1073741824) (omega (arith, eqb-true (w / 1073741824) 0 e)))

pub journal_many : (j : List ℕ) → (length j ≡ 0 → ⊥) → 16777216 < get_or j 0 0 → 11 ≡ journal_cause j
unfolding journal_cause entries most when
journal_many j some h = rw (ne_eqb (length j) 0 some, many (get_or j 0 0) (ltb (length j) (entry_at (get_or j 0 0 % 1073741824))) h)

-- else the count is the word
low_word : (w : ℕ) → w ≤ 16777216 → w % 1073741824 ≡ w
low_word w h = omega arith

no_top : (w : ℕ) → w ≤ 16777216 → top w ≡ 0
unfolding top
no_top w h = omega arith

pub journal_short : (j : List ℕ) → (length j ≡ 0 → ⊥) → get_or j 0 0 ≤ 16777216 → length j < 1 + 3 * get_or j 0 0 → 11 ≡ journal_cause j
unfolding journal_cause entries most entry_at when
journal_short j some h b =
    rw (
      ne_eqb (length j) 0 some,
      no_top (get_or j 0 0) h,
      low_word (get_or j 0 0) h,
      le-ltb 16777216 (get_or j 0 0) h,
      lt-ltb (length j) (1 + 3 * get_or j 0 0) b,
    )

pub journal_right : (j : List ℕ) → (length j ≡ 0 → ⊥) → get_or j 0 0 ≤ 16777216 → 1 + 3 * get_or j 0 0 ≤ length j → 0 ≡ journal_cause j
unfolding journal_cause entries most entry_at when
journal_right j some h b =
    rw (
      ne_eqb (length j) 0 some,
      no_top (get_or j 0 0) h,
      low_word (get_or j 0 0) h,
      le-ltb 16777216 (get_or j 0 0) h,
      le-ltb (length j) (1 + 3 * get_or j 0 0) b,
    )

-- ---- 13

-- room for an entry more
pub record Pushable (j : List ℕ) : Type 0 where
  pub fewer : entries j < 16777216
  pub room : 4 + 3 * entries j ≤ length j

pub pushable : (j : List ℕ) → journal_cause j ≡ 0 → push_cause j ≡ 0 → Pushable j
unfolding push_cause most entry_at
pushable j ok z =
    let all = when_zero (ltb (length j) (entry_at (suc (entries j))) || eqb (entries j) most) 12 z in
    record {
      fewer = omega (arith, (accepted_journal j ok).few, eqb-false (entries j) most (or_false_r (ltb (length j) (entry_at (suc (entries j)))) (eqb (entries j) most) all));
      room = omega (arith, ltb-false (length j) (entry_at (suc (entries j))) (or_false_l (ltb (length j) (entry_at (suc (entries j)))) _ all));
    }

next_at : (e : ℕ) → entry_at (suc e) ≡ 4 + 3 * e
unfolding entry_at
next_at e = omega arith

pub push_short : (j : List ℕ) (e : ℕ) → e ≡ entries j → length j < 4 + 3 * e → 13 ≡ push_cause j
unfolding push_cause when
push_short j e ee h = rw (← ee, next_at e, lt-ltb (length j) (4 + 3 * e) h)

pub push_most : (j : List ℕ) (e : ℕ) → e ≡ entries j → 4 + 3 * e ≤ length j → e ≡ 16777216 → 13 ≡ push_cause j
unfolding push_cause most when
push_most j e ee h m = rw (← ee, next_at e, le-ltb (length j) (4 + 3 * e) h, eq-eqb e 16777216 m)

pub push_right : (j : List ℕ) (e : ℕ) → e ≡ entries j → 4 + 3 * e ≤ length j → (e ≡ 16777216 → ⊥) → 0 ≡ push_cause j
unfolding push_cause most when
push_right j e ee h m = rw (← ee, next_at e, le-ltb (length j) (4 + 3 * e) h, ne_eqb e 16777216 m)

-- ---- an entry more, and one less, as the code stores them

-- three words of an entry, then word 0
entry_stores : (j new : List ℕ) (e a b c n : ℕ) → 4 + 3 * e ≤ length j → new ≡ a ∷ b ∷ c ∷ []
    → set (put_mid (1 + 3 * e) (1 + 3 * e + 3 - (1 + 3 * e)) j new) 0 n ≡ splice (splice j (1 + 3 * e) (a ∷ b ∷ c ∷ [])) 0 (n ∷ [])
entry_stores j new e a b c n h is =
    ap (λ (l : List ℕ). set l 0 n) (put_splice j new (1 + 3 * e) 3 (ap length is) ∙ ap (splice j (1 + 3 * e)) is)
    ∙ stores (splice j (1 + 3 * e) (a ∷ b ∷ c ∷ [])) 0 (n ∷ []) (omega (arith, length_splice j (1 + 3 * e) (a ∷ b ∷ c ∷ []) (omega arith)))

pub pushed_stores : (j new : List ℕ) (e head cauchy elliptic : ℕ) → e ≡ entries j → 4 + 3 * entries j ≤ length j → new ≡ head ∷ cauchy ∷ elliptic ∷ []
    → set (put_mid (1 + 3 * e) (1 + 3 * e + 3 - (1 + 3 * e)) j new) 0 (e + 1) ≡ pushed j (head ∷ cauchy ∷ elliptic ∷ [])
unfolding pushed entry_at
pushed_stores j new e head cauchy elliptic ee h is =
    let more : e + 1 ≡ suc e = omega arith in
    rw (← ee, more) (entry_stores j new e head cauchy elliptic (suc e) (omega (arith, ee)) is)

pub popped_stores : (j new : List ℕ) (e : ℕ) → e ≡ entries j - 1 → 0 < entries j → 1 + 3 * entries j ≤ length j → new ≡ 0 ∷ 0 ∷ 0 ∷ []
    → set (put_mid (1 + 3 * e) (1 + 3 * e + 3 - (1 + 3 * e)) j new) 0 e ≡ popped j
unfolding popped entry_at
popped_stores j new e ee pos h is = rw (← ee) (entry_stores j new e 0 0 0 e (omega (arith, ee)) is)
