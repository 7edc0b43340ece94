-- What a search finds, for readers: some c exactly where c is marked, lies from the first cell up to the end, and no lower one from the first on is marked; none
-- exactly where no cell is. p gives the marks, any number but 0 being one. Assumes nothing.
use Prim.Native.Nat.{ℕ, zero, suc, ◌+◌, ◌-◌, ◌*◌, ◌/◌, ◌≤◌, ◌<◌}
use mathlib.Core.Path.{◌≡◌, refl, sym, ap, ◌∙◌}
use mathlib.Core.Logic.{◌↔◌}
use mathlib.Core.Bool.{Bool, true, false, cond}
use Rattle.std.specs.Prelude.{Option, Some, None}
use native.Mathlib.Decide.{ℕ_discrete, dec_lt}
use native.Mathlib.Omega.{arith}
use lib.Dec.{eqb}
use borrow.Author.Tests.{eqb-true, eqb-false, eq-eqb, ne_eqb, lt-ltb, le-ltb}
use Rattle.rym1.specs.File.{groups}
use Rattle.marks.specs.Marks.{tally}
use Rattle.search.specs.Next.{least, next, touched}

-- no cell from `first` up to `end` is marked
abbrev pub Unmarked : (ℕ → ℕ) → ℕ → ℕ → Type 0
Unmarked p first end = (i : ℕ) → first ≤ i → i < end → p i ≡ 0

-- c is the least one that is
pub record LeastMarked (p : ℕ → ℕ) (first end c : ℕ) : Type 0 where
  pub marked : p c ≡ 0 → ⊥
  pub from : first ≤ c
  pub before : c < end
  pub lower : Unmarked p first c

module _ (p : ℕ → ℕ) where
  -- of k cells from c on
  least_none : (c k : ℕ) → Unmarked p c (c + k) → least p c k ≡ None
  unfolding least
  least_none c zero all = refl
  least_none c (suc k) all =
      rw (eq-eqb (p c) 0 (all c (omega arith) (omega arith)), least_none (suc c) k (λ i l h. all i (omega arith) (omega arith)))

  none_least : (c k : ℕ) → least p c k ≡ None → Unmarked p c (c + k)
  unfolding least
  none_least c zero e i l h = absurd (omega arith)
  none_least c (suc k) e i l h = go (eqb (p c) 0) refl e (λ d. none_least (suc c) k d i)
    where
      go : (t : Bool) → eqb (p c) 0 ≡ t → cond t (least p (suc c) k) (Some c) ≡ None → (least p (suc c) k ≡ None → suc c ≤ i → i < suc c + k → p i ≡ 0) → p i ≡ 0
      go true q d ih = elim (ℕ_discrete c i) [
        | yes same ↦ ap p (sym same) ∙ eqb-true (p c) 0 q
        | no other ↦ ih d (omega arith) (omega arith)
      ]
      go false q d ih = cc

  least_some : (c k r : ℕ) → LeastMarked p c (c + k) r → least p c k ≡ Some r
  unfolding least
  least_some c zero r m = absurd (omega (arith, m.from, m.before))
  least_some c (suc k) r m = elim (ℕ_discrete c r) [
    | yes same ↦ rw (ne_eqb (p c) 0 (λ z. m.marked (ap p (sym same) ∙ z))) (ap Some same)
    | no other ↦
        let up : suc c ≤ r = omega (arith, m.from) in
        let rest = least_some (suc c) k r (record { marked = m.marked; from = up; before = omega (arith, m.before); lower = λ i l h. m.lower i (omega arith) h }) in
        rw (eq-eqb (p c) 0 (m.lower c (omega arith) (omega arith)), rest)
  ]

  some_least : (c k r : ℕ) → least p c k ≡ Some r → LeastMarked p c (c + k) r
  unfolding least
  some_least c zero r e = cc
  some_least c (suc k) r e = go (eqb (p c) 0) refl e (λ d. some_least (suc c) k r d)
    where
      go : (t : Bool) → eqb (p c) 0 ≡ t → cond t (least p (suc c) k) (Some c) ≡ Some r → (least p (suc c) k ≡ Some r → LeastMarked p (suc c) (suc c + k) r) → LeastMarked p c (c + suc k) r
      go true q d ih =
          let m = ih d in
          record { marked = m.marked; from = omega (arith, m.from); before = omega (arith, m.before); lower = λ i l h. lower m i l h }
        where
          lower : LeastMarked p (suc c) (suc c + k) r → (i : ℕ) → c ≤ i → i < r → p i ≡ 0
          lower m i l h = elim (ℕ_discrete c i) [
            | yes same ↦ ap p (sym same) ∙ eqb-true (p c) 0 q
            | no other ↦ m.lower i (omega arith) h
          ]
      go false q d ih =
          let same : c ≡ r = cc in
          record { marked = λ z. eqb-false (p c) 0 q (ap p same ∙ z); from = omega arith; before = omega arith; lower = λ i l h. absurd (omega arith) }

  -- ---- the theorem

  pub next_some : (first end c : ℕ) → (next p first end ≡ Some c) ↔ LeastMarked p first end c
  unfolding next
  next_some first end c = (to, from)
    where
      to : least p first (end - first) ≡ Some c → LeastMarked p first end c
      to e =
          let m = some_least first (end - first) c e in
          record { marked = m.marked; from = m.from; before = omega (arith, m.from, m.before); lower = m.lower }

      from : LeastMarked p first end c → least p first (end - first) ≡ Some c
      from m = least_some first (end - first) c (record { marked = m.marked; from = m.from; before = omega (arith, m.from, m.before); lower = m.lower })

  pub next_none : (first end : ℕ) → (next p first end ≡ None) ↔ Unmarked p first end
  unfolding next
  next_none first end = (
    λ e i l h. none_least first (end - first) e i l (omega arith),
    λ all. least_none first (end - first) (λ i l h. all i l (omega arith)),
  )

  -- ---- marks counted

  none_counted : (c k : ℕ) → Unmarked p c (c + k) → tally p c k ≡ 0
  unfolding tally
  none_counted c zero all = refl
  none_counted c (suc k) all =
      let rest = none_counted (suc c) k (λ i l h. all i (omega arith) (omega arith)) in
      let here = all c (omega arith) (omega arith) in
      omega (arith, rest, here)

  -- where none is found there is none to count
  pub unmarked_tally : (first end : ℕ) → Unmarked p first end → tally p first (end - first) ≡ 0
  unmarked_tally first end all = none_counted first (end - first) (λ i l h. all i l (omega arith))

-- marks that agree up to the end
pub next_same : (p q : ℕ → ℕ) (first end : ℕ) → ((c : ℕ) → c < end → p c ≡ q c) → next p first end ≡ next q first end
next_same p q first end same = go (next q first end) refl
  where
    go : (o : Option ℕ) → next q first end ≡ o → next p first end ≡ next q first end
    go None e = (next_none p first end).1 (λ i l h. same i h ∙ (next_none q first end).0 e i l h) ∙ sym e
    go (Some c) e =
        let m = (next_some q first end c).0 e in
        (next_some p first end c).1 (record {
          marked = λ z. m.marked (sym (same c m.before) ∙ z);
          from = m.from;
          before = m.before;
          lower = λ i l h. same i (omega (arith, m.before)) ∙ m.lower i l h;
        }) ∙ sym e

-- ---- the words that are read

pub touched_some : (first stop : ℕ) → first < stop → touched first stop ≡ (stop + 31) / 32 - first / 32
unfolding touched groups
touched_some first stop h = rw (lt-ltb first stop h)

pub touched_none : (first stop : ℕ) → stop ≤ first → touched first stop ≡ 0
unfolding touched
touched_none first stop h = rw (le-ltb first stop h)

pub touched_few : (first stop : ℕ) → touched first stop ≤ stop
touched_few first stop = elim (dec_lt first stop) [
  | yes h ↦ omega (arith, touched_some first stop h)
  | no h ↦ omega (arith, touched_none first stop (omega arith))
]

-- word i has a cell from `first` up to `stop`
pub record Touches (first stop i : ℕ) : Type 0 where
  pub cell : ℕ
  pub its : cell / 32 ≡ i
  pub from : first ≤ cell
  pub before : cell < stop

-- these words stand on end, from the first cell's on: as many as `touched` says
pub touched_words : (first stop i : ℕ) → Touches first stop i ↔ ((first < stop) × (first / 32 ≤ i) × (i < first / 32 + touched first stop))
touched_words first stop i = (to, from)
  where
    to : Touches first stop i → (first < stop) × (first / 32 ≤ i) × (i < first / 32 + touched first stop)
    to t =
        let some : first < stop = omega (arith, t.from, t.before) in
        (some, omega (arith, t.from, t.its), omega (arith, touched_some first stop some, t.from, t.its, t.before))

    from : (first < stop) × (first / 32 ≤ i) × (i < first / 32 + touched first stop) → Touches first stop i
    from h = elim (ℕ_discrete (first / 32) i) [
      | yes same ↦ record { cell = first; its = same; from = omega arith; before = h.0 }
      | no other ↦ record { cell = 32 * i; its = omega arith; from = omega (arith, h.1); before = omega (arith, touched_some first stop h.0, h.2, h.0) }
    ]
