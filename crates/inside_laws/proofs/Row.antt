-- A point's walk along its row marks the candidates of the scan, and leaves a state that fits. Assumes nothing.
use Prim.Native.Nat.{ℕ, zero, suc, ◌+◌, ◌≤◌, ◌<◌}
use native.Mathlib.Omega.{arith}
use mathlib.Core.Path.{◌≡◌, refl, sym, ◌∙◌, subst}
use mathlib.Core.Logic.{⊎_elim}
use mathlib.Core.Bool.{Bool, true, false, cond, ◌&&◌, ◌||◌, and-true, and-false, or-true, or-false, and_assoc}
use mathlib.Core.List.{List, [], Permᴰ}
use lib.ListN.{length, get_or, replicate, length-replicate, get_or-replicate}
use lib.Dec.{eqb, leb}
use borrow.Author.Tests.{le-leb, lt-leb, eqb-false, ne_eqb}
use Rattle.filling.specs.declared.Bounds.{Bounds}
use Rattle.filling.specs.declared.Indices.{Indices}
use Rattle.filling.specs.Inside.{indices, reached, candidate, low_of, high_of}
use Rattle.filling.specs.Rows.{one, list_of, triangle_of, scanned}
use Rattle.filling.proofs.Listed.{split, below}
use Rattle.filling.proofs.Rows.{index_low}
use Rattle.inside_laws.specs.Walk.{cell_of, between, holds, cell_slots, Stamps, fresh, cleared, next_stamp, Fit, Walked, met, cell, row, walk}
use Rattle.inside_laws.proofs.Cells.{slots_are, holds_cell, among, among_list}
use Rattle.inside_laws.proofs.Found.{those, same_those, Good, After, cell_after}

-- ---- one cell, and those behind it

module _ (low high i : ℕ) (order : low ≤ high) where
  on_row : (between low high i || leb (i + 1) high) ≡ leb i high
  unfolding between
  on_row =
      ⊎_elim
      (λ l. rw (le-leb (i + 1) high (omega arith), le-leb i high (omega arith)) (or-true (leb low i && true)))
      (λ l. rw (lt-leb (i + 1) high (omega arith))
      (⊎_elim
      (λ k. rw (lt-leb i high k, and-false (leb low i)))
      (λ k. rw (le-leb low i (omega arith), le-leb i high k))
      (split high i)))
      (split i high)

  passed : (a r : Bool) → ((a || (between low high i && r)) || (r && leb (i + 1) high)) ≡ (a || (r && leb i high))
  passed true r = refl
  passed false true = rw (and-true (between low high i)) on_row
  passed false false = rw (and-false (between low high i))

-- ---- a row

-- the ranges of u on y and z hold the row
in_row : List ℕ → Bounds → ℕ → ℕ → ℕ → Bool
in_row s b j k u = between (low_of b (triangle_of s u)).j (high_of b (triangle_of s u)).j j && between (low_of b (triangle_of s u)).k (high_of b (triangle_of s u)).k k

module _ (s : List ℕ) (b : Bounds) (n q j k : ℕ) (hj : j < 96) (hk : k < 96)
    (order : (u : ℕ) → u < n → (low_of b (triangle_of s u)).i ≤ (high_of b (triangle_of s u)).i) where
  top : (u : ℕ) → (high_of b (triangle_of s u)).i ≤ 95
  unfolding high_of indices
  top u = index_low _

  entries_low : (i : ℕ) → i < 96 → (m : ℕ) → m < length (cell_slots s b n (cell_of i j k)) → get_or (cell_slots s b n (cell_of i j k)) m 0 < n
  unfolding cell_of
  entries_low i hi = rw (slots_are s b n (cell_of i j k) (omega arith)) (below (holds s b) (cell_of i j k) n)

  entry_is : (i u : ℕ) → i < 96 → u < n → among u (cell_slots s b n (cell_of i j k)) ≡ (between (low_of b (triangle_of s u)).i (high_of b (triangle_of s u)).i i && in_row s b j k u)
  unfolding cell_of in_row
  entry_is i u hi hu = rw (slots_are s b n (cell_of i j k) (omega arith)) (among_list (holds s b) (cell_of i j k) n u hu ∙ holds_cell s b n u i j k hi hj)

  row_after : (m i : ℕ) (w : Walked) → i + m ≡ 96 → Good n q w → After n q w (λ u. in_row s b j k u && leb i (high_of b (triangle_of s u)).i) (row s b n j k m i w)
  unfolding row
  row_after zero i w e g = record {
    good = g;
    marked = λ u hu. let t = top u in rw (lt-leb i (high_of b (triangle_of s u)).i (omega arith), and-false (in_row s b j k u)) (sym (or-false (met w.state u)));
  }
  row_after (suc m) i w e g =
      let first = cell_after n q (cell_slots s b n (cell_of i j k)) w (entries_low i (omega arith)) g in
      let rest = row_after m (i + 1) (cell w (cell_slots s b n (cell_of i j k))) (omega arith) first.good in
      record {
        good = rest.good;
        marked = λ u hu.
            rest.marked u hu
            ∙ rw (first.marked u hu, entry_is i u (omega arith) hu)
            (passed (low_of b (triangle_of s u)).i (high_of b (triangle_of s u)).i i (order u hu) (met w.state u) (in_row s b j k u));
      }

  -- from i on to the last cell
  row_from : (first m i : ℕ) (w : Walked) → i ≡ first → i + m ≡ 96 → Good n q w
      → After n q w (λ u. in_row s b j k u && leb first (high_of b (triangle_of s u)).i) (row s b n j k m i w)
  row_from first m i w e l g =
      subst (λ (x : ℕ). After n q w (λ u. in_row s b j k u && leb x (high_of b (triangle_of s u)).i) (row s b n j k m i w)) e (row_after m i w l g)

-- ---- the next stamp

zeros : (n t : ℕ) → t < n → get_or (replicate {A = ℕ} n 0) t 0 ≡ 0
zeros n t l = get_or-replicate {A = ℕ} n t 0 0 l

pub fresh_fit : (n : ℕ) → Fit n (fresh n)
unfolding fresh
fresh_fit n = record { long = length-replicate {A = ℕ} n 0; past = λ t l. let e = zeros n t l in omega arith; low = omega arith }

-- a state that fits, and no triangle is met
record Begun (n : ℕ) (st : Stamps) : Type 0 where
  fit : Fit n st
  none : (t : ℕ) → t < n → met st t ≡ false

cleared_begun : (n : ℕ) (st : Stamps) → length st.seen ≡ n → Begun n (cleared st)
unfolding cleared met
cleared_begun n st f = record {
  fit = record { long = let e = length-replicate {A = ℕ} (length st.seen) 0 in omega arith; past = λ t l. let z = all t l in omega arith; low = omega arith };
  none = λ t l. ne_eqb (get_or (cleared st).seen t 0) 1 (λ d. let z = all t l in omega arith);
}
  where
    all : (t : ℕ) → t < n → get_or (replicate {A = ℕ} (length st.seen) 0) t 0 ≡ 0
    all t l = zeros (length st.seen) t (omega arith)

begun : (n : ℕ) (st : Stamps) → Fit n st → Begun n (next_stamp st)
unfolding next_stamp met
begun n st f = go (eqb (st.stamp + 1) 0x7fff_ffff) refl
  where
    less : (x : ℕ) → x < 0x7fff_ffff → (x + 1 ≡ 0x7fff_ffff → ⊥) → x + 1 < 0x7fff_ffff
    less x d k = omega arith

    go : (x : Bool) → eqb (st.stamp + 1) 0x7fff_ffff ≡ x → Begun n (cond x (cleared st) (record { seen = st.seen; stamp = st.stamp + 1 }))
    go true e = cleared_begun n st f.long
    go false e = record {
      fit = record { long = f.long; past = λ t l. let z = f.past t l in omega arith; low = less st.stamp f.low (eqb-false (st.stamp + 1) 0x7fff_ffff e) };
      none = λ t l. ne_eqb (get_or st.seen t 0) (st.stamp + 1) (λ d. let z = f.past t l in omega arith);
    }

-- ---- a point

none_those : (f : ℕ → Bool) (n : ℕ) → ((u : ℕ) → u < n → f u ≡ false) → those f n ≡ []
unfolding list_of one
none_those f zero h = refl
none_those f (suc n) h = rw (none_those f n (λ u l. h u (omega arith)), h n (omega arith))

scanned_those : (s : List ℕ) (b : Bounds) (at : Indices) (n : ℕ) → those (λ u. candidate b at (triangle_of s u)) n ≡ scanned s b at n
unfolding list_of scanned
scanned_those s b at zero = refl
scanned_those s b at (suc n) = rw (scanned_those s b at n)

module _ (s : List ℕ) (b : Bounds) (n : ℕ) (at : Indices) (hi : at.i < 96) (hj : at.j < 96) (hk : at.k < 96)
    (order : (u : ℕ) → u < n → (low_of b (triangle_of s u)).i ≤ (high_of b (triangle_of s u)).i) where
  -- the ranges hold the row and the point is not past them: the scan's rule
  rule : (u : ℕ) → (in_row s b at.j at.k u && leb at.i (high_of b (triangle_of s u)).i) ≡ candidate b at (triangle_of s u)
  unfolding in_row between candidate reached low_of high_of
  rule u = simp and_assoc

  -- before its first cell
  start : Stamps → Walked
  start st = record { found = []; state = next_stamp st }

  walk_after : (st : Stamps) (q : ℕ) → Good n q (start st)
      → After n q (start st) (λ u. in_row s b at.j at.k u && leb at.i (high_of b (triangle_of s u)).i) (walk s b n at st)
  unfolding walk start
  walk_after st q g = row_from s b n q at.j at.k hj hk order at.i _ _ _ (omega arith) (omega arith) g

  pub point_after : (st : Stamps) → Fit n st → Permᴰ (walk s b n at st).found (scanned s b at n) × Fit n (walk s b n at st).state
  unfolding start
  point_after st f =
      let first = begun n st f in
      let g : Good n (next_stamp st).stamp (start st) = record {
        long = first.fit.long;
        past = first.fit.past;
        now = refl;
        held = rw (none_those (met (next_stamp st)) n first.none) Permᴰ.nil;
      } in
      let z = walk_after st (next_stamp st).stamp g in
      let same : those (met (walk s b n at st).state) n ≡ scanned s b at n =
      same_those _ (λ u. candidate b at (triangle_of s u)) n (λ u l. z.marked u l ∙ rw (first.none u l) (rule u)) ∙ scanned_those s b at n in
      (rw same at z.good.held, record { long = z.good.long; past = λ t l. rw z.good.now (z.good.past t l); low = rw z.good.now first.fit.low })
