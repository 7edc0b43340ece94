-- What the walk reads of a cell is the list of the triangles whose ranges hold it. Assumes nothing.
use Prim.Native.Nat.{ℕ, zero, suc, ◌+◌, ◌*◌, ◌/◌, ◌%◌, ◌≤◌, ◌<◌}
use native.Mathlib.Omega.{arith}
use native.Mathlib.Nat.{le_of_eq}
use native.Mathlib.Numerals.{add-one}
use mathlib.Core.Path.{◌≡◌, refl, sym, ◌∙◌}
use mathlib.Core.Bool.{Bool, true, false, ◌&&◌, ◌||◌, and-true, and-false, or-false, or_assoc}
use mathlib.Core.Logic.{⊎_elim}
use mathlib.Core.List.{List, [], ◌∷◌, ◌++◌}
use lib.Seq.{take-length}
use lib.Dec.{eqb}
use borrow.Author.Tests.{eq-eqb, ne_eqb}
use Rattle.filling.specs.declared.Bounds.{Bounds}
use Rattle.filling.specs.Inside.{low_of, high_of}
use Rattle.filling.specs.Rows.{one, list_of, entries_of, triangle_of}
use Rattle.filling.proofs.Listed.{split, entries_length, row_slice, starts_at}
use Rattle.inside_laws.specs.Walk.{cell_of, between, holds, offsets, slots, cell_slots}

module _ (s : List ℕ) (b : Bounds) (n : ℕ) where
  pub slots_are : (c : ℕ) → c < 884736 → cell_slots s b n c ≡ list_of (holds s b) c n
  unfolding cell_slots offsets slots
  slots_are c l =
      let meet = holds s b in
      let e = entries_of meet n 884736 in
      let size = entries_length meet n 884736 in
      rw (add-one c, starts_at meet n 884737 c (omega arith), starts_at meet n 884737 (suc c) (omega arith))
      (row_slice meet n 884736 c e l (le_of_eq (sym size)) (rw (← size) (take-length e)))

  -- of the cell (i, j, k)
  pub holds_cell : (t i j k : ℕ) → i < 96 → j < 96 → holds s b t (cell_of i j k)
      ≡ (between (low_of b (triangle_of s t)).i (high_of b (triangle_of s t)).i i
      && (between (low_of b (triangle_of s t)).j (high_of b (triangle_of s t)).j j && between (low_of b (triangle_of s t)).k (high_of b (triangle_of s t)).k k))
  unfolding holds cell_of
  holds_cell t i j k hi hj =
      let e : ((k * 96 + j) * 96 + i) % 96 ≡ i = omega arith in
      let f : ((k * 96 + j) * 96 + i) / 96 ≡ k * 96 + j = omega arith in
      let g : (k * 96 + j) % 96 ≡ j = omega arith in
      let h : (k * 96 + j) / 96 ≡ k = omega arith in
      rw (e, f, g, h)

-- ---- whether a number stands in a list

unfoldable pub among : ℕ → List ℕ → Bool
among u [] = false
among u (t ∷ l) = eqb u t || among u l

among_append : (u : ℕ) (l m : List ℕ) → among u (l ++ m) ≡ (among u l || among u m)
unfolding among
among_append u [] m = refl
among_append u (t ∷ l) m = rw (among_append u l m) (sym (or_assoc (eqb u t) (among u l) (among u m)))

among_one : (u : ℕ) (x : Bool) (i : ℕ) → among u (one x i) ≡ (x && eqb u i)
unfolding among one
among_one u true i = or-false (eqb u i)
among_one u false i = refl

-- u, of n things, stands in the list p where it belongs to it
module _ (meet : ℕ → ℕ → Bool) (p : ℕ) where
  behind : (n u : ℕ) → n ≤ u → among u (list_of meet p n) ≡ false
  unfolding list_of among
  behind zero u l = refl
  behind (suc n) u l =
      among_append u (list_of meet p n) (one (meet n p) n)
      ∙ rw (behind n u (omega arith), among_one u (meet n p) n, ne_eqb u n (λ e. omega arith)) (and-false (meet n p))

  pub among_list : (n u : ℕ) → u < n → among u (list_of meet p n) ≡ meet u p
  unfolding list_of
  among_list zero u l = absurd (omega arith)
  among_list (suc n) u l =
      among_append u (list_of meet p n) (one (meet n p) n)
      ∙ rw (among_one u (meet n p) n)
      (⊎_elim
      (λ m. rw (among_list n u m, ne_eqb u n (λ e. omega arith), and-false (meet n p)) (or-false (meet u p)))
      (λ m. let e : u ≡ n = omega arith in rw (behind n u m, eq-eqb u n e, e) (and-true (meet n p)))
      (split u n))
