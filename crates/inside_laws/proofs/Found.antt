-- What is found is a permutation of the triangles that are marked, whatever slots are walked. Assumes nothing.
use Prim.Native.Nat.{ℕ, zero, suc, ◌≤◌, ◌<◌}
use native.Mathlib.Omega.{arith}
use mathlib.Core.Path.{◌≡◌, refl, sym, ap, ◌∙◌}
use mathlib.Core.Logic.{⊎_elim}
use mathlib.Core.Bool.{Bool, true, false, cond, ◌||◌, or-true, or-false, or_assoc}
use mathlib.Core.List.Permᴰ
use mathlib.Core.List.{List, [], ◌∷◌, ◌++◌, Permᴰ}
use lib.ListN.{length, get_or, set, length-set}
use lib.Seq.{get_or-set_same, get_or-set_other}
use lib.Dec.{eqb}
use borrow.Author.Tests.{eqb-true, eqb-false, eq-eqb}
use Rattle.filling.specs.Rows.{one, list_of}
use Rattle.filling.proofs.Listed.{split}
use Rattle.inside_laws.specs.Walk.{Stamps, Walked, met, slot, cell}
use Rattle.inside_laws.proofs.Cells.{among}

-- ---- those of 0 to n − 1 that pass a test, ascending

abbrev pub those : (ℕ → Bool) → ℕ → List ℕ
those f n = list_of (λ i p. f i) 0 n

pub same_those : (f g : ℕ → Bool) (n : ℕ) → ((u : ℕ) → u < n → f u ≡ g u) → those f n ≡ those g n
unfolding list_of
same_those f g zero h = refl
same_those f g (suc n) h = rw (same_those f g n (λ u l. h u (omega arith)), h n (omega arith))

-- the last one first
last : (t : ℕ) (l : List ℕ) → Permᴰ (l ++ t ∷ []) (t ∷ l)
last t l = Permᴰ.trans (Permᴰ.middle t l []) (Permᴰ.cons refl (Permᴰ.append-nil l))

-- one more passes
one_more : (f g : ℕ → Bool) (t n : ℕ) → t < n → f t ≡ false → g t ≡ true → ((u : ℕ) → (u ≡ t → ⊥) → g u ≡ f u) → Permᴰ (those g n) (t ∷ those f n)
unfolding list_of one
one_more f g t zero l a b h = absurd (omega arith)
one_more f g t (suc n) l a b h =
    ⊎_elim
    (λ m. rw (h n (λ e. omega arith)) (Permᴰ.append_right (one (f n) n) (one_more f g t n m a b h)))
    (λ m. let e : n ≡ t = omega arith in
    rw (e, a, b, same_those g f t (λ u k. h u (λ e. omega arith))) (Permᴰ.trans (last t (those f t)) (Permᴰ.cons refl (Permᴰ.symm (Permᴰ.append-nil (those f t))))))
    (split t n)

-- ---- slots

-- with n triangles, at the stamp q
pub record Good (n q : ℕ) (w : Walked) : Type 0 where
  pub long : length w.state.seen ≡ n
  pub past : (t : ℕ) → t < n → get_or w.state.seen t 0 ≤ q
  pub now : w.state.stamp ≡ q
  pub held : Permᴰ w.found (those (met w.state) n)

-- z, some slots behind w: those met by then, and those that the slots hold
pub record After (n q : ℕ) (w : Walked) (more : ℕ → Bool) (z : Walked) : Type 0 where
  pub good : Good n q z
  pub marked : (u : ℕ) → u < n → met z.state u ≡ (met w.state u || more u)

-- t is marked
module _ (st : Stamps) (t : ℕ) where
  marking : Stamps
  marking = record { seen = set st.seen t st.stamp; stamp = st.stamp }

  now_met : t < length st.seen → met marking t ≡ true
  unfolding met marking
  now_met l = eq-eqb _ _ (get_or-set_same st.seen t st.stamp 0 l)

  others : (u : ℕ) → (u ≡ t → ⊥) → met marking u ≡ met st u
  unfolding met marking
  others u d = ap (λ x. eqb x st.stamp) (get_or-set_other st.seen t u st.stamp 0 d)

  either_met : (y : Stamps) → met y t ≡ true → ((u : ℕ) → (u ≡ t → ⊥) → met y u ≡ met st u) → (u : ℕ) → met y u ≡ (met st u || eqb u t)
  either_met y h k u = go (eqb u t) refl
    where
      go : (x : Bool) → eqb u t ≡ x → met y u ≡ (met st u || x)
      go true e = ap (met y) (eqb-true u t e) ∙ h ∙ sym (or-true (met st u))
      go false e = k u (eqb-false u t e) ∙ sym (or-false (met st u))

slot_after : (n q : ℕ) (w : Walked) (t : ℕ) → t < n → Good n q w → After n q w (λ u. eqb u t) (slot w t)
unfolding slot marking
slot_after n q w t l g = go (met w.state t) refl
  where
    inside : t < length w.state.seen
    inside = let e = g.long in omega arith

    bounded : (u : ℕ) → u < n → (x : Bool) → eqb u t ≡ x → get_or (set w.state.seen t w.state.stamp) u 0 ≤ q
    bounded u k true e =
        let a = get_or-set_same w.state.seen t w.state.stamp 0 inside in let d = g.now in rw (eqb-true u t e) (omega arith)
    bounded u k false e =
        let a = get_or-set_other w.state.seen t u w.state.stamp 0 (eqb-false u t e) in let d = g.past u k in omega arith

    go : (x : Bool) → met w.state t ≡ x → After n q w (λ u. eqb u t) (cond x w (record { found = w.found ++ t ∷ []; state = marking w.state t }))
    go true e = record { good = g; marked = λ u k. either_met w.state t w.state e (λ u d. refl) u }
    go false e = record {
      good = record {
        long = length-set w.state.seen t w.state.stamp ∙ g.long;
        past = λ u k. bounded u k (eqb u t) refl;
        now = g.now;
        held =
            Permᴰ.trans (last t w.found)
            (Permᴰ.trans (Permᴰ.cons refl g.held)
            (Permᴰ.symm (one_more (met w.state) (met (marking w.state t)) t n l e (now_met w.state t inside) (others w.state t))));
      };
      marked = λ u k. either_met w.state t (marking w.state t) (now_met w.state t inside) (others w.state t) u;
    }

-- the slots of a cell
pub cell_after : (n q : ℕ) (l : List ℕ) (w : Walked) → ((m : ℕ) → m < length l → get_or l m 0 < n) → Good n q w → After n q w (λ u. among u l) (cell w l)
unfolding cell among
cell_after n q [] w h g = record { good = g; marked = λ u k. sym (or-false (met w.state u)) }
cell_after n q (t ∷ l) w h g =
    let first = slot_after n q w t (h 0 (omega arith)) g in
    let rest = cell_after n q l (slot w t) (λ m k. h (suc m) (omega arith)) first.good in
    record { good = rest.good; marked = λ u k. rest.marked u k ∙ rw (first.marked u k) (or_assoc (met w.state u) (eqb u t) (among u l)) }
