-- What a permutation of lists keeps, and how often an index stands in a list. Assumes nothing.
use Prim.Native.Nat.{ℕ, zero, suc, ◌+◌, ◌≤◌, ◌<◌}
use mathlib.Core.Path.{◌≡◌, refl, sym, ap, ap₂, ◌∙◌}
use mathlib.Core.List.Memᴰ
use mathlib.Core.List.Permᴰ
use mathlib.Core.List.{List, [], ◌∷◌, ◌++◌}
use native.Mathlib.Nat.{zero-add}
use native.Mathlib.Decide.{ℕ_discrete}
use native.Mathlib.Omega.{arith}
use lib.Dec.{eqb}
use lib.ListN.{length}
use borrow.Author.Tests.{eq-eqb, ne_eqb}
use Rattle.tree_laws.specs.Said.{◌∈◌, ◌~◌, one, times}

pub times_append : (i : ℕ) (l m : List ℕ) → times i (l ++ m) ≡ times i l + times i m
unfolding times
times_append i [] m = sym (zero-add (times i m))
times_append i (j ∷ l) m = ap (λ (n : ℕ). one (eqb i j) + n) (times_append i l m) ∙ omega arith

pub perm_times : {l m : List ℕ} (i : ℕ) → l ~ m → times i l ≡ times i m
unfolding times
perm_times i Permᴰ.nil = refl
perm_times i (Permᴰ.cons e d) = ap₂ (λ (j n : ℕ). one (eqb i j) + n) e (perm_times i d)
perm_times i (Permᴰ.swap e f) = rw (← e, ← f) (omega arith)
perm_times i (Permᴰ.trans d e) = perm_times i d ∙ perm_times i e

pub perm_in : {A : Type 0} {a : A} {l m : List A} → l ~ m → a ∈ l → a ∈ m
perm_in Permᴰ.nil h = h
perm_in (Permᴰ.cons e d) (Memᴰ.head q) = Memᴰ.head (q ∙ e)
perm_in (Permᴰ.cons e d) (Memᴰ.tail h) = Memᴰ.tail (perm_in d h)
perm_in (Permᴰ.swap e f) (Memᴰ.head q) = Memᴰ.tail (Memᴰ.head (q ∙ e))
perm_in (Permᴰ.swap e f) (Memᴰ.tail (Memᴰ.head q)) = Memᴰ.head (q ∙ f)
perm_in (Permᴰ.swap e f) (Memᴰ.tail (Memᴰ.tail h)) = Memᴰ.tail (Memᴰ.tail h)
perm_in (Permᴰ.trans d e) h = perm_in e (perm_in d h)

-- ---- a list in which each number below n stands once, and no other

-- how many entries are below n
abbrev below : ℕ → List ℕ → ℕ
below zero l = 0
below (suc n) l = below n l + times n l

below_other : (n j : ℕ) (l : List ℕ) → n ≤ j → below n (j ∷ l) ≡ below n l
unfolding times
below_other zero j l h = refl
below_other (suc n) j l h = rw (below_other n j l (omega arith), ne_eqb n j (λ e. omega (arith, e, h))) (omega arith)

below_one : (n j : ℕ) (l : List ℕ) → j < n → below n (j ∷ l) ≡ suc (below n l)
unfolding times
below_one zero j l h = absurd (omega arith)
below_one (suc n) j l h = elim (ℕ_discrete n j) [
  | yes e ↦ rw (below_other n j l (omega (arith, e)), eq-eqb n j e) (omega arith)
  | no d ↦ rw (below_one n j l (omega arith), ne_eqb n j d) (omega arith)
]

below_none : (n : ℕ) → below n [] ≡ 0
unfolding times
below_none zero = refl
below_none (suc n) = rw (below_none n)

below_all : (n : ℕ) (l : List ℕ) → ((i : ℕ) → i ∈ l → i < n) → below n l ≡ length l
below_all n [] h = below_none n
below_all n (j ∷ l) h = below_one n j l (h j (Memᴰ.head refl)) ∙ ap suc (below_all n l (λ i m. h i (Memᴰ.tail m)))

below_each : (n : ℕ) (l : List ℕ) → ((k : ℕ) → k < n → times k l ≡ 1) → below n l ≡ n
below_each zero l h = refl
below_each (suc n) l h = rw (below_each n l (λ k b. h k (omega arith)), h n (omega arith)) (omega arith)

pub each_once : (n : ℕ) (l : List ℕ) → ((k : ℕ) → k < n → times k l ≡ 1) → ((i : ℕ) → i ∈ l → i < n) → length l ≡ n
each_once n l h low = sym (below_all n l low) ∙ below_each n l h
