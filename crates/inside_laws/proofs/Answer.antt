-- Sorting forgets the order of what is found: two permutations of crossings sort to one list. Assumes nothing.
use Rattle.filling.specs.declared.Crossing.{Crossing}
use Rattle.filling.specs.declared.Crossing.TheVariants.{At, Miss}
use Prim.Native.Nat.{ℕ, ◌*◌, ◌/◌, ◌<◌}
use native.Mathlib.Omega.{arith}
use mathlib.Core.Path.{◌≡◌, refl, sym, ap, ap₂, ◌∙◌}
use mathlib.Core.Logic.{∥∥₁_elim, ⊎_elim}
use mathlib.Core.Bool.{Bool, true, false, cond, Bool-set}
use mathlib.Core.List.Memᴰ
use mathlib.Core.List.{List, [], ◌∷◌, ◌++◌, Mem, Memᴰ, mem-cons_self, mem-cons_of_mem}
use mathlib.Core.List.Permᴰ
use mathlib.Core.List.{Permᴰ}
use lib.ListN.{length}
use lib.Dec.{T}
use lib.Ieee.{Float, nan, inf, fin, binary64, up, down, mul, lt, fits, of_bits}
use lib.Ieee.Fits.{down_pos, mul-fits}
use borrow.Author.Tests.{ltb-false}
use denote.Floats.{passes, is_true}
use Rattle.float.specs.Number.{zero64}
use Rattle.float.proofs.Zeros.{value_unique}
use Rattle.filling.specs.declared.Vec3.{Vec3}
use Rattle.filling.specs.declared.Triangle.{Triangle}
use Rattle.filling.specs.declared.Bounds.{Bounds}
use Rattle.filling.specs.declared.Indices.{Indices}
use Rattle.filling.specs.Lists.{mesh}
use Rattle.filling.specs.Ray.{misses, ray}
use Rattle.filling.specs.Inside.{candidate, crossing, listed, crossings, placed, sorted}
use Rattle.filling.specs.Rows.{one, pair_of, triangle_of, row_list, ahead, kept, scanned, crossing_on, crossings_in}
use Rattle.filling.proofs.Crossings.{crossings_above}
use Rattle.filling.proofs.Rows.{same_candidates, same_crossings}
use Rattle.inside_laws.specs.Walk.{hits}
use Rattle.filling.proofs.Sorted.{differ, lt_asymmetric, sorted_permutes}
use Rattle.filling.proofs.Extremes.{Finite, not_below}

-- above 0, and written in the one way: a crossing
abbrev pub crossing_like : Float → Bool
crossing_like nan = false
crossing_like (inf true) = false
crossing_like (inf false) = true
crossing_like (fin true m e) = false
crossing_like (fin false m e) = fits binary64 (fin false m e)

abbrev pub Plain : Float → Type 0
Plain x = crossing_like x ≡ true

-- neither below the other: they are one
same : (x y : Float) → Plain x → Plain y → lt x y ≡ false → lt y x ≡ false → x ≡ y
unfolding lt
same nan y p q h k = differ refl p
same (inf true) y p q h k = differ refl p
same (fin true m e) y p q h k = differ refl p
same (inf false) nan p q h k = differ refl q
same (inf false) (inf true) p q h k = differ refl q
same (inf false) (inf false) p q h k = refl
same (inf false) (fin t n d) p q h k = differ k refl
same (fin false m e) nan p q h k = differ refl q
same (fin false m e) (inf true) p q h k = differ refl q
same (fin false m e) (inf false) p q h k = differ h refl
same (fin false m e) (fin true n d) p q h k = differ refl q
same (fin false m e) (fin false n d) p q h k =
    let a = ltb-false (m * up e * down d) (n * up d * down e) h in
    let b = ltb-false (n * up d * down e) (m * up e * down d) k in
    value_unique binary64 (fin false m e) (fin false n d) false (m * up e) (down e) (down_pos e) (passes _ p) (passes _ q) (refl, refl) (refl, omega arith)

-- none lower: x not below y, nor y below z
no_lower : (x y z : Float) → Plain x → Plain y → Plain z → lt x y ≡ false → lt y z ≡ false → lt x z ≡ false
unfolding lt Finite
no_lower nan y z p q r h k = refl
no_lower (inf true) y z p q r h k = differ refl p
no_lower (inf false) y nan p q r h k = refl
no_lower (inf false) y (inf t) p q r h k = refl
no_lower (inf false) y (fin t n d) p q r h k = refl
no_lower (fin true m e) y z p q r h k = differ refl p
no_lower (fin false m e) nan z p q r h k = differ refl q
no_lower (fin false m e) (inf true) z p q r h k = differ refl q
no_lower (fin false m e) (inf false) z p q r h k = differ h refl
no_lower (fin false m e) (fin t n d) nan p q r h k = refl
no_lower (fin false m e) (fin t n d) (inf true) p q r h k = differ refl r
no_lower (fin false m e) (fin t n d) (inf false) p q r h k = differ k refl
no_lower (fin false m e) (fin t n d) (fin u o g) p q r h k = not_below (fin false m e) (fin t n d) (fin u o g) tt tt tt h k

-- z is below x and not below y: so y is
lower : (x y z : Float) → Plain x → Plain y → Plain z → lt z x ≡ true → lt z y ≡ false → lt y x ≡ true
lower x y z p q r h k = go (lt y x) refl
  where
    go : (t : Bool) → lt y x ≡ t → t ≡ true
    go true e = refl
    go false e = differ (no_lower z y x r q p k e) h

-- ---- sorting

abbrev pub AllPlain : List Float → Type 0
AllPlain l = (x : Float) → Mem x l → Plain x

-- two in their places before others
two : (x y : Float) (r : List Float) → Plain x → Plain y → cond (lt y x) (y ∷ x ∷ r) (x ∷ y ∷ r) ≡ cond (lt x y) (x ∷ y ∷ r) (y ∷ x ∷ r)
two x y r p q = go (lt y x) (lt x y) refl refl
  where
    go : (a b : Bool) → lt y x ≡ a → lt x y ≡ b → cond a (y ∷ x ∷ r) (x ∷ y ∷ r) ≡ cond b (x ∷ y ∷ r) (y ∷ x ∷ r)
    go true true h k = differ (lt_asymmetric y x h) k
    go true false h k = refl
    go false true h k = refl
    go false false h k = let e = same x y p q k h in rw e

placed_swap : (x y : Float) (l : List Float) → Plain x → Plain y → AllPlain l → placed x (placed y l) ≡ placed y (placed x l)
unfolding placed
placed_swap x y [] p q all = two x y [] p q
placed_swap x y (z ∷ l) p q all = go (lt z x) (lt z y) refl refl (placed_swap x y l p q (λ u m. all u (mem-cons_of_mem z m)))
  where
    r : Plain z
    r = all z mem-cons_self

    go : (a b : Bool) → lt z x ≡ a → lt z y ≡ b → placed x (placed y l) ≡ placed y (placed x l)
        → placed x (cond b (z ∷ placed y l) (y ∷ z ∷ l)) ≡ placed y (cond a (z ∷ placed x l) (x ∷ z ∷ l))
    go true true h k i = rw (h, k, i)
    go true false h k i = rw (lower x y z p q r h k, h, k)
    go false true h k i = rw (lower y x z q p r k h, h, k)
    go false false h k i = rw (h, k) (two x y (z ∷ l) p q)

sorted_plain : (l : List Float) → AllPlain l → AllPlain (sorted l)
sorted_plain l all x m = all x (Permᴰ.mem (sorted_permutes l) m)

pub sorted_same : {l m : List Float} → Permᴰ l m → AllPlain l → sorted l ≡ sorted m
unfolding sorted
sorted_same Permᴰ.nil all = refl
sorted_same (Permᴰ.cons {a = a} e d) all = ap₂ placed e (sorted_same d (λ x m. all x (mem-cons_of_mem a m)))
sorted_same (Permᴰ.swap {a = a} {b = b} {l = l} e f) all =
    rw (← e, ← f)
    (placed_swap a b (sorted l) (all a mem-cons_self) (all b (mem-cons_of_mem a mem-cons_self)) (sorted_plain l (λ x m. all x (mem-cons_of_mem a (mem-cons_of_mem b m)))))
sorted_same (Permᴰ.trans d g) all = sorted_same d all ∙ sorted_same g (λ x m. all x (Permᴰ.mem (Permᴰ.symm d) m))

-- ---- crossings

plain_number : (x : Float) → lt zero64 x ≡ true → T (fits binary64 x) → Plain x
unfolding lt of_bits
plain_number nan h f = differ refl h
plain_number (inf true) h f = differ refl h
plain_number (inf false) h f = refl
plain_number (fin true m e) h f = differ refl h
plain_number (fin false m e) h f = is_true _ f

-- what is listed fits
fine : Crossing → Type 0
fine Miss = Unit {0}
fine (At t) = T (fits binary64 t)

of_product : (determinant u v x y : Float) → fine (cond (misses determinant u v (mul binary64 x y)) Miss (At (mul binary64 x y)))
unfolding fine
of_product determinant u v x y = go (misses determinant u v (mul binary64 x y))
  where
    go : (b : Bool) → fine (cond b Miss (At (mul binary64 x y)))
    go true = tt
    go false = mul-fits binary64 x y

ray_fine : (o : Vec3) (t : Triangle) → fine (ray o t)
unfolding ray
ray_fine o t = of_product _ _ _ _ _

crossing_fine : (b : Bounds) (at : Indices) (o : Vec3) (t : Triangle) → fine (crossing b at o t)
unfolding crossing fine
crossing_fine b at o t = go (candidate b at t)
  where
    go : (x : Bool) → fine (cond x (ray o t) Miss)
    go true = ray_fine o t
    go false = tt

listed_fit : (c : Crossing) (x : Float) → fine c → Memᴰ x (listed c) → T (fits binary64 x)
unfolding fine
listed_fit Miss x f m = absurd (Memᴰ.not-nil m)
listed_fit (At t) x f (Memᴰ.head e) = rw e f
listed_fit (At t) x f (Memᴰ.tail m) = absurd (Memᴰ.not-nil m)

crossings_fit : (b : Bounds) (at : Indices) (o : Vec3) (ts : List Triangle) (x : Float) → Memᴰ x (crossings b at o ts) → T (fits binary64 x)
unfolding crossings
crossings_fit b at o [] x m = absurd (Memᴰ.not-nil m)
crossings_fit b at o (t ∷ ts) x m = ⊎_elim (listed_fit (crossing b at o t) x (crossing_fine b at o t)) (crossings_fit b at o ts x) (Memᴰ.append_cases (listed (crossing b at o t)) m)

crossings_plain : (b : Bounds) (at : Indices) (o : Vec3) (ts : List Triangle) → AllPlain (crossings b at o ts)
crossings_plain b at o ts x m = ∥∥₁_elim m (Bool-set (crossing_like x) true) (λ d. plain_number x (crossings_above b at o ts x m) (crossings_fit b at o ts x d))

-- ---- of what is found

module _ (s : List ℕ) (o : Vec3) where
  either_first : (c d : Crossing) (l : List Float) → Permᴰ (listed c ++ (listed d ++ l)) (listed d ++ (listed c ++ l))
  either_first (At x) (At y) l = Permᴰ.swap refl refl
  either_first (At x) Miss l = Permᴰ.refl (x ∷ l)
  either_first Miss (At y) l = Permᴰ.refl (y ∷ l)
  either_first Miss Miss l = Permᴰ.refl l

  hits_permute : {l m : List ℕ} → Permᴰ l m → Permᴰ (hits s o l) (hits s o m)
  unfolding hits
  hits_permute Permᴰ.nil = Permᴰ.nil
  hits_permute (Permᴰ.cons {a = a} e d) = rw (← e) (Permᴰ.append_left (listed (ray o (triangle_of s a))) (hits_permute d))
  hits_permute (Permᴰ.swap {a = a} {b = b} {l = l} e f) = rw (← e, ← f) (either_first (ray o (triangle_of s a)) (ray o (triangle_of s b)) (hits s o l))
  hits_permute (Permᴰ.trans d g) = Permᴰ.trans (hits_permute d) (hits_permute g)

  hits_kept : (b : Bounds) (at : Indices) (l : List ℕ) → hits s o (kept (ahead s b at) l) ≡ crossings_in s b at o l
  unfolding hits kept crossings_in crossing_on one
  hits_kept b at [] = refl
  hits_kept b at (i ∷ l) = go (ahead s b at i) (hits_kept b at l)
    where
      go : (x : Bool) → hits s o (kept (ahead s b at) l) ≡ crossings_in s b at o l
          → hits s o (one x i ++ kept (ahead s b at) l) ≡ listed (cond x (ray o (triangle_of s i)) Miss) ++ crossings_in s b at o l
      go true e = ap (λ (r : List Float). listed (ray o (triangle_of s i)) ++ r) e
      go false e = e

  hits_scanned : (b : Bounds) (at : Indices) → at.j < 96 → hits s o (scanned s b at (length s / 72)) ≡ crossings b at o (mesh s)
  hits_scanned b at low =
      ap (hits s o) (sym (same_candidates s b at low (length s / 72)))
      ∙ hits_kept b at (row_list s b (length s / 72) (pair_of at.j at.k))
      ∙ same_crossings s b at o low

  -- sorted, what is found by any permutation of the candidates is what the scan's crossings are
  pub hits_sorted : (b : Bounds) (at : Indices) (l : List ℕ) → at.j < 96 → Permᴰ l (scanned s b at (length s / 72)) → sorted (hits s o l) ≡ sorted (crossings b at o (mesh s))
  hits_sorted b at l low d =
      sym (sorted_same (Permᴰ.symm (rw (hits_scanned b at low) at (hits_permute d))) (crossings_plain b at o (mesh s)))
