-- The tree without fuel: its equation by the box's kind, two lookups, and the induction over boxes. Assumes nothing.
use Prim.Native.Nat.{ℕ, zero, suc, ◌+◌, ◌≤◌}
use mathlib.Core.Path.{◌≡◌, refl, ap, ap₂, ◌∙◌}
use mathlib.Core.List.{List}
use native.Mathlib.Omega.{arith}
use lib.ListN.{length}
use Rattle.rym1.specs.Cells.{Slot}
use Rattle.rtm1.specs.declared.Cells.{Cells}
use Rattle.rtm1.specs.declared.Axis.{Axis}
use Rattle.rtm1.specs.declared.Axis.TheVariants.{X, Y, Z}
use Rattle.rtm1.specs.declared.Kind.{Kind}
use Rattle.rtm1.specs.declared.Kind.TheVariants.{Empty, Leaf, Split}
use Rattle.rtm1.specs.Boxes.{Within, width, widest, lower, upper}
use Rattle.rtm1.specs.Visit.{Placed, visit, nothing, total}
use Rattle.rtm1.specs.Tree.{Tree, empty, leaf, split, kind_of, kind_at, sums_of, indices, grow, fuel, tree_of}
use Rattle.rtm1.proofs.Boxes.{Halves, halves}
use Rattle.rtm1.proofs.Visit.{Agree, visit_same}

-- what a box becomes by its kind, from the trees of its halves
abbrev pub by_kind : (ℕ → Slot) → ℕ → Kind → Cells → Tree
by_kind look g Empty b = empty b
by_kind look g Leaf b = leaf b (sums_of look g b) (indices (visit look g b))
by_kind look g Split b = split b (sums_of look g b) (tree_of look g (lower (widest b) b)) (tree_of look g (upper (widest b) b))

module _ (look : ℕ → Slot) (g : ℕ) where
  grown : ℕ → Cells → Tree
  grown k b = grow look g k (kind_at look g b) b

  steady : (j k : ℕ) (b : Cells) → Within g b → fuel b ≤ j → fuel b ≤ k → grown j b ≡ grown k b
  unfolding grow grown
  steady zero k b w hj hk = absurd (omega arith)
  steady (suc j) zero b w hj hk = absurd (omega arith)
  steady (suc j) (suc k) b w hj hk = go (kind_at look g b) refl (steady j k)
    where
      go : (q : Kind) → kind_at look g b ≡ q → ((c : Cells) → Within g c → fuel c ≤ j → fuel c ≤ k → grown j c ≡ grown k c)
          → grow look g (suc j) q b ≡ grow look g (suc k) q b
      go Empty e below = refl
      go Leaf e below = refl
      go Split e below =
          let two : Halves g b = halves g (length (visit look g b)) b e w in
          ap₂ (split b (sums_of look g b))
          (below (lower (widest b) b) two.low.within (omega (arith, two.low.less)) (omega (arith, two.low.less)))
          (below (upper (widest b) b) two.high.within (omega (arith, two.high.less)) (omega (arith, two.high.less)))

  -- any fuel from `fuel b` on grows one tree
  pub fuel_enough : (b : Cells) → Within g b → (k : ℕ) → fuel b ≤ k → grow look g k (kind_at look g b) b ≡ tree_of look g b
  unfolding grown
  fuel_enough b w k h = steady k (fuel b) b w h (omega arith)

  pub tree_empty : (b : Cells) → kind_at look g b ≡ Empty → tree_of look g b ≡ empty b
  unfolding grow
  tree_empty b e = ap (λ (q : Kind). grow look g (fuel b) q b) e

  pub tree_leaf : (b : Cells) → kind_at look g b ≡ Leaf → tree_of look g b ≡ leaf b (sums_of look g b) (indices (visit look g b))
  unfolding grow
  tree_leaf b e = ap (λ (q : Kind). grow look g (fuel b) q b) e

  pub tree_split : (b : Cells) → kind_at look g b ≡ Split → Within g b
      → tree_of look g b ≡ split b (sums_of look g b) (tree_of look g (lower (widest b) b)) (tree_of look g (upper (widest b) b))
  unfolding grow
  tree_split b e w =
      let two : Halves g b = halves g (length (visit look g b)) b e w in
      let k = width X b + width Y b + width Z b in
      ap (λ (q : Kind). grow look g (fuel b) q b) e
      ∙ ap₂ (split b (sums_of look g b))
      (fuel_enough (lower (widest b) b) two.low.within k (omega (arith, two.low.less)))
      (fuel_enough (upper (widest b) b) two.high.within k (omega (arith, two.high.less)))

  pub tree_is : (b : Cells) → Within g b → tree_of look g b ≡ by_kind look g (kind_at look g b) b
  tree_is b w = go (kind_at look g b) refl
    where
      go : (q : Kind) → kind_at look g b ≡ q → tree_of look g b ≡ by_kind look g q b
      go Empty e = tree_empty b e
      go Leaf e = tree_leaf b e
      go Split e = tree_split b e w

-- ---- two lookups

module _ (look look' : ℕ → Slot) (g : ℕ) where
  -- no box need be proper here, and any fuel will do
  same : (k : ℕ) (b : Cells) → Agree look look' g b → grown look g k b ≡ grown look' g k b
  unfolding grow grown
  same zero b e = refl
  same (suc k) b e =
      ap (λ (ps : List Placed). grow look g (suc k) (kind_of (length ps) b) b) ps
      ∙ go (kind_at look' g b)
      (same k (lower (widest b) b) (lower_agree (widest b)))
      (same k (upper (widest b) b) (upper_agree (widest b)))
    where
      ps : visit look g b ≡ visit look' g b
      ps = visit_same look look' g b e

      lower_agree : (a : Axis) → Agree look look' g (lower a b)
      lower_agree X x y z h₁ h₂ h₃ h₄ h₅ h₆ = e x y z h₁ (omega arith) h₃ h₄ h₅ h₆
      lower_agree Y x y z h₁ h₂ h₃ h₄ h₅ h₆ = e x y z h₁ h₂ h₃ (omega arith) h₅ h₆
      lower_agree Z x y z h₁ h₂ h₃ h₄ h₅ h₆ = e x y z h₁ h₂ h₃ h₄ h₅ (omega arith)

      upper_agree : (a : Axis) → Agree look look' g (upper a b)
      upper_agree X x y z h₁ h₂ h₃ h₄ h₅ h₆ = e x y z (omega arith) h₂ h₃ h₄ h₅ h₆
      upper_agree Y x y z h₁ h₂ h₃ h₄ h₅ h₆ = e x y z h₁ h₂ (omega arith) h₄ h₅ h₆
      upper_agree Z x y z h₁ h₂ h₃ h₄ h₅ h₆ = e x y z h₁ h₂ h₃ h₄ (omega arith) h₆

      go : (q : Kind) → grown look g k (lower (widest b) b) ≡ grown look' g k (lower (widest b) b)
          → grown look g k (upper (widest b) b) ≡ grown look' g k (upper (widest b) b) → grow look g (suc k) q b ≡ grow look' g (suc k) q b
      go Empty l r = refl
      go Leaf l r = λ i. leaf b (total nothing (ps i)) (indices (ps i))
      go Split l r = λ i. split b (total nothing (ps i)) (l i) (r i)

  pub tree_same : (b : Cells) → Agree look look' g b → tree_of look g b ≡ tree_of look' g b
  unfolding grown
  tree_same b e = same (fuel b) b e

-- ---- what holds of an empty box and of a leaf, and of a split where it holds of both halves, holds of every tree

module _ (look : ℕ → Slot) (g : ℕ) (P : Cells → Tree → Type 0)
    (at_empty : (b : Cells) → Within g b → kind_at look g b ≡ Empty → P b (by_kind look g Empty b))
    (at_leaf : (b : Cells) → Within g b → kind_at look g b ≡ Leaf → P b (by_kind look g Leaf b))
    (at_split : (b : Cells) → Within g b → kind_at look g b ≡ Split → Halves g b
    → P (lower (widest b) b) (tree_of look g (lower (widest b) b)) → P (upper (widest b) b) (tree_of look g (upper (widest b) b))
    → P b (by_kind look g Split b))
  where
    by_fuel : (k : ℕ) (b : Cells) → Within g b → fuel b ≤ k → P b (tree_of look g b)
    by_fuel zero b w h = absurd (omega arith)
    by_fuel (suc k) b w h = rw (tree_is look g b w) (go (kind_at look g b) refl (by_fuel k))
      where
        go : (q : Kind) → kind_at look g b ≡ q → ((c : Cells) → Within g c → fuel c ≤ k → P c (tree_of look g c)) → P b (by_kind look g q b)
        go Empty e below = at_empty b w e
        go Leaf e below = at_leaf b w e
        go Split e below =
            let two : Halves g b = halves g (length (visit look g b)) b e w in
            at_split b w e two
            (below (lower (widest b) b) two.low.within (omega (arith, two.low.less)))
            (below (upper (widest b) b) two.high.within (omega (arith, two.high.less)))

    pub by_boxes : (b : Cells) → Within g b → P b (tree_of look g b)
    by_boxes b w = by_fuel (fuel b) b w (omega arith)
