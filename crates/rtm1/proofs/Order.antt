-- Laws of the order words, the number of nodes, and which trees have points. Assumes nothing.
use Prim.Native.Nat.{ℕ, suc, ◌+◌, ◌*◌, ◌<◌, ◌≤◌}
use mathlib.Core.Path.{◌≡◌, refl, sym, ap₂, ◌∙◌}
use mathlib.Core.Bool.{Bool, true, false, not, ◌||◌}
use mathlib.Core.List.Permᴰ
use mathlib.Core.List.{List, [], ◌∷◌, Permᴰ}
use native.Mathlib.Nat.{le_trans}
use native.Mathlib.Omega.{arith}
use borrow.Author.Tests.{eqb-true, leb-true, leb-false}
use lib.Dec.{leb, eqb}
use lib.ListN.{length, length-map, length-append}
use Rattle.rym1.specs.Cells.{Slot}
use Rattle.rym1.proofs.Cells.{cube_few}
use Rattle.rtm1.specs.declared.Cells.{Cells}
use Rattle.rtm1.specs.declared.Kind.TheVariants.{Empty}
use Rattle.rtm1.specs.Boxes.{Within, cells, single, widest, lower, upper}
use Rattle.rtm1.specs.Visit.{Placed, visit, nothing, total}
use Rattle.rtm1.specs.Tree.{Tree, empty, leaf, split, kind_by, kind_of, kind_at, sums_of, indices, grow, fuel, tree_of, node_count, order, occupied}
use Rattle.rtm1.proofs.Lists.{perm_length, perm_append}
use Rattle.rtm1.proofs.Boxes.{Halves, cells_pos, cells_few, upper_small, lower_small, split_many, split_wide}
use Rattle.rtm1.proofs.Visit.{visit_halves, indices_halves, visit_few, total_count}
use Rattle.rtm1.proofs.Growth.{by_boxes}

-- each node's count is that of the order words below it
unfoldable pub Counted : Tree → Type 0
Counted (empty b) = Unit {0}
Counted (leaf b s is) = s.count ≡ length is
Counted (split b s l r) = (s.count ≡ length (order l) + length (order r)) × Counted l × Counted r

-- ---- a box of kind Empty has no points

by_empty : (p q : Bool) → kind_by p q ≡ Empty → p ≡ true
by_empty true q e = refl
by_empty false true e = cc
by_empty false false e = cc

pub empty_none : (l : List Placed) (b : Cells) → kind_of (length l) b ≡ Empty → l ≡ []
unfolding kind_of
empty_none [] b e = refl
empty_none (p ∷ l) b e = absurd (omega (arith, eqb-true (suc (length l)) 0 (by_empty (eqb (suc (length l)) 0) _ e)))

module _ (look : ℕ → Slot) (g : ℕ) where
  pub empty_visit : (b : Cells) → kind_at look g b ≡ Empty → visit look g b ≡ []
  empty_visit b e = empty_none (visit look g b) b e

  pub empty_sums : (b : Cells) → kind_at look g b ≡ Empty → sums_of look g b ≡ nothing
  unfolding total
  empty_sums b e = rw (empty_visit b e)

  -- a tree is occupied where its box has a point
  pub occupied_is : (b : Cells) → occupied (tree_of look g b) ≡ not (eqb (length (visit look g b)) 0)
  unfolding occupied grow kind_of
  occupied_is b = go (eqb (length (visit look g b)) 0) (leb (length (visit look g b)) 8 || single b)
    where
      go : (p q : Bool) → occupied (grow look g (fuel b) (kind_by p q) b) ≡ not p
      go true q = refl
      go false true = refl
      go false false = refl

  -- ---- the order words: a permutation of the indices of the box's points

  pub order_permutes : (b : Cells) → Within g b → Permᴰ (order (tree_of look g b)) (indices (visit look g b))
  unfolding order
  order_permutes = by_boxes look g (λ b t. Permᴰ (order t) (indices (visit look g b)))
      (λ b w e. rw (empty_visit b e) Permᴰ.nil)
      (λ b w e. Permᴰ.refl (indices (visit look g b)))
      (λ b w e two below above. Permᴰ.trans (perm_append below above) (indices_halves look g b w.proper (widest b)))

  pub order_length : (b : Cells) → Within g b → length (order (tree_of look g b)) ≡ length (visit look g b)
  order_length b w = perm_length (order_permutes b w) ∙ length-map (visit look g b) (λ (p : Placed). p.index)

  pub order_few : (b : Cells) → Within g b → length (order (tree_of look g b)) ≤ cells b
  order_few b w = rw (order_length b w) (visit_few look g b)

  pub points_exact : g ≤ 256 → (b : Cells) → Within g b → length (visit look g b) ≤ 16777216
  points_exact h b w = le_trans (visit_few look g b) (le_trans (cells_few g b w) (cube_few g h))

  -- ---- nodes

  -- at most one node to a cell; where there are three cells or more, fewer than two to three cells
  Few : ℕ → ℕ → Type 0
  Few n v = (n ≤ v) × (3 ≤ v → 3 * (n + 1) ≤ 2 * v)

  few : (b : Cells) → Within g b → Few (node_count (tree_of look g b)) (cells b)
  unfolding node_count Few
  few = by_boxes look g (λ b t. Few (node_count t) (cells b))
      (λ b w e. one (cells b) (cells_pos b w.proper))
      (λ b w e. one (cells b) (cells_pos b w.proper))
      (λ b w e two below above.
      both _ _ _ _ _ _ two.sum (split_many (length (visit look g b)) b e) (visit_few look g b)
      (upper_small (widest b) b w.proper (split_wide (length (visit look g b)) b e)) (lower_small (widest b) b w.proper) below above)
    where
      one : (v : ℕ) → 0 < v → Few 1 v
      one v h = (omega arith, λ k. omega arith)

      both : (l u v p n m : ℕ) → l + u ≡ v → 8 < p → p ≤ v → u ≤ l + l → l ≤ u → Few n l → Few m u → Few (1 + n + m) v
      both l u v p n m e h₁ h₂ h₃ h₄ hn hm =
          let lower = hn.1 (omega arith) in
          let upper = hm.1 (omega arith) in
          (omega arith, λ k. omega arith)

  pub nodes_at_most : (b : Cells) → Within g b → node_count (tree_of look g b) ≤ cells b
  unfolding Few
  nodes_at_most b w = (few b w).0

  pub nodes_thirds : (b : Cells) → Within g b → 3 ≤ cells b → 3 * (node_count (tree_of look g b) + 1) ≤ 2 * cells b
  unfolding Few
  nodes_thirds b w = (few b w).1

  -- so in the largest grid every place in preorder is below 2^24
  pub nodes_exact : g ≤ 256 → (b : Cells) → Within g b → node_count (tree_of look g b) ≤ 11184809
  nodes_exact h b w = go (leb 3 (cells b)) refl (le_trans (cells_few g b w) (cube_few g h)) (nodes_at_most b w)
    where
      go : (t : Bool) → leb 3 (cells b) ≡ t → cells b ≤ 16777216 → node_count (tree_of look g b) ≤ cells b → node_count (tree_of look g b) ≤ 11184809
      go true e all most = omega (arith, nodes_thirds b w (leb-true 3 (cells b) e))
      go false e all most = omega (arith, leb-false 3 (cells b) e)

  -- ---- counts: a leaf's is that of its words, a split's that of both halves' words

  sums_count : (b : Cells) → (sums_of look g b).count ≡ length (visit look g b)
  sums_count b = total_count nothing (visit look g b) ∙ omega arith

  halves_add : (b : Cells) → Within g b → Halves g b
      → length (visit look g b) ≡ length (order (tree_of look g (lower (widest b) b))) + length (order (tree_of look g (upper (widest b) b)))
  halves_add b w two =
      let l = visit look g (lower (widest b) b) in
      let u = visit look g (upper (widest b) b) in
      sym (perm_length (visit_halves look g b w.proper (widest b)))
      ∙ length-append l u
      ∙ ap₂ (λ (m n : ℕ). m + n) (sym (order_length (lower (widest b) b) two.low.within)) (sym (order_length (upper (widest b) b) two.high.within))

  pub counted : (b : Cells) → Within g b → Counted (tree_of look g b)
  unfolding Counted
  counted = by_boxes look g (λ b t. Counted t)
      (λ b w e. tt)
      (λ b w e. sums_count b ∙ sym (length-map (visit look g b) (λ (p : Placed). p.index)))
      (λ b w e two below above. (sums_count b ∙ halves_add b w two, below, above))
