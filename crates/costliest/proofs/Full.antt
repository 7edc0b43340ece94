-- Boxes whose every cell is occupied: their kind, their nodes by their halves, and that the numbers fit. Assumes nothing.
use Prim.Native.Nat.{ℕ, ◌+◌, ◌≤◌, ◌<◌}
use mathlib.Core.Path.{◌≡◌, refl, sym, ap, ◌∙◌, subst}
use native.Mathlib.Omega.{arith}
use Rattle.rym1.specs.File.{cell}
use Rattle.rtm1.specs.declared.Cells.{Cells}
use Rattle.rtm1.specs.declared.Kind.{Kind}
use Rattle.rtm1.specs.declared.Kind.TheVariants.{Empty, Leaf, Split}
use Rattle.rtm1.specs.Boxes.{Within, cells, lower, upper, widest}
use Rattle.rtm1.specs.Tree.{kind_of, kind_at, tree_of, node_count}
use Rattle.rtm1.proofs.Boxes.{Halves, halves}
use Rattle.rtm1.proofs.Growth.{tree_empty, tree_leaf, tree_split}
use Rattle.rtm1.proofs.Full.{Full, Alike, full_visit, full_alike}
use Rattle.rtm1.proofs.Order.{nodes_exact}
use Rattle.costliest.specs.Every.{every}

pub every_full : (g : ℕ) (b : Cells) → Full every g b
unfolding every
every_full g b x y z h₁ h₂ h₃ h₄ h₅ h₆ = (cell g x y z, _, refl)

pub kind_every : (b : Cells) → kind_at every 256 b ≡ kind_of (cells b) b
kind_every b = ap (λ (n : ℕ). kind_of n b) (full_visit every 256 b (every_full 256 b))

-- a box that is not split
pub one_node : (b : Cells) (n : ℕ) (k : Kind) → n ≡ cells b → k ≡ kind_of n b → (k ≡ Split → ⊥) → 1 ≡ node_count (tree_of every 256 b)
unfolding node_count
one_node b n Empty e m h = sym (ap node_count (tree_empty every 256 b (kind_every b ∙ ap (λ (v : ℕ). kind_of v b) (sym e) ∙ sym m)))
one_node b n Leaf e m h = sym (ap node_count (tree_leaf every 256 b (kind_every b ∙ ap (λ (v : ℕ). kind_of v b) (sym e) ∙ sym m)))
one_node b n Split e m h = absurd (h refl)

pub split_halves : (b : Cells) → Within 256 b → kind_of (cells b) b ≡ Split → Halves 256 b
split_halves b w e = halves 256 (cells b) b e w

-- by its halves
pub nodes_halves : (b : Cells) → Within 256 b → kind_of (cells b) b ≡ Split → (lo hi : Cells) → lo ≡ lower (widest b) b → hi ≡ upper (widest b) b
    → 1 + node_count (tree_of every 256 lo) + node_count (tree_of every 256 hi) ≡ node_count (tree_of every 256 b)
unfolding node_count
nodes_halves b w e lo hi el eh = rw (el, eh) (sym (ap node_count (tree_split every 256 b (kind_every b ∙ e) w)))

-- boxes of the same widths
pub same_nodes : (b c : Cells) → Within 256 b → Within 256 c → Alike b c → node_count (tree_of every 256 b) ≡ node_count (tree_of every 256 c)
same_nodes b c w v a = full_alike every every 256 256 b w c v a (every_full 256 b) (every_full 256 c)

pub nodes_fit : (b : Cells) → Within 256 b → node_count (tree_of every 256 b) ≤ 11184809
nodes_fit b w = nodes_exact every 256 (omega arith) b w

-- what is known of the halves of a box
pub record Parts (b low high : Cells) : Type 0 where
  pub low_in : Within 256 low
  pub high_in : Within 256 high
  pub low_fewer : cells low < cells b
  pub high_fewer : cells high < cells b
  pub sum : 1 + node_count (tree_of every 256 low) + node_count (tree_of every 256 high) ≡ node_count (tree_of every 256 b)
  pub fits : node_count (tree_of every 256 b) ≤ 11184809

pub parts : (b low high : Cells) (n : ℕ) (k : Kind) → Within 256 b → n ≡ cells b → k ≡ kind_of n b → k ≡ Split → low ≡ lower (widest b) b → high ≡ upper (widest b) b → Parts b low high
parts b low high n k w e m s l h =
    let split : kind_of (cells b) b ≡ Split = sym (m ∙ ap (λ (v : ℕ). kind_of v b) e) ∙ s in
    let two : Halves 256 b = split_halves b w split in
    record {
      low_in = subst (λ (q : Cells). Within 256 q) (sym l) two.low.within;
      high_in = subst (λ (q : Cells). Within 256 q) (sym h) two.high.within;
      low_fewer = subst (λ (q : Cells). cells q < cells b) (sym l) two.low.fewer;
      high_fewer = subst (λ (q : Cells). cells q < cells b) (sym h) two.high.fewer;
      sum = nodes_halves b w split low high l h;
      fits = nodes_fit b w;
    }
