-- The tree over a box, grown from a lookup. Definitions only.
use Rattle.std.specs.Prelude.{ℕ, zero, suc, ◌+◌, Bool, true, false, ◌||◌, List, [], ◌++◌, map, length, leb, eqb}
use Rattle.rym1.specs.Cells.{Slot}
use Rattle.rtm1.specs.declared.Cells.{Cells}
use Rattle.rtm1.specs.declared.Axis.TheVariants.{X, Y, Z}
use Rattle.rtm1.specs.declared.Kind.{Kind}
use Rattle.rtm1.specs.declared.Kind.TheVariants.{Empty, Leaf, Split}
use Rattle.rtm1.specs.declared.Sums.{Sums}
use Rattle.rtm1.specs.Boxes.{width, single, widest, lower, upper, whole}
use Rattle.rtm1.specs.Visit.{Placed, visit, nothing, total}

-- a node without points; a leaf with its sums and its points' indices; a node with its sums and two children
pub data Tree : Type 0 where
  empty : Cells → Tree
  leaf : Cells → Sums → List ℕ → Tree
  split : Cells → Sums → Tree → Tree → Tree

-- no points; count at most 8, or all widths 1; else split
abbrev pub kind_by : Bool → Bool → Kind
kind_by true few = Empty
kind_by false true = Leaf
kind_by false false = Split

unfoldable pub kind_of : ℕ → Cells → Kind
kind_of n b = kind_by (eqb n 0) (leb n 8 || single b)

abbrev pub kind_at : (ℕ → Slot) → ℕ → Cells → Kind
kind_at look g b = kind_of (length (visit look g b)) b

abbrev pub sums_of : (ℕ → Slot) → ℕ → Cells → Sums
sums_of look g b = total nothing (visit look g b)

abbrev pub indices : List Placed → List ℕ
indices ps = map (λ (p : Placed). p.index) ps

-- The first number bounds how deep the tree goes. A half's widths add up to less than the box's, so `fuel` is enough, and the first clause is not reached.
unfoldable pub grow : (ℕ → Slot) → ℕ → ℕ → Kind → Cells → Tree
grow look g zero kind b = empty b
grow look g (suc k) Empty b = empty b
grow look g (suc k) Leaf b = leaf b (sums_of look g b) (indices (visit look g b))
grow look g (suc k) Split b =
    split b (sums_of look g b)
    (grow look g k (kind_at look g (lower (widest b) b)) (lower (widest b) b))
    (grow look g k (kind_at look g (upper (widest b) b)) (upper (widest b) b))

abbrev pub fuel : Cells → ℕ
fuel b = suc (width X b + width Y b + width Z b)

abbrev pub tree_of : (ℕ → Slot) → ℕ → Cells → Tree
tree_of look g b = grow look g (fuel b) (kind_at look g b) b

-- the tree of a whole grid
abbrev pub tree : (ℕ → Slot) → ℕ → Tree
tree look g = tree_of look g (whole g)

-- ---- what it comes to

unfoldable pub node_count : Tree → ℕ
node_count (empty b) = 1
node_count (leaf b s is) = 1
node_count (split b s l r) = 1 + node_count l + node_count r

-- the order: the leaves' points, left before right
unfoldable pub order : Tree → List ℕ
order (empty b) = []
order (leaf b s is) = is
order (split b s l r) = order l ++ order r

unfoldable pub occupied : Tree → Bool
occupied (empty b) = false
occupied (leaf b s is) = true
occupied (split b s l r) = true
