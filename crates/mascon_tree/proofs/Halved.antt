-- A box by its kind, as the recursion comes to it: its tree, and the two halves of one that is split. Assumes nothing.
use Prim.Native.Nat.{ℕ, ◌<◌}
use mathlib.Core.Path.{◌≡◌, sym, ap, ◌∙◌, subst}
use mathlib.Core.Bool.{Bool}
use mathlib.Core.List.{List}
use lib.ListN.{length}
use Rattle.rym1.specs.Cells.{Slot}
use Rattle.rtm1.specs.declared.Cells.{Cells}
use Rattle.rtm1.specs.declared.Frame.{Frame}
use Rattle.rtm1.specs.declared.Kind.{Kind}
use Rattle.rtm1.specs.declared.Kind.TheVariants.{Leaf, Split}
use Rattle.rtm1.specs.declared.Sums.{Sums}
use Rattle.rtm1.specs.Boxes.{Within, cells, widest, lower, upper}
use Rattle.rtm1.specs.Visit.{visit}
use Rattle.rtm1.specs.Tree.{Tree, leaf, split, indices, kind_of, kind_at, sums_of, tree_of}
use Rattle.rtm1.proofs.Boxes.{halves}
use Rattle.mascon_tree.specs.Written.{Space}
use Rattle.mascon_tree.proofs.Counted.{leaf_is, split_is}

-- the kind that the match goes by is the definition's
pub kind_is : (look : ℕ → Slot) (g : ℕ) (b : Cells) (x : Sums) {k k' : Kind} → x.count ≡ length (visit look g b) → k ≡ kind_of x.count b → k ≡ k' → kind_at look g b ≡ k'
kind_is look g b x e m is = sym (m ∙ ap (λ (v : ℕ). kind_of v b) e) ∙ is

-- the tree of a box that is a leaf
pub leafed : (look : ℕ → Slot) (g : ℕ) (b : Cells) (x : Sums) {kind : Kind} → x ≡ sums_of look g b → x.count ≡ length (visit look g b) → kind ≡ kind_of x.count b → kind ≡ Leaf
    → tree_of look g b ≡ leaf b x (indices (visit look g b))
leafed look g b x e n m is = leaf_is look g b x e (kind_is look g b x n m is)

-- the tree of a box that is split, with the halves as the code has them; each is in the grid, and has fewer cells
pub record Halved (look : ℕ → Slot) (g : ℕ) (b lo hi : Cells) (x : Sums) : Type 0 where
  pub tree : tree_of look g b ≡ split b x (tree_of look g lo) (tree_of look g hi)
  pub low : Within g lo
  pub high : Within g hi
  pub low_fewer : cells lo < cells b
  pub high_fewer : cells hi < cells b

pub halved : (look : ℕ → Slot) (g : ℕ) (b lo hi : Cells) (x : Sums) {kind : Kind} → Within g b → x ≡ sums_of look g b → x.count ≡ length (visit look g b) → kind ≡ kind_of x.count b → kind ≡ Split
    → (lo ≡ lower (widest b) b) × (hi ≡ upper (widest b) b) → Halved look g b lo hi x
halved look g b lo hi x w e n m is h =
    let k = kind_is look g b x n m is in
    let two = halves g (length (visit look g b)) b k w in
    record {
      tree = split_is look g b w lo hi h.0 h.1 x e k;
      low = subst (λ (q : Cells). Within g q) (sym h.0) two.low.within;
      high = subst (λ (q : Cells). Within g q) (sym h.1) two.high.within;
      low_fewer = subst (λ (q : Cells). cells q < cells b) (sym h.0) two.low.fewer;
      high_fewer = subst (λ (q : Cells). cells q < cells b) (sym h.1) two.high.fewer;
    }

-- the room of an equal tree
pub space_as : {write : Bool} {s : List ℕ} {at node before : ℕ} {r : Frame} {t t' : Tree} → t ≡ t' → Space write s at node before r t → Space write s at node before r t'
space_as {write} {s} {at} {node} {before} {r} e h = subst (λ (u : Tree). Space write s at node before r u) e h
