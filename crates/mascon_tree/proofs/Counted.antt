-- The tree by the kind of a box, and the whole one: its numbers fit, and what judging it came to. Assumes nothing.
use Prim.Native.Nat.{ℕ, ◌≤◌}
use mathlib.Core.Path.{◌≡◌, sym, ap, ◌∙◌, subst}
use mathlib.Core.Bool.{true, false, true≢false}
use mathlib.Core.List.{List}
use native.Mathlib.Nat.{le_trans, le_of_eq, zero-add}
use native.Mathlib.Omega.{arith}
use lib.ListN.{length}
use Rattle.rym1.specs.File.{grid}
use Rattle.rym1.specs.Cells.{Slot, look}
use Rattle.rym1.proofs.Accepted.{accepted}
use Rattle.rtm1.specs.declared.Cells.{Cells}
use Rattle.rtm1.specs.declared.Frame.{Frame}
use Rattle.rtm1.specs.declared.Sums.{Sums}
use Rattle.rtm1.specs.declared.Kind.TheVariants.{Leaf, Split}
use Rattle.rtm1.specs.Boxes.{Within, whole, lower, upper, widest}
use Rattle.rtm1.specs.Visit.{visit}
use Rattle.rtm1.specs.Tree.{Tree, leaf, split, kind_at, sums_of, indices, tree_of, node_count, order}
use Rattle.rtm1.specs.Node.{frame_of, nodes_floats, some_large}
use Rattle.rtm1.specs.Build.{tree_large, file_tree}
use Rattle.rtm1.proofs.Boxes.{whole_within}
use Rattle.rtm1.proofs.Growth.{tree_leaf, tree_split}
use Rattle.rtm1.proofs.Order.{order_length, nodes_exact, points_exact}
use Rattle.runs.specs.declared.Form.{Form}
use Rattle.runs.specs.Runs.{Ready}
use Rattle.runs.proofs.Runs.{grid_few}
use Rattle.mascon_tree.specs.declared.Next.{Next}
use Rattle.std.specs.Prelude.{Option, None, Some}
use Rattle.mascon_tree.specs.Written.{judged_of, Space}
use Rattle.mascon_tree.proofs.Judging.{fits_is, large_is}

module _ (look : ℕ → Slot) (g : ℕ) (b : Cells) where
  -- the trees by kind, x being the box's sums
  pub leaf_is : (x : Sums) → x ≡ sums_of look g b → kind_at look g b ≡ Leaf → tree_of look g b ≡ leaf b x (indices (visit look g b))
  leaf_is x ex e = rw ex (tree_leaf look g b e)

  module _ (w : Within g b) where
    pub split_is : (lo hi : Cells) → lo ≡ lower (widest b) b → hi ≡ upper (widest b) b → (x : Sums) → x ≡ sums_of look g b → kind_at look g b ≡ Split
        → tree_of look g b ≡ split b x (tree_of look g lo) (tree_of look g hi)
    split_is lo hi el eh x ex e = rw (el, eh, ex) (tree_split look g b e w)

    nodes_fit : g ≤ 256 → node_count (tree_of look g b) ≤ 16777216
    nodes_fit h = le_trans (nodes_exact look g h b w) (omega arith)

    points_fit : g ≤ 256 → length (order (tree_of look g b)) ≤ 16777216
    points_fit h = le_trans (le_of_eq (order_length look g b w)) (points_exact look g h b w)

-- ---- the root

module _ {form : Form} {words f : List ℕ} {g : ℕ} {b : Cells} (ready : Ready form words f g) (e : b ≡ whole g) where
  -- the box is the whole grid, its tree the file's
  pub root_within : Within g b
  root_within = rw (e, ready.gridded) (whole_within (grid f) (accepted f ready.accepted).grid_pos)

  pub root_tree : tree_of (look f) g b ≡ file_tree f
  root_tree = rw (e, ready.gridded)

  pub root_few : node_count (file_tree f) ≤ 16777216
  root_few = subst (λ (t : Tree). node_count t ≤ 16777216) root_tree (nodes_fit (look f) g b root_within (grid_few ready))

  pub root_short : length (order (file_tree f)) ≤ 16777216
  root_short = subst (λ (t : Tree). length (order t) ≤ 16777216) root_tree (points_fit (look f) g b root_within (grid_few ready))

  -- judging it asks for no room
  pub root_judged : (s : List ℕ) (q : Frame) → Space false s 0 0 0 q (tree_of (look f) g b)
  root_judged s q =
      subst (λ (t : Tree). Space false s 0 0 0 q t) (sym root_tree)
      (record { few = omega (arith, root_few); short = omega (arith, root_short); room = λ w. absurd (true≢false (sym w)) })

-- the file's tree has no float that is too large, and so many nodes and order words
pub record Fit (f : List ℕ) (all : Next) : Type 0 where
  pub small : tree_large f (file_tree f) ≡ false
  pub nodes : all.node ≡ node_count (file_tree f)
  pub ordered : all.order ≡ length (order (file_tree f))

-- what judging the whole tree came to
module _ (f : List ℕ) (q : Frame) (eq : q ≡ frame_of f) (judged : Option Next) (ej : judged ≡ judged_of q (file_tree f) 0 0) where
  pub root_large : judged ≡ None → tree_large f (file_tree f) ≡ true
  unfolding tree_large
  root_large e = subst (λ (r : Frame). some_large (nodes_floats r (file_tree f)) ≡ true) eq (large_is q (file_tree f) 0 0 (sym ej ∙ e))

  pub root_fits : (all : Next) → judged ≡ Some all → Fit f all
  unfolding tree_large
  root_fits all e =
      let fits = fits_is q (file_tree f) 0 0 all (sym ej ∙ e) in
      record {
        small = subst (λ (r : Frame). some_large (nodes_floats r (file_tree f)) ≡ false) eq fits.0;
        nodes = ap (λ (n : Next). n.node) fits.1 ∙ zero-add (node_count (file_tree f));
        ordered = ap (λ (n : Next). n.order) fits.1 ∙ zero-add (length (order (file_tree f)));
      }
