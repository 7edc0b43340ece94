-- All records' floats and numbers, by kind of node: how many there are, which are too large, and the bytes of both together. Assumes nothing.
use Prim.Native.Nat.{ℕ, ◌+◌}
use mathlib.Core.Path.{◌≡◌, refl, sym, ap, ◌∙◌}
use mathlib.Core.Bool.{Bool, ◌||◌, or-false, or_assoc}
use mathlib.Core.List.{List, [], ◌∷◌, ◌++◌, append-nil, append_assoc}
use native.Mathlib.Omega.{arith}
use lib.ListN.{length, length-append}
use lib.Ieee.{Float}
use Rattle.float.specs.Narrow.{any_large}
use Rattle.rtm1.specs.declared.Cells.{Cells}
use Rattle.rtm1.specs.declared.Frame.{Frame}
use Rattle.rtm1.specs.declared.Sums.{Sums}
use Rattle.rtm1.specs.declared.Numbers.{Numbers}
use Rattle.rtm1.specs.Visit.{nothing}
use Rattle.rtm1.specs.Tree.{Tree, empty, leaf, split, node_count, order}
use Rattle.rtm1.specs.Node.{node_floats, node_bytes, root_numbers, nodes_floats, some_large, nodes_numbers, records_bytes, nodes_bytes}

-- ---- which are too large

some_append : (xs ys : List (List Float)) → some_large (xs ++ ys) ≡ (some_large xs || some_large ys)
unfolding some_large
some_append [] ys = refl
some_append (x ∷ xs) ys = rw (some_append xs ys) (sym (or_assoc (any_large x) (some_large xs) (some_large ys)))

module _ (r : Frame) (b : Cells) where
  pub large_empty : some_large (nodes_floats r (empty b)) ≡ any_large (node_floats r b nothing)
  unfolding some_large nodes_floats
  large_empty = or-false (any_large (node_floats r b nothing))

  module _ (s : Sums) where
    pub large_leaf : (is : List ℕ) → some_large (nodes_floats r (leaf b s is)) ≡ any_large (node_floats r b s)
    unfolding some_large nodes_floats
    large_leaf is = or-false (any_large (node_floats r b s))

    pub large_split : (lo hi : Tree) → some_large (nodes_floats r (split b s lo hi)) ≡ (any_large (node_floats r b s) || (some_large (nodes_floats r lo) || some_large (nodes_floats r hi)))
    unfolding some_large nodes_floats
    large_split lo hi = ap (λ (t : Bool). any_large (node_floats r b s) || t) (some_append (nodes_floats r lo) (nodes_floats r hi))

-- ---- how many

floats_long : (r : Frame) (t : Tree) → length (nodes_floats r t) ≡ node_count t
unfolding nodes_floats node_count
floats_long r (empty b) = refl
floats_long r (leaf b s is) = refl
floats_long r (split b s lo hi) = omega (arith, length-append (nodes_floats r lo) (nodes_floats r hi), floats_long r lo, floats_long r hi)

numbers_long : (t : Tree) (n o : ℕ) → length (nodes_numbers t n o) ≡ node_count t
unfolding nodes_numbers node_count
numbers_long (empty b) n o = refl
numbers_long (leaf b s is) n o = refl
numbers_long (split b s lo hi) n o =
    let a = nodes_numbers lo (n + 1) o in
    let z = nodes_numbers hi (n + 1 + node_count lo) (o + length (order lo)) in
    omega (arith, length-append a z, numbers_long lo (n + 1) o, numbers_long hi (n + 1 + node_count lo) (o + length (order lo)))

-- ---- the bytes

records_append : (ws ws' : List (List Float)) (qs qs' : List Numbers) → length ws ≡ length qs
    → records_bytes (ws ++ ws') (qs ++ qs') ≡ records_bytes ws qs ++ records_bytes ws' qs'
unfolding records_bytes
records_append [] ws' [] qs' e = refl
records_append [] ws' (q ∷ qs) qs' e = absurd (omega (arith, e))
records_append (w ∷ ws) ws' [] qs' e = absurd (omega (arith, e))
records_append (w ∷ ws) ws' (q ∷ qs) qs' e =
    let one = node_bytes w q in
    ap (λ (l : List ℕ). one ++ l) (records_append ws ws' qs qs' (omega (arith, e))) ∙ sym (append_assoc one (records_bytes ws qs) (records_bytes ws' qs'))

module _ (r : Frame) (b : Cells) (n o : ℕ) where
  pub nodes_empty : nodes_bytes r (empty b) n o ≡ node_bytes (node_floats r b nothing) (root_numbers (empty b) n o)
  unfolding nodes_bytes nodes_floats nodes_numbers records_bytes
  nodes_empty = append-nil (node_bytes (node_floats r b nothing) (root_numbers (empty b) n o))

  module _ (s : Sums) where
    pub nodes_leaf : (is : List ℕ) → nodes_bytes r (leaf b s is) n o ≡ node_bytes (node_floats r b s) (root_numbers (leaf b s is) n o)
    unfolding nodes_bytes nodes_floats nodes_numbers records_bytes
    nodes_leaf is = append-nil (node_bytes (node_floats r b s) (root_numbers (leaf b s is) n o))

    pub nodes_split : (lo hi : Tree)
        → nodes_bytes r (split b s lo hi) n o
        ≡ node_bytes (node_floats r b s) (root_numbers (split b s lo hi) n o)
        ++ (nodes_bytes r lo (n + 1) o ++ nodes_bytes r hi (n + 1 + node_count lo) (o + length (order lo)))
    unfolding nodes_bytes nodes_floats nodes_numbers records_bytes
    nodes_split lo hi =
        let a = nodes_numbers lo (n + 1) o in
        let z = nodes_numbers hi (n + 1 + node_count lo) (o + length (order lo)) in
        let root = node_bytes (node_floats r b s) (root_numbers (split b s lo hi) n o) in
        ap (λ (l : List ℕ). root ++ l) (records_append (nodes_floats r lo) (nodes_floats r hi) a z (floats_long r lo ∙ sym (numbers_long lo (n + 1) o)))
