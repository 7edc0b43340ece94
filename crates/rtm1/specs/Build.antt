-- The tree file RTM1, and what build answers and leaves in its output. Definitions only.
use Rattle.std.specs.Prelude.{Err, Ok, Result}
use Rattle.rym1.specs.declared.Cause.{Cause}
use Rattle.rtm1.specs.declared.Counts.{Counts}
use Rattle.std.specs.Prelude.{ℕ, ◌+◌, ◌*◌, Bool, cond, List, [], ◌∷◌, ◌++◌, length, eqb, ltb}
use Rattle.rym1.specs.Bytes.{words_bytes, splice}
use Rattle.rym1.specs.Causes.{number, when, first, Outcome, outcome, refuse}
use Rattle.rym1.specs.File.{grid, count, density, volume, scale, box_min, box_max, cube, groups, file_cause, work_cause, repeat_cause}
use Rattle.rym1.specs.Cells.{look}
use Rattle.rtm1.specs.Tree.{Tree, tree, node_count, order}
use Rattle.rtm1.specs.Node.{frame_of, nodes_floats, some_large, nodes_bytes}

-- f: a point file, of which the header alone is read; n: the node count. Floats keep their bits; scale, density and volume stand in this order here.
unfoldable pub header_words : List ℕ → ℕ → List ℕ
header_words f n =
    0x314d5452
    ∷ 2
    ∷ grid f
    ∷ count f
    ∷ scale f
    ∷ density f
    ∷ volume f
    ∷ 0
    ∷ box_min f 0
    ∷ box_min f 1
    ∷ box_min f 2
    ∷ box_max f 0
    ∷ box_max f 1
    ∷ box_max f 2
    ∷ n
    ∷ 0
    ∷ []

-- header, nodes in preorder, order words
unfoldable pub tree_bytes : List ℕ → Tree → List ℕ
tree_bytes f t = words_bytes (header_words f (node_count t)) ++ (nodes_bytes (frame_of f) t 0 0 ++ words_bytes (order t))

unfoldable pub tree_length : Tree → ℕ
tree_length t = 64 + 80 * node_count t + 4 * length (order t)

-- a float of the nodes is too large
unfoldable pub tree_large : List ℕ → Tree → Bool
tree_large f t = some_large (nodes_floats (frame_of f) t)

-- the tree of a point file
abbrev pub file_tree : List ℕ → Tree
file_tree f = tree (look f) (grid f)

-- ---- the call

-- besides its answer: node and order count, 0 at a refusal, and the output buffer afterwards
pub record Output : Type 0 where
  pub nodes : ℕ
  pub order : ℕ
  pub out : List ℕ

unfoldable pub output : ℕ → ℕ → List ℕ → Output
output n k s = record { nodes = n; order = k; out = s }

-- how many words of scratch: of a file in working form two per 32 cells, a word of occupied marks and a running total; of any other one per cell
unfoldable pub scratch_words : List ℕ → ℕ
scratch_words f = cond (eqb (work_cause f) 0) (2 * groups (cube (grid f))) (cube (grid f))

-- why no tree is made of a point file, with so many words of scratch lent: 1 to 7; 8, too few words; 21
unfoldable pub source_cause : List ℕ → ℕ → ℕ
source_cause f words = first (file_cause f) (first (when (ltb words (scratch_words f)) 8) (repeat_cause f))

-- that; 22, a float of the tree is too large; 9, no room for the tree
unfoldable pub build_cause : List ℕ → ℕ → List ℕ → ℕ
build_cause f words out =
    first (source_cause f words)
    (first (when (tree_large f (file_tree f)) 22)
    (when (ltb (length out) (tree_length (file_tree f))) 9))

-- f: the point file; words: how many words of scratch; out: the output at entry
unfoldable pub build : List ℕ → ℕ → List ℕ → Outcome Output
build f words out =
    refuse (build_cause f words out) (output 0 0 out)
    (outcome (tree_length (file_tree f))
    (output (node_count (file_tree f)) (length (order (file_tree f))) (splice out 0 (tree_bytes f (file_tree f)))))

-- ---- what the code answers

unfoldable pub answer_of : Result Counts Cause → ℕ
answer_of (Err c) = number c
answer_of (Ok c) = c.length

unfoldable pub nodes_of : Result Counts Cause → ℕ
nodes_of (Err c) = 0
nodes_of (Ok c) = c.nodes

unfoldable pub order_of : Result Counts Cause → ℕ
order_of (Err c) = 0
order_of (Ok c) = c.order

-- an answer, and the output that is left with it, as an outcome
unfoldable pub told : Result Counts Cause → List ℕ → Outcome Output
told r out = outcome (answer_of r) (output (nodes_of r) (order_of r) out)
