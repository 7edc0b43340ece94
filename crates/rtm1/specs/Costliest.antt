-- The most costly model of a grid: a point file with every cell, the counts of its tree, and the two calls. Definitions only.
use Rattle.std.specs.Prelude.{Err, Ok, Result}
use Rattle.rym1.specs.declared.Cause.{Cause}
use Rattle.std.specs.Prelude.{ℕ, List, [], ◌∷◌, ◌++◌, length, ltb}
use Rattle.std.proofs.Math.Option.{some}
use Rattle.rym1.specs.Bytes.{words_bytes, splice}
use Rattle.rym1.specs.Causes.{number, when, first, Outcome, outcome, refuse}
use Rattle.rym1.specs.File.{points_bytes, size, cube, grid_cause}
use Rattle.rym1.specs.Cells.{Map, records}
use Rattle.rtm1.specs.declared.Cost.{Cost}
use Rattle.rtm1.specs.Tree.{node_count}
use Rattle.rtm1.specs.Build.{tree_length, file_tree}

-- ---- the file

-- 1 as a binary32 pattern
abbrev pub unit : ℕ
unit = 0x3f80_0000

-- every cell, all masses 1
unfoldable pub every_cell : Map
every_cell c = some (record { cauchy = unit; elliptic = unit })

-- box 0 to 1 on each axis, fields 16 to 31 and 56 to 63 zero
abbrev pub costliest_words : ℕ → List ℕ
costliest_words g =
    0x314d5952
    ∷ 1
    ∷ g
    ∷ cube g
    ∷ 0
    ∷ 0
    ∷ 0
    ∷ 0
    ∷ 0
    ∷ 0
    ∷ 0
    ∷ unit
    ∷ unit
    ∷ unit
    ∷ 0
    ∷ 0
    ∷ []

unfoldable pub costliest_header : ℕ → List ℕ
costliest_header g = words_bytes (costliest_words g)

-- and the records of every cell, in working form
unfoldable pub costliest_file : ℕ → List ℕ
costliest_file g = costliest_header g ++ points_bytes (records g every_cell)

-- ---- the numbers: those of the file's own tree. That they are the greatest is a theorem.

-- the greatest node count, and the tree length that goes with it
unfoldable pub costliest_nodes : ℕ → ℕ
costliest_nodes g = node_count (file_tree (costliest_file g))

unfoldable pub costliest_bytes : ℕ → ℕ
costliest_bytes g = tree_length (file_tree (costliest_file g))

-- ---- the calls

unfoldable pub cost : ℕ → ℕ → Cost
cost n k = record { nodes = n; bytes = k }

-- 3; else 0 and both numbers. A refusal has 0 and 0.
unfoldable pub costliest : ℕ → Outcome Cost
costliest g = refuse (grid_cause g) (cost 0 0) (outcome 0 (cost (costliest_nodes g) (costliest_bytes g)))

-- 3; 9, no room for every cell
unfoldable pub write_cause : ℕ → List ℕ → ℕ
write_cause g out = first (grid_cause g) (when (ltb (length out) (size (cube g))) 9)

-- out: the output at entry
unfoldable pub write_costliest : ℕ → List ℕ → Outcome (List ℕ)
write_costliest g out = refuse (write_cause g out) out (outcome (size (cube g)) (splice out 0 (costliest_file g)))

-- ---- what the code answers

unfoldable pub told_cost : Result Cost Cause → Outcome Cost
told_cost (Err c) = outcome (number c) (cost 0 0)
told_cost (Ok k) = outcome 0 k
