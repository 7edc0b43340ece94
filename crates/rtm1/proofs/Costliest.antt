-- The most costly model of a grid. Of its file, with anything behind it: a reader accepts it (`costliest_accepted`), it is in working form
-- (`costliest_works`), no float of its tree is too large (`costliest_small`), and build gives exactly both numbers (`costliest_reached`). Of every other
-- accepted file of the grid: at most as many nodes and tree bytes (`costliest_most`), so that 9 is never against it in as many bytes (`costliest_enough`).
-- Assumes nothing.
use Prim.Native.Nat.{ℕ, zero, suc, ◌+◌, ◌-◌, ◌*◌, ◌<◌, ◌≤◌}
use mathlib.Core.Path.{◌≡◌, refl, sym, ap, ◌∙◌}
use mathlib.Core.Bool.{Bool, true, false}
use mathlib.Core.List.{List, [], ◌++◌, append_assoc, append-nil}
use native.Mathlib.Nat.{le_trans, mul_assoc}
use native.Mathlib.Omega.{arith}
use borrow.Author.Tests.{le-ltb}
use lib.ListN.{length, get_or, drop, length-append}
use lib.Dec.{ltb}
use lib.Ieee.{binary32, binary64, sub, div, of_bits, lt}
use Rattle.float.specs.Number.{num}
use Rattle.rym1.specs.Bytes.{word, le, words_bytes, splice}
use Rattle.rym1.specs.Causes.{when, first, Outcome, outcome, refuse}
use Rattle.rym1.specs.File.{grid, count, density, volume, scale, box_min, box_max, points_bytes, size, cell, cube, groups, finite, all_finite, header_floats, below, grid_cause, file_cause, work_cause, points, repeated, repeat_cause}
use Rattle.rym1.specs.Cells.{Slot, look, at_cell, records_from, records}
use Rattle.rym1.specs.Open as files
use Rattle.rym1.specs.Open.{counted}
use Rattle.rym1.proofs.Bytes.{length_words, word_at}
use Rattle.rym1.proofs.Causes.{first_none}
use Rattle.rym1.proofs.Accepted.{Accepted, accepted, grid_none}
use Rattle.rym1.proofs.Points.{length_points}
use Rattle.rym1.proofs.Cells.{AllFinite, slot_at, cell_low, cube_few}
use Rattle.rym1.proofs.Repeated.{working_file_distinct}
use Rattle.rym1.proofs.Changes.{Laid, laid_grid, laid_look, laid_cause, laid_works}
use Rattle.rtm1.specs.Boxes.{Within, whole, cells, widest}
use Rattle.rtm1.specs.Tree.{Tree, kind_of, tree_of, tree, node_count, order}
use Rattle.rtm1.specs.Build.{tree_length, file_tree, Output, output, tree_bytes, tree_large, scratch_words, source_cause, build_cause, build}
use Rattle.rtm1.specs.Node.{least, cell_size, frame_of}
use Rattle.rtm1.specs.Costliest.{unit, every_cell, costliest_words, costliest_header, costliest_file, costliest_nodes, costliest_bytes, cost, costliest, write_cause, write_costliest}
use Rattle.rtm1.proofs.Boxes.{whole_within}
use Rattle.rtm1.proofs.Build.{scratch_marks, late, build_passed}
use Rattle.rtm1.proofs.Growth.{tree_same}
use Rattle.rtm1.proofs.Order.{order_length, order_few}
use Rattle.rtm1.proofs.Full.{Full, full_visit, nodes_most, full_alike, nodes_by, full_nodes, whole_nodes}
use Rattle.float.proofs.Low.{Low}
use Rattle.rtm1.proofs.Small.{AllOne, Framed, min_low, cell_size_low, small_tree}

-- ---- 1. the file: its bytes, its header, its lookup

pub every_record : (g lo k : ℕ) → length (records_from g every_cell lo k) ≡ k
unfolding records_from at_cell every_cell
every_record g lo zero = refl
every_record g lo (suc k) = ap suc (every_record g (suc lo) k)

pub cube_records : (g : ℕ) → length (records g every_cell) ≡ cube g
unfolding records
cube_records g = every_record g 0 (cube g)

every_finite : AllFinite every_cell
unfolding every_cell of_bits
every_finite c v e =
    let a : unit ≡ v.cauchy = cc in
    let b : unit ≡ v.elliptic = cc in
    record { cauchy_finite = rw (← a) (unfold finite in refl); elliptic_finite = rw (← b) (unfold finite in refl) }

module _ (g : ℕ) (pos : 0 < g) (few : g ≤ 256) (rest : List ℕ) where
  abbrev f : List ℕ
  f = costliest_file g ++ rest

  abbrev h : List ℕ
  h = costliest_header g

  h_long : length h ≡ 64
  unfolding costliest_header
  h_long = length_words _

  recounted : counted h (cube g) ≡ h
  unfolding counted costliest_header words_bytes le splice
  recounted = refl

  header_grid : grid h ≡ g
  unfolding grid costliest_header
  header_grid = ap (λ (l : List ℕ). word 4 l 8) (sym (append-nil _)) ∙ word_at _ [] 2 (omega arith) (omega arith)

  file_is : f ≡ files.file_of h (records (grid h) every_cell) ++ rest
  unfolding costliest_file files.file_of
  file_is = rw (header_grid, cube_records g, recounted)

  -- its words, with anything behind the header
  header_word : (q : List ℕ) (i : ℕ) → i < 16 → get_or (costliest_words g) i 0 < 4294967296 → word 4 (h ++ q) (4 * i) ≡ get_or (costliest_words g) i 0
  unfolding costliest_header
  header_word q i low fits = word_at (costliest_words g) q i low fits

  split : f ≡ h ++ (points_bytes (records g every_cell) ++ rest)
  unfolding costliest_file
  split = append_assoc h (points_bytes (records g every_cell)) rest

  word_is : (i : ℕ) → i < 16 → get_or (costliest_words g) i 0 < 4294967296 → word 4 f (4 * i) ≡ get_or (costliest_words g) i 0
  word_is i low fits = rw split (header_word (points_bytes (records g every_cell) ++ rest) i low fits)

  file_long : length f ≡ size (cube g) + length rest
  unfolding size costliest_file
  file_long = length-append (costliest_file g) rest ∙ omega (arith, length-append h (points_bytes (records g every_cell)), h_long, length_points (records g every_cell), cube_records g)

  few_cells : cube g < 4294967296
  few_cells = omega (arith, cube_few g few)

  pub costliest_accepted_header : Accepted f
  unfolding grid count density volume scale box_min box_max header_floats all_finite below finite of_bits lt size
  costliest_accepted_header =
      let w2 : word 4 f 8 ≡ g = word_is 2 (omega arith) (omega arith) in
      let w3 : word 4 f 12 ≡ cube g = word_is 3 (omega arith) few_cells in
      record {
        long = omega (arith, file_long);
        mark = word_is 0 (omega arith) (omega arith);
        version = word_is 1 (omega arith) (omega arith);
        grid_pos = rw w2 pos;
        grid_few = rw w2 few;
        room = rw w3 (omega (arith, file_long));
        floats =
            rw (
              word_is 4 (omega arith) (omega arith),
              word_is 5 (omega arith) (omega arith),
              word_is 6 (omega arith) (omega arith),
              word_is 8 (omega arith) (omega arith),
              word_is 9 (omega arith) (omega arith),
              word_is 10 (omega arith) (omega arith),
              word_is 11 (omega arith) (omega arith),
              word_is 12 (omega arith) (omega arith),
              word_is 13 (omega arith) (omega arith),
            );
        box = (
          rw (word_is 8 (omega arith) (omega arith), word_is 11 (omega arith) (omega arith)),
          rw (word_is 9 (omega arith) (omega arith), word_is 12 (omega arith) (omega arith)),
          rw (word_is 10 (omega arith) (omega arith), word_is 13 (omega arith) (omega arith)),
        );
      }

  pub costliest_laid : Laid h every_cell f
  costliest_laid = record { long = h_long; rest = rest; is = file_is; accepted = costliest_accepted_header; finite = every_finite }

  -- a reader accepts it, and it is in working form
  pub costliest_accepted : file_cause f ≡ 0
  costliest_accepted = laid_cause h every_cell f costliest_laid

  pub costliest_works : work_cause f ≡ 0
  costliest_works = laid_works h every_cell f costliest_laid

  pub costliest_grid : grid f ≡ g
  costliest_grid = laid_grid h every_cell f costliest_laid ∙ header_grid

  -- every cell is occupied
  pub costliest_full : Full (look f) g (whole g)
  unfolding every_cell slot_at
  costliest_full x y z h₁ h₂ h₃ h₄ h₅ h₆ =
      let low : cell g x y z < cube g = cell_low g x y z (record { x_low = h₂; y_low = h₄; z_low = h₆ }) in
      (_, _, laid_look h every_cell f costliest_laid (cell g x y z) (rw header_grid low))

  -- and its masses are 1
  pub costliest_ones : AllOne (look f) g
  unfolding every_cell slot_at
  costliest_ones x y z hx hy hz =
      let low : cell g x y z < cube g = cell_low g x y z (record { x_low = hx; y_low = hy; z_low = hz }) in
      rw (laid_look h every_cell f costliest_laid (cell g x y z) (rw header_grid low)) (refl, refl)

  pub costliest_framed : Framed (frame_of f)
  unfolding least cell_size box_min box_max grid
  costliest_framed =
      let cells : Low 1 (div binary64 (sub binary64 (of_bits binary32 unit) (of_bits binary32 0)) (num g)) = cell_size_low g pos few in
      record {
        mins = (
          rw (word_is 8 (omega arith) (omega arith)) min_low,
          rw (word_is 9 (omega arith) (omega arith)) min_low,
          rw (word_is 10 (omega arith) (omega arith)) min_low,
        );
        cell_sizes = (
          rw (word_is 2 (omega arith) (omega arith), word_is 8 (omega arith) (omega arith), word_is 11 (omega arith) (omega arith)) cells,
          rw (word_is 2 (omega arith) (omega arith), word_is 9 (omega arith) (omega arith), word_is 12 (omega arith) (omega arith)) cells,
          rw (word_is 2 (omega arith) (omega arith), word_is 10 (omega arith) (omega arith), word_is 13 (omega arith) (omega arith)) cells,
        );
      }

  -- so no float of its tree is too large
  pub costliest_small : tree_large f (file_tree f) ≡ false
  unfolding tree_large
  costliest_small = rw costliest_grid (small_tree (look f) g few costliest_ones (frame_of f) costliest_framed (whole g) (whole_within g pos))

-- ---- 2. the numbers: those of any lookup that has every cell

whole_cells : (g : ℕ) → cells (whole g) ≡ cube g
unfolding cube
whole_cells g =
    let e : g - 0 ≡ g = omega arith in
    rw e (sym (mul_assoc g g g))

module _ (g : ℕ) (pos : 0 < g) (few : g ≤ 256) where
  alone : costliest_file g ++ [] ≡ costliest_file g
  alone = append-nil (costliest_file g)

  grid_alone : grid (costliest_file g) ≡ g
  grid_alone = ap grid (sym alone) ∙ costliest_grid g pos few []

  full_alone : Full (look (costliest_file g)) g (whole g)
  full_alone = rw alone at (costliest_full g pos few [])

  root : Within g (whole g)
  root = whole_within g pos

  tree_alone : file_tree (costliest_file g) ≡ tree (look (costliest_file g)) g
  tree_alone = ap (tree (look (costliest_file g))) grid_alone

  -- the count by the widths alone
  pub costliest_nodes_law : costliest_nodes g ≡ whole_nodes g
  unfolding costliest_nodes
  costliest_nodes_law = ap node_count tree_alone ∙ nodes_by (look (costliest_file g)) g (whole g) root full_alone

  -- and of any lookup that has every cell, in any grid that holds the box
  pub costliest_counted : (full : ℕ → Slot) (g' : ℕ) → Within g' (whole g) → Full full g' (whole g) → node_count (tree_of full g' (whole g)) ≡ costliest_nodes g
  unfolding costliest_nodes
  costliest_counted full g' w f =
      full_alike full (look (costliest_file g)) g' g (whole g) w (whole g) root (record { same_x = refl; same_y = refl; same_z = refl }) f full_alone
      ∙ sym (ap node_count tree_alone)

  all_ordered : length (order (file_tree (costliest_file g))) ≡ cube g
  all_ordered =
      ap (λ (t : Tree). length (order t)) tree_alone
      ∙ order_length (look (costliest_file g)) g (whole g) root
      ∙ full_visit (look (costliest_file g)) g (whole g) full_alone
      ∙ whole_cells g

  pub costliest_bytes_law : costliest_bytes g ≡ 64 + 80 * costliest_nodes g + 4 * cube g
  unfolding costliest_bytes costliest_nodes tree_length
  costliest_bytes_law = rw all_ordered

-- ---- 3. every accepted file of the grid has at most as many nodes and tree bytes

pub costliest_most : (f : List ℕ) → file_cause f ≡ 0 → (node_count (file_tree f) ≤ costliest_nodes (grid f)) × (tree_length (file_tree f) ≤ costliest_bytes (grid f))
costliest_most f ok = (nodes, bytes)
  where
    g : ℕ
    g = grid f

    pos : 0 < g
    pos = (accepted f ok).grid_pos

    few : g ≤ 256
    few = (accepted f ok).grid_few

    nodes : node_count (file_tree f) ≤ costliest_nodes g
    nodes = unfold costliest_nodes in rw (tree_alone g pos few) (nodes_most (look f) (look (costliest_file g)) g (whole g) (root g pos few) (full_alone g pos few))

    ordered : length (order (file_tree f)) ≤ cube g
    ordered = rw (← whole_cells g) (order_few (look f) g (whole g) (root g pos few))

    bytes : tree_length (file_tree f) ≤ costliest_bytes g
    bytes = rw (costliest_bytes_law g pos few) (unfold tree_length in omega (arith, nodes, ordered))

-- ---- 4. the file reaches both: build writes a tree of that length and count, where it is lent enough

module _ (g : ℕ) (pos : 0 < g) (few : g ≤ 256) (rest : List ℕ) where
  same_tree : file_tree (costliest_file g ++ rest) ≡ file_tree (costliest_file g)
  same_tree =
      let f = costliest_file g ++ rest in
      ap (tree (look f)) (costliest_grid g pos few rest)
      ∙ tree_same (look f) (look (costliest_file g)) g (whole g)
      (λ x y z h₁ h₂ h₃ h₄ h₅ h₆.
      let low : cell g x y z < cube g = cell_low g x y z (record { x_low = h₂; y_low = h₄; z_low = h₆ }) in
      let low' : cell g x y z < cube (grid (costliest_header g)) = rw (header_grid g pos few rest) low in
      laid_look (costliest_header g) every_cell f (costliest_laid g pos few rest) (cell g x y z) low'
      ∙ sym (laid_look (costliest_header g) every_cell (costliest_file g) (rw (alone g pos few) at (costliest_laid g pos few [])) (cell g x y z) low'))
      ∙ sym (tree_alone g pos few)

  its_nodes : node_count (file_tree (costliest_file g ++ rest)) ≡ costliest_nodes g
  unfolding costliest_nodes
  its_nodes = ap node_count same_tree

  its_length : tree_length (file_tree (costliest_file g ++ rest)) ≡ costliest_bytes g
  unfolding costliest_bytes
  its_length = ap tree_length same_tree

  its_order : length (order (file_tree (costliest_file g ++ rest))) ≡ cube g
  its_order = ap (λ (t : Tree). length (order t)) same_tree ∙ all_ordered g pos few

  -- none of 1 to 8 and 21 is against it
  costliest_source : (words : ℕ) → 2 * groups (cube g) ≤ words → source_cause (costliest_file g ++ rest) words ≡ 0
  unfolding source_cause when
  costliest_source words enough =
      let f = costliest_file g ++ rest in
      let works = costliest_works g pos few rest in
      let eight : when (ltb words (scratch_words f)) 8 ≡ 0 = rw (scratch_marks f works, costliest_grid g pos few rest, le-ltb words (2 * groups (cube g)) enough) in
      first_none _ _ (costliest_accepted g pos few rest) ∙ first_none _ _ eight ∙ working_file_distinct f works

  module _ (words : ℕ) (out : List ℕ) (enough : 2 * groups (cube g) ≤ words) (room : costliest_bytes g ≤ length out) where
    none_against : build_cause (costliest_file g ++ rest) words out ≡ 0
    unfolding build_cause when
    none_against =
        let f = costliest_file g ++ rest in
        let large : when (tree_large f (file_tree f)) 22 ≡ 0 = rw (costliest_small g pos few rest) in
        let nine : when (ltb (length out) (tree_length (file_tree f))) 9 ≡ 0 = rw (its_length, le-ltb (length out) (costliest_bytes g) room) in
        first_none _ _ (costliest_source words enough) ∙ first_none _ _ large ∙ nine

    pub costliest_reached : build (costliest_file g ++ rest) words out
        ≡ outcome (costliest_bytes g) (output (costliest_nodes g) (cube g) (splice out 0 (tree_bytes (costliest_file g ++ rest) (file_tree (costliest_file g ++ rest)))))
    unfolding build refuse
    costliest_reached = rw (none_against, its_length, its_nodes, its_order)

-- what the call leaves in a buffer that is long enough is the file, with the rest of the buffer behind it
pub costliest_written : (g : ℕ) → 0 < g → g ≤ 256 → (out : List ℕ) → size (cube g) ≤ length out → write_costliest g out ≡ outcome (size (cube g)) (costliest_file g ++ drop (0 + length (costliest_file g)) out)
unfolding write_costliest write_cause first when refuse splice
costliest_written g pos few out room = rw (grid_none g pos few, le-ltb (length out) (size (cube g)) room)

-- ---- 5. what it is for: where that many bytes are lent, build does not answer 9

not_nine : (a t c : Bool) (out : List ℕ) (o : Outcome Output) → 64 ≤ o.answer → (refuse (first (first (when a 8) (when t 21)) (late c false)) (output 0 0 out) o).answer ≡ 9 → ⊥
unfolding first when refuse outcome
not_nine true t c out o long e = omega arith
not_nine false true c out o long e = omega arith
not_nine false false true out o long e = omega arith
not_nine false false false out o long e = omega arith

pub costliest_enough : (f : List ℕ) → file_cause f ≡ 0 → (words : ℕ) (out : List ℕ) → costliest_bytes (grid f) ≤ length out → (build f words out).answer ≡ 9 → ⊥
unfolding repeat_cause tree_length outcome
costliest_enough f ok words out room nine =
    let fits : ltb (length out) (tree_length (file_tree f)) ≡ false = le-ltb (length out) (tree_length (file_tree f)) (le_trans (costliest_most f ok).1 room) in
    let passed = ap (λ (o : Outcome Output). o.answer) (build_passed f words out ok) in
    not_nine (ltb words (scratch_words f)) (repeated (grid f) (points f)) (tree_large f (file_tree f)) out _ (omega arith) (rw fits at (sym passed ∙ nine))

-- ---- 6. computed: g 1 to 8, and 256

pub small_grids : (costliest_nodes 1 ≡ 1) × (costliest_nodes 2 ≡ 1) × (costliest_nodes 3 ≡ 9) × (costliest_nodes 4 ≡ 15) × (costliest_nodes 5 ≡ 41) × (costliest_nodes 6 ≡ 79) × (costliest_nodes 7 ≡ 109) × (costliest_nodes 8 ≡ 127)
unfolding full_nodes kind_of widest
small_grids = (
  costliest_nodes_law 1 (omega arith) (omega arith),
  costliest_nodes_law 2 (omega arith) (omega arith),
  costliest_nodes_law 3 (omega arith) (omega arith),
  costliest_nodes_law 4 (omega arith) (omega arith),
  costliest_nodes_law 5 (omega arith) (omega arith),
  costliest_nodes_law 6 (omega arith) (omega arith),
  costliest_nodes_law 7 (omega arith) (omega arith),
  costliest_nodes_law 8 (omega arith) (omega arith),
)

pub largest_grid : costliest 256 ≡ outcome 0 (cost 4194303 402653168)
unfolding costliest cost refuse grid_cause when full_nodes kind_of widest cube
largest_grid = rw (costliest_bytes_law 256 (omega arith) (omega arith), costliest_nodes_law 256 (omega arith) (omega arith))
