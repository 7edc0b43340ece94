-- What a reader has to believe, for every lookup, every grid g, and every box b of at least one cell within the grid: `Within g b`.
-- To believe it, read the definitions (rtm1/specs), the words of specs/Said, and the signatures here. Assumes nothing.
use Prim.Native.Nat.{ℕ, ◌+◌, ◌*◌, ◌/◌, ◌%◌, ◌<◌, ◌≤◌}
use mathlib.Core.Path.{◌≡◌, refl, sym, ap, ◌∙◌, subst}
use mathlib.Core.Bool.{true, false}
use mathlib.Core.Option.{some}
use mathlib.Core.Logic.{◌↔◌}
use mathlib.Core.List.{List, [], ◌++◌}
use native.Mathlib.Nat.{le_trans}
use native.Mathlib.Omega.{arith}
use lib.ListN.{length, take, drop}
use Rattle.rym1.specs.File.{grid, count, point_at, cell, cell_of, cube, all_finite, file_cause, repeat_cause}
use Rattle.rym1.specs.Cells.{Masses, Slot, held, masses_of, look}
use Rattle.rym1.proofs.Bytes.{AllBytes, word_lt}
use Rattle.rym1.proofs.Accepted.{Inside, accepted}
use Rattle.rym1.proofs.Cells.{cell_low, cube_few}
use Rattle.rym1.proofs.Repeated.{file_only_record}
use Rattle.rtm1.specs.declared.Cells.{Cells}
use Rattle.rtm1.specs.declared.Axis.{Axis}
use Rattle.rtm1.specs.declared.Kind.TheVariants.{Split}
use Rattle.rtm1.specs.declared.Sums.{Sums}
use Rattle.rtm1.specs.Boxes.{Within, whole, cells, widest, lower, upper}
use Rattle.rtm1.specs.Visit.{Placed, visit}
use Rattle.rtm1.specs.Tree.{Tree, leaf, kind_at, indices, grow, fuel, tree_of, tree, node_count, order, occupied}
use Rattle.rtm1.specs.Node.{frame_of}
use Rattle.rtm1.specs.Build.{tree_bytes, tree_length, tree_large, file_tree, build}
use Rattle.rtm1.proofs.Boxes.{Halves, halves, whole_within, cells_few}
use Rattle.rtm1.proofs.Visit.{visit_halves}
use Rattle.rtm1.proofs.Growth as growth
use Rattle.rtm1.proofs.Growth.{by_kind, fuel_enough, tree_same}
use Rattle.rtm1.proofs.Order as words
use Rattle.rtm1.proofs.Order.{order_permutes, nodes_at_most, nodes_exact, counted}
use Rattle.rtm1.proofs.Bytes.{length_tree}
use Rattle.rtm1.proofs.Measured.{fit, nodes_fine}
use Rattle.rtm1.proofs.Read as reading
use Rattle.rtm1.proofs.Build.{build_out, answered_small}
use Rattle.rtm1.specs.Read.{Turn, nodes_in, floats_at, order_words, leaf_words, walk, Reads, Measures}
use Rattle.tree_laws.specs.Said.{◌∈◌, ◌~◌, times, In, Part, OneOf, Found, Holds, Somewhere, Distinct, Leads, place, ahead, LeafOf, Stands, OneLeaf}
use Rattle.tree_laws.proofs.Lists.{perm_times, each_once}
use Rattle.tree_laws.proofs.Boxes.{in_halves}
use Rattle.tree_laws.proofs.Visit.{visit_are, in_one_half, visit_once, index_from}
use Rattle.tree_laws.proofs.Leaves.{leads_one, node_is, leaf_is, stands}
use Rattle.tree_laws.proofs.Order.{order_holds, words_at_law}
use Rattle.tree_laws.proofs.Read.{reads_node, measures_node, walk_in, walk_out, leaf_read}
use Rattle.tree_laws.proofs.Cells.{same_cell, numbered, number_in, file_named, file_distinct, file_low, file_place}

module _ (look : ℕ → Slot) (g : ℕ) (b : Cells) (ok : Within g b) where
  -- ---- 1. the tree without fuel

  -- any fuel from `fuel b` on grows the same tree
  pub any_fuel : (k : ℕ) → fuel b ≤ k → grow look g k (kind_at look g b) b ≡ tree_of look g b
  any_fuel = fuel_enough look g b ok

  -- the tree is `empty`, a leaf, or a split into the trees of the two halves, by the box's kind (`by_kind`: rtm1/proofs/Growth)
  pub tree_is : tree_of look g b ≡ by_kind look g (kind_at look g b) b
  tree_is = growth.tree_is look g b ok

  -- of a split, both halves are boxes of at least one cell within the grid, so all of this holds of them too
  pub halves_within : kind_at look g b ≡ Split → Within g (lower (widest b) b) × Within g (upper (widest b) b)
  halves_within e = let two : Halves g b = halves g (length (visit look g b)) b e ok in (two.low.within, two.high.within)

  -- ---- 2. the two halves, cut across any axis

  -- a cell lies in the box exactly if it lies in exactly one half
  pub cell_in_one_half : (a : Axis) (x y z : ℕ) → In b x y z ↔ OneOf (In (lower a b) x y z) (In (upper a b) x y z)
  cell_in_one_half a x y z = in_halves b x y z a

  -- the points of the box are those that the lookup has at its cells
  pub points_of_box : (p : Placed) → (p ∈ visit look g b) ↔ (In b p.x p.y p.z × Found look g p)
  points_of_box = visit_are look g b

  -- a point is one of the box exactly if it is one of exactly one half
  pub point_in_one_half : (a : Axis) (p : Placed) → (p ∈ visit look g b) ↔ OneOf (p ∈ visit look g (lower a b)) (p ∈ visit look g (upper a b))
  point_in_one_half = in_one_half look g b

  -- and all of them together are the same, with their repetitions, in some other order
  pub points_of_halves : (a : Axis) → visit look g (lower a b) ++ visit look g (upper a b) ~ visit look g b
  points_of_halves = visit_halves look g b ok.proper

  -- ---- 3. the leaves

  -- an occupied cell of the box stands in exactly one leaf, and that leaf's order words hold its index
  pub leaf_theorem : (x y z i : ℕ) → In b x y z → Holds look (cell g x y z) i → Stands (tree_of look g b) x y z i
  leaf_theorem = stands look g b ok

  -- every node is the tree of a box, which is a part of b; so all of this holds of it too
  pub every_node : (way : List Turn) (n : Tree) → Leads (tree_of look g b) way n → (c : Cells) × Within g c × Part c b × (n ≡ tree_of look g c)
  every_node way n = node_is look g way b ok n

  -- every leaf has the sums and the indices of the points of its own box
  pub every_leaf : (way : List Turn) (c : Cells) (s : Sums) (is : List ℕ) → Leads (tree_of look g b) way (leaf c s is) → LeafOf look g b c s is
  every_leaf way c s is = leaf_is look g way b ok c s is

  -- ---- 4. the order words and the nodes

  -- the order words are a permutation of the indices of the points, in the order of the visit
  pub order_words_law : order (tree_of look g b) ~ indices (visit look g b)
  order_words_law = order_permutes look g b ok

  -- so each index stands there as often as among the points, there are as many words as points, and no more than cells
  pub order_times : (i : ℕ) → times i (order (tree_of look g b)) ≡ times i (indices (visit look g b))
  order_times i = perm_times i order_words_law

  pub order_length : length (order (tree_of look g b)) ≡ length (visit look g b)
  order_length = words.order_length look g b ok

  pub order_few : length (order (tree_of look g b)) ≤ cells b
  order_few = words.order_few look g b ok

  -- an index stands there exactly if a cell of the box holds it
  pub order_has : (i : ℕ) → (i ∈ order (tree_of look g b)) ↔ Somewhere look g b i
  order_has = order_holds look g b ok

  -- at most one node to a cell
  pub node_count_law : node_count (tree_of look g b) ≤ cells b
  node_count_law = nodes_at_most look g b ok

  -- ---- 5. two lookups

  -- a lookup that agrees with this one on the cells of the box grows the same tree
  pub same_tree : (look' : ℕ → Slot) → ((x y z : ℕ) → In b x y z → look (cell g x y z) ≡ look' (cell g x y z)) → tree_of look g b ≡ tree_of look' g b
  same_tree look' e =
      tree_same look look' g b (λ x y z h₁ h₂ h₃ h₄ h₅ h₆. e x y z (record { from_x = h₁; to_x = h₂; from_y = h₃; to_y = h₄; from_z = h₅; to_z = h₆ }))

-- ---- 6. any tree

-- a way leads to one node
pub one_node : (t : Tree) (way : List Turn) (n n' : Tree) → Leads t way n → Leads t way n' → n ≡ n'
one_node = leads_one

-- a leaf's words stand together, after those of all leaves to its left
pub leaf_words_at : (t : Tree) (way : List Turn) (c : Cells) (s : Sums) (is : List ℕ) → Leads t way (leaf c s is)
    → take (length is) (drop (ahead t way) (order t)) ≡ is
leaf_words_at = words_at_law

-- a tree's bytes are as long as `tree_length` says
pub bytes_length : (f : List ℕ) (t : Tree) → length (tree_bytes f t) ≡ tree_length t
bytes_length = length_tree

-- ---- 7. where no two cells of the grid hold one index

module _ (look : ℕ → Slot) (g : ℕ) (b : Cells) (ok : Within g b) (distinct : Distinct look g)
    (x y z i : ℕ) (inside : In b x y z) (holds : Holds look (cell g x y z) i)
  where
    only : (x' y' z' : ℕ) → In b x' y' z' → Holds look (cell g x' y' z') i → (x' ≡ x) × (y' ≡ y) × (z' ≡ z)
    only x' y' z' h k =
        let here : Inside g x y z = omega arith in
        let there : Inside g x' y' z' = omega arith in
        same_cell g x' y' z' x y z there here (distinct (cell g x' y' z') (cell g x y z) i (cell_low g x' y' z' there) (cell_low g x y z here) k holds)

    -- the index of an occupied cell stands exactly once in all the order words
    pub index_once : times i (order (tree_of look g b)) ≡ 1
    index_once = order_times look g b ok i ∙ visit_once look g b x y z i inside holds only

    -- and in no other leaf's words than those of the leaf that has the cell
    pub index_in_one_leaf : (way : List Turn) (c : Cells) (s : Sums) (is : List ℕ) → Leads (tree_of look g b) way (leaf c s is) → i ∈ is
        → way ≡ (leaf_theorem look g b ok x y z i inside holds).way
    index_in_one_leaf way c s is l m =
        let known = every_leaf look g b ok way c s is l in
        let (x', y', z', h, k) = index_from look g c i (rw known.words at m) in
        let (ex, ey, ez) = only x' y' z' (known.part x' y' z' h) k in
        (leaf_theorem look g b ok x y z i inside holds).alone way c s is l (omega arith)

-- ---- 8. the root: the whole grid

pub root_within : (g : ℕ) → 0 < g → Within g (whole g)
root_within = whole_within

pub root_in : (g x y z : ℕ) → In (whole g) x y z ↔ ((x < g) × (y < g) × (z < g))
root_in g x y z = omega arith

-- every cell number of the grid is some cell's
pub every_cell_law : (g c : ℕ) → c < cube g → In (whole g) (c % g) (c / g % g) (c / g / g) × (cell g (c % g) (c / g % g) (c / g / g) ≡ c)
every_cell_law g c h = (number_in g c h, numbered g c)

-- an occupied cell of the grid stands in exactly one leaf of the whole tree
pub root_leaf : (look : ℕ → Slot) (g x y z i : ℕ) → x < g → y < g → z < g → Holds look (cell g x y z) i → Stands (tree look g) x y z i
root_leaf look g x y z i hx hy hz = leaf_theorem look g (whole g) (root_within g (omega arith)) x y z i (omega arith)

-- lookups that agree on the cell numbers of the grid have the same whole tree
pub root_same : (look look' : ℕ → Slot) (g : ℕ) → ((c : ℕ) → c < cube g → look c ≡ look' c) → tree look g ≡ tree look' g
root_same look look' g e = tree_same look look' g (whole g) (λ x y z h₁ h₂ h₃ h₄ h₅ h₆. e (cell g x y z) (cell_low g x y z (record { x_low = h₂; y_low = h₄; z_low = h₆ })))

-- ---- 9. point files

-- where a cell holds index i, record i names it and has its masses
pub file_record : (f : List ℕ) (c i : ℕ) (m : Masses) → look f c ≡ held i m
    → (i < count f) × (cell_of (grid f) (point_at f (64 + 16 * i)) ≡ c) × (masses_of (point_at f (64 + 16 * i)) ≡ m)
file_record = file_named

-- so no two cells hold one index
pub file_cells_differ : (f : List ℕ) → Distinct (look f) (grid f)
file_cells_differ = file_distinct

module _ (f : List ℕ) (ok : file_cause f ≡ 0) where
  root : Within (grid f) (whole (grid f))
  root = root_within (grid f) (accepted f ok).grid_pos

  -- only cells of the grid are occupied
  pub file_in_grid : (c i : ℕ) → Holds (look f) c i → c < cube (grid f)
  file_in_grid = file_low f ok

  -- every occupied cell stands in exactly one leaf of the file's tree, and that leaf's order words hold its index
  pub file_leaf : (c i : ℕ) → Holds (look f) c i → Stands (file_tree f) (c % grid f) (c / grid f % grid f) (c / grid f / grid f) i
  file_leaf c i h = let (inside, holds) = file_place f ok c i h in leaf_theorem (look f) (grid f) (whole (grid f)) root _ _ _ i inside holds

  -- the order words are the indices of the occupied cells,
  pub file_order_has : (i : ℕ) → (i ∈ order (file_tree f)) ↔ ((c : ℕ) × Holds (look f) c i)
  file_order_has i =
      let has = order_has (look f) (grid f) (whole (grid f)) root i in (
        λ m. let (x, y, z, inside, holds) = has.0 m in (cell (grid f) x y z, holds),
        λ (c, h). let (inside, holds) = file_place f ok c i h in has.1 (_, _, _, inside, holds),
      )

  -- each of them once,
  pub file_index_once : (c i : ℕ) → Holds (look f) c i → times i (order (file_tree f)) ≡ 1
  file_index_once c i h =
      let (inside, holds) = file_place f ok c i h in
      index_once (look f) (grid f) (whole (grid f)) root (file_distinct f) _ _ _ i inside holds

  -- of a file in which no two records name one cell: each record's, so that there are as many order words as records,
  pub file_record_once : repeat_cause f ≡ 0 → (k : ℕ) → k < count f → times k (order (file_tree f)) ≡ 1
  file_record_once once k h = file_index_once _ k (_, file_only_record f once k h)

  pub file_order_count : repeat_cause f ≡ 0 → length (order (file_tree f)) ≡ count f
  file_order_count once =
      each_once (count f) (order (file_tree f)) (file_record_once once) (λ i m. let (c, h) = (file_order_has i).0 m in (file_record f c i h.0 h.1).0)

  -- and in no other leaf's words than those of the leaf that has the cell
  pub file_index_in_one_leaf : (c i : ℕ) (h : Holds (look f) c i) (way : List Turn) (b : Cells) (s : Sums) (is : List ℕ) → Leads (file_tree f) way (leaf b s is) → i ∈ is
      → way ≡ (file_leaf c i h).way
  unfolding file_leaf
  file_index_in_one_leaf c i h =
      let (inside, holds) = file_place f ok c i h in
      index_in_one_leaf (look f) (grid f) (whole (grid f)) root (file_distinct f) _ _ _ i inside holds

-- ---- 10. tree files: what is read off the bytes (rtm1: Read) of a tree, with anything behind them, is the tree

-- h: a point file, of which the header alone goes into the bytes; no index is too large for an order word
module _ (h rest : List ℕ) (look : ℕ → Slot) (g : ℕ) (pos : 0 < g) (few : g ≤ 256) (low : (c i : ℕ) → c < cube g → Holds look c i → i < 4294967296) where
  abbrev tree_file : List ℕ
  tree_file = tree_bytes h (tree look g) ++ rest

  whole_grid : Within g (whole g)
  whole_grid = root_within g pos

  pub node_count_few : node_count (tree look g) ≤ cube g
  node_count_few = le_trans (node_count_law look g (whole g) whole_grid) (cells_few g (whole g) whole_grid)

  -- and fewer than 2^24, so that places are whole numbers that binary32 has
  pub node_count_exact : node_count (tree look g) ≤ 11184809
  node_count_exact = nodes_exact look g few (whole g) whole_grid

  words_few : length (order (tree look g)) ≤ cube g
  words_few = le_trans (order_few look g (whole g) whole_grid) (cells_few g (whole g) whole_grid)

  words_low : (i : ℕ) → i ∈ order (tree look g) → i < 4294967296
  words_low i m =
      let (x, y, z, inside, holds) = (order_has look g (whole g) whole_grid i).0 m in
      low (cell g x y z) i (cell_low g x y z (omega arith)) holds

  pub nodes_read : nodes_in tree_file ≡ node_count (tree look g)
  nodes_read = reading.nodes_read h (tree look g) rest (counted look g (whole g) whole_grid) (le_trans node_count_exact (omega arith)) (le_trans words_few (cube_few g few)) words_low

  pub order_read : order_words tree_file ≡ order (tree look g)
  order_read = reading.order_read h (tree look g) rest (counted look g (whole g) whole_grid) (le_trans node_count_exact (omega arith)) (le_trans words_few (cube_few g few)) words_low

  tree_read : Reads tree_file (tree look g) 0 0
  tree_read = reading.tree_read h (tree look g) rest (counted look g (whole g) whole_grid) (le_trans node_count_exact (omega arith)) (le_trans words_few (cube_few g few)) words_low

  -- each node is read at its preorder place: a split's links lead to its children's places, and are none exactly to a child without points; a leaf's
  -- start and count name its order words
  pub node_read : (way : List Turn) (m : Tree) → Leads (tree look g) way m → Reads tree_file m (place (tree look g) way) (ahead (tree look g) way)
  node_read way m l =
      let n : 0 + place (tree look g) way ≡ place (tree look g) way = omega arith in
      let o : 0 + ahead (tree look g) way ≡ ahead (tree look g) way = omega arith in
      subst (λ (k : ℕ). Reads tree_file m k (ahead (tree look g) way)) n
      (subst (λ (k : ℕ). Reads tree_file m (0 + place (tree look g) way) k) o (reads_node tree_file (tree look g) way m 0 0 tree_read l))

  -- and its floats are those of its box and sums, as they are written
  pub node_floats_law : (way : List Turn) (m : Tree) → Leads (tree look g) way m → Measures tree_file (frame_of h) m (place (tree look g) way)
  node_floats_law way m l =
      let n : 0 + place (tree look g) way ≡ place (tree look g) way = omega arith in
      let all = reading.floats_read h (tree look g) rest (counted look g (whole g) whole_grid) (le_trans node_count_exact (omega arith)) (le_trans words_few (cube_few g few)) words_low (fit look g (whole g) whole_grid) in
      subst (λ (k : ℕ). Measures tree_file (frame_of h) m k) n (measures_node tree_file (frame_of h) (tree look g) way m 0 all l)

  -- where none is too large, all of them are finite
  pub floats_finite_law : tree_large h (tree look g) ≡ false → (n : ℕ) → n < nodes_in tree_file → all_finite (floats_at tree_file n) ≡ true
  unfolding tree_large Leads place
  floats_finite_law small n low =
      let t = tree look g in
      nodes_fine tree_file (frame_of h) t 0 (fit look g (whole g) whole_grid) (node_floats_law [] t refl) small n (omega arith) (omega (arith, nodes_read))

  -- the walk by links reaches the nodes that have points, each by the way down the tree, and no other place
  pub walk_reaches : (way : List Turn) (m : Tree) → Leads (tree look g) way m → occupied m ≡ true → walk tree_file way ≡ some (place (tree look g) way)
  unfolding walk
  walk_reaches way m l k =
      let n : 0 + place (tree look g) way ≡ place (tree look g) way = omega arith in
      walk_in tree_file (tree look g) way m 0 0 tree_read l k ∙ ap some n

  pub walk_leads : (way : List Turn) (k : ℕ) → walk tree_file way ≡ some k → (m : Tree) × Leads (tree look g) way m × (k ≡ place (tree look g) way)
  unfolding walk
  walk_leads way k e =
      let (m, l, at) = walk_out tree_file (tree look g) way 0 0 k tree_read e in
      (m, l, omega arith)

  -- an occupied cell's index stands in exactly one leaf of the file
  pub read_leaf : Distinct look g → (x y z i : ℕ) → x < g → y < g → z < g → Holds look (cell g x y z) i → OneLeaf tree_file i
  unfolding Reads
  read_leaf distinct x y z i hx hy hz holds =
      let t = tree look g in
      let inside : In (whole g) x y z = omega arith in
      let st = leaf_theorem look g (whole g) whole_grid x y z i inside holds in
      let d = node_read st.way (leaf st.box st.sums st.words) st.leads in
      record {
        way = st.way;
        at = place t st.way;
        reached = walk_reaches st.way (leaf st.box st.sums st.words) st.leads (unfold occupied in refl);
        no_links = (d.0.left_is, d.0.right_is);
        holds = subst (λ (l : List ℕ). i ∈ l) (sym d.1) st.holds;
        only = λ way at e m. one way at e m;
        once = ap (times i) order_read ∙ index_once look g (whole g) whole_grid distinct x y z i inside holds;
      }
    where
      one : (way : List Turn) (at : ℕ) → walk tree_file way ≡ some at → i ∈ leaf_words tree_file at
          → way ≡ (leaf_theorem look g (whole g) whole_grid x y z i (omega arith) holds).way
      one way at e m =
          let (n, l, p) = walk_leads way at e in
          let (c, s, is, q, k) = leaf_read tree_file n (place (tree look g) way) (ahead (tree look g) way) i (node_read way n l) (subst (λ (a : ℕ). i ∈ leaf_words tree_file a) p m) in
          index_in_one_leaf look g (whole g) whole_grid distinct x y z i (omega arith) holds way c s is (subst (λ (u : Tree). Leads (tree look g) way u) q l) k

-- ---- 11. what build writes

-- of an accepted point file, given as bytes, where build answers a length
module _ (f : List ℕ) (ok : file_cause f ≡ 0) (bytes : AllBytes f) (words : ℕ) (out : List ℕ) (done : 64 ≤ (build f words out).answer) where
  low : (c i : ℕ) → c < cube (grid f) → Holds (look f) c i → i < 4294967296
  unfolding count
  low c i k (m, e) = omega (arith, (file_record f c i m e).0, word_lt 4 f 12 bytes)

  -- each occupied cell's index stands in exactly one leaf of what build wrote, and the record at that index names the cell and has its masses
  pub written_leaf : (c i : ℕ) (m : Masses) → look f c ≡ held i m
      → OneLeaf (build f words out).left.out i × (cell_of (grid f) (point_at f (64 + 16 * i)) ≡ c) × (masses_of (point_at f (64 + 16 * i)) ≡ m)
  written_leaf c i m h =
      let g = grid f in
      let a = accepted f ok in
      let (inside, holds) = file_place f ok c i (m, h) in
      let t = file_tree f in (
        subst (λ (s : List ℕ). OneLeaf s i) (sym (build_out f words out ok done))
            (read_leaf f (drop (length (tree_bytes f t)) out) (look f) g a.grid_pos a.grid_few low (file_distinct f)
            (c % g) (c / g % g) (c / g / g) i inside.to_x inside.to_y inside.to_z holds),
        (file_record f c i m h).1,
        (file_record f c i m h).2,
      )

  -- every float of every node that build wrote is finite
  pub written_finite : (n : ℕ) → n < nodes_in (build f words out).left.out → all_finite (floats_at (build f words out).left.out n) ≡ true
  written_finite =
      let a = accepted f ok in
      let t = file_tree f in
      subst (λ (s : List ℕ). (n : ℕ) → n < nodes_in s → all_finite (floats_at s n) ≡ true) (sym (build_out f words out ok done))
      (floats_finite_law f (drop (length (tree_bytes f t)) out) (look f) (grid f) a.grid_pos a.grid_few low (answered_small f words out ok done))
