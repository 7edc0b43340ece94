-- Boxes whose every cell is occupied: no lookup has more nodes, the widths alone decide how many, and halves of the same widths have as many. Assumes nothing.
use Prim.Native.Nat.{ℕ, zero, suc, ◌+◌, ◌*◌, ◌<◌, ◌≤◌}
use mathlib.Core.Path.{◌≡◌, refl, sym, ap, ap₂, ◌∙◌}
use mathlib.Core.Bool.{Bool, true, false}
use mathlib.Core.List.{List}
use native.Mathlib.Omega.{arith}
use borrow.Author.Tests.{eqb-true}
use lib.Dec.{eqb}
use lib.ListN.{length, length-append}
use Rattle.rym1.specs.File.{cell}
use Rattle.rym1.specs.Cells.{Masses, Slot, held}
use Rattle.rtm1.specs.declared.Cells.{Cells}
use Rattle.rtm1.specs.declared.Axis.{Axis}
use Rattle.rtm1.specs.declared.Axis.TheVariants.{X, Y, Z}
use Rattle.rtm1.specs.declared.Kind.{Kind}
use Rattle.rtm1.specs.declared.Kind.TheVariants.{Empty, Leaf, Split}
use Rattle.rtm1.specs.Boxes.{Proper, Within, whole, width, cells, widest, lower, upper}
use Rattle.rtm1.specs.Visit.{Placed, here, run, point_in, row, plane, visit}
use Rattle.rtm1.specs.Tree.{Tree, empty, leaf, split, kind_of, kind_at, fuel, tree_of, node_count}
use Rattle.rtm1.proofs.Boxes.{Halves, halves, split_more}
use Rattle.rtm1.proofs.Visit.{visit_few}
use Rattle.rtm1.proofs.Growth.{tree_empty, tree_leaf, tree_split, by_boxes}

-- ---- every cell occupied

-- the lookup has a point at each cell of the box
abbrev pub Full : (ℕ → Slot) → ℕ → Cells → Type 0
Full look g b =
    (x y z : ℕ) → b.x0 ≤ x → x < b.x1 → b.y0 ≤ y → y < b.y1 → b.z0 ≤ z → z < b.z1 → (i : ℕ) × (m : Masses) × (look (cell g x y z) ≡ held i m)

run_each : (f : ℕ → List Placed) (m a n : ℕ) → ((k : ℕ) → a ≤ k → k < a + n → length (f k) ≡ m) → length (run f a n) ≡ n * m
unfolding run
run_each f m a zero h = omega arith
run_each f m a (suc n) h =
    omega (arith, length-append (f a) (run f (suc a) n), h a (omega arith) (omega arith), run_each f m (suc a) n (λ k i j. h k (omega arith) (omega arith)))

module _ (look : ℕ → Slot) (g : ℕ) where
  pub full_visit : (b : Cells) → Full look g b → length (visit look g b) ≡ cells b
  full_visit b h =
      run_each (plane look g b) (width Y b * width X b) b.z0 (width Z b) (λ z z₁ z₂.
      run_each (row look g b z) (width X b) b.y0 (width Y b) (λ y y₁ y₂.
      run_each (point_in look g z y) 1 b.x0 (width X b) (λ x x₁ x₂.
      let (i, m, e) = h x y z (omega arith) (omega arith) (omega arith) (omega arith) (omega arith) (omega arith) in
      ap (λ (s : Slot). length (here x y z s)) e)
      ∙ omega arith))

  pub full_lower : (a : Axis) (b : Cells) → Proper b → Full look g b → Full look g (lower a b)
  full_lower X b p f x y z h₁ h₂ h₃ h₄ h₅ h₆ = f x y z h₁ (omega arith) h₃ h₄ h₅ h₆
  full_lower Y b p f x y z h₁ h₂ h₃ h₄ h₅ h₆ = f x y z h₁ h₂ h₃ (omega arith) h₅ h₆
  full_lower Z b p f x y z h₁ h₂ h₃ h₄ h₅ h₆ = f x y z h₁ h₂ h₃ h₄ h₅ (omega arith)

  pub full_upper : (a : Axis) (b : Cells) → Proper b → Full look g b → Full look g (upper a b)
  full_upper X b p f x y z h₁ h₂ h₃ h₄ h₅ h₆ = f x y z (omega arith) h₂ h₃ h₄ h₅ h₆
  full_upper Y b p f x y z h₁ h₂ h₃ h₄ h₅ h₆ = f x y z h₁ h₂ (omega arith) h₄ h₅ h₆
  full_upper Z b p f x y z h₁ h₂ h₃ h₄ h₅ h₆ = f x y z h₁ h₂ h₃ h₄ (omega arith) h₆

pub some_node : (t : Tree) → 1 ≤ node_count t
unfolding node_count
some_node (empty b) = omega arith
some_node (leaf b s is) = omega arith
some_node (split b s l r) = omega arith

-- ---- no lookup has more nodes than one that has every cell

pub nodes_most : (look full : ℕ → Slot) (g : ℕ) (b : Cells) → Within g b → Full full g b → node_count (tree_of look g b) ≤ node_count (tree_of full g b)
unfolding node_count
nodes_most look full g = by_boxes look g (λ b t. Full full g b → node_count t ≤ node_count (tree_of full g b))
    (λ b w e f. some_node (tree_of full g b))
    (λ b w e f. some_node (tree_of full g b))
    (λ b w e two below above f.
    let too : kind_at full g b ≡ Split = split_more _ _ b (rw (full_visit full g b f) (visit_few look g b)) e in
    rw (tree_split full g b too w)
    (both _ _ _ _ (below (full_lower full g (widest b) b w.proper f)) (above (full_upper full g (widest b) b w.proper f))))
  where
    both : (n m n' m' : ℕ) → n ≤ n' → m ≤ m' → 1 + n + m ≤ 1 + n' + m'
    both n m n' m' h k = omega arith

-- ---- where every cell is occupied, the widths alone decide

pub record Alike (b c : Cells) : Type 0 where
  pub same_x : width X b ≡ width X c
  pub same_y : width Y b ≡ width Y c
  pub same_z : width Z b ≡ width Z c

alike_kind : (n : ℕ) (b c : Cells) → Alike b c → kind_of n b ≡ kind_of n c
unfolding kind_of
alike_kind n b c a = rw (a.same_x, a.same_y, a.same_z)

alike_cells : (b c : Cells) → Alike b c → cells b ≡ cells c
alike_cells b c a = rw (a.same_x, a.same_y, a.same_z)

alike_widest : (b c : Cells) → Alike b c → widest b ≡ widest c
unfolding widest
alike_widest b c a = rw (a.same_x, a.same_y, a.same_z)

alike_lower : (k : Axis) (b c : Cells) → Proper b → Proper c → Alike b c → Alike (lower k b) (lower k c)
alike_lower X b c p q a = record { same_x = omega (arith, a.same_x); same_y = a.same_y; same_z = a.same_z }
alike_lower Y b c p q a = record { same_x = a.same_x; same_y = omega (arith, a.same_y); same_z = a.same_z }
alike_lower Z b c p q a = record { same_x = a.same_x; same_y = a.same_y; same_z = omega (arith, a.same_z) }

alike_upper : (k : Axis) (b c : Cells) → Proper b → Proper c → Alike b c → Alike (upper k b) (upper k c)
alike_upper X b c p q a = record { same_x = omega (arith, a.same_x); same_y = a.same_y; same_z = a.same_z }
alike_upper Y b c p q a = record { same_x = a.same_x; same_y = omega (arith, a.same_y); same_z = a.same_z }
alike_upper Z b c p q a = record { same_x = a.same_x; same_y = a.same_y; same_z = omega (arith, a.same_z) }

module _ (look look' : ℕ → Slot) (g g' : ℕ) where
  pub full_alike : (b : Cells) → Within g b → (c : Cells) → Within g' c → Alike b c → Full look g b → Full look' g' c
      → node_count (tree_of look g b) ≡ node_count (tree_of look' g' c)
  unfolding node_count
  full_alike = by_boxes look g (λ b t. (c : Cells) → Within g' c → Alike b c → Full look g b → Full look' g' c → node_count t ≡ node_count (tree_of look' g' c))
      (λ b w e c v a f f'. sym (ap node_count (tree_empty look' g' c (sym (same b c a f f') ∙ e))))
      (λ b w e c v a f f'. sym (ap node_count (tree_leaf look' g' c (sym (same b c a f f') ∙ e))))
      (λ b w e two below above c v a f f'.
      let k = widest b in
      let too : kind_at look' g' c ≡ Split = sym (same b c a f f') ∙ e in
      let other : Halves g' c = halves g' _ c too v in
      let ax : widest c ≡ widest b = sym (alike_widest b c a) in
      let l = below (lower (widest c) c) other.low.within (rw ax (alike_lower k b c w.proper v.proper a)) (full_lower look g k b w.proper f) (full_lower look' g' (widest c) c v.proper f') in
      let r = above (upper (widest c) c) other.high.within (rw ax (alike_upper k b c w.proper v.proper a)) (full_upper look g k b w.proper f) (full_upper look' g' (widest c) c v.proper f') in
      ap₂ (λ (n m : ℕ). 1 + n + m) l r ∙ sym (ap node_count (tree_split look' g' c too v)))
    where
      same : (b c : Cells) → Alike b c → Full look g b → Full look' g' c → kind_at look g b ≡ kind_at look' g' c
      same b c a f f' =
          ap (λ (n : ℕ). kind_of n b) (full_visit look g b f ∙ alike_cells b c a ∙ sym (full_visit look' g' c f')) ∙ alike_kind _ b c a

-- halves of one width have one count
even_halves : (k : Axis) (b : Cells) → Proper b → width k (lower k b) ≡ width k (upper k b) → Alike (lower k b) (upper k b)
even_halves X b p e = record { same_x = e; same_y = refl; same_z = refl }
even_halves Y b p e = record { same_x = refl; same_y = e; same_z = refl }
even_halves Z b p e = record { same_x = refl; same_y = refl; same_z = e }

module _ (look : ℕ → Slot) (g : ℕ) where
  pub halves_even : (b : Cells) → Within g b → kind_at look g b ≡ Split → Full look g b → width (widest b) (lower (widest b) b) ≡ width (widest b) (upper (widest b) b)
      → node_count (tree_of look g (lower (widest b) b)) ≡ node_count (tree_of look g (upper (widest b) b))
  halves_even b w e f same =
      let two : Halves g b = halves g _ b e w in
      full_alike look look g g (lower (widest b) b) two.low.within (upper (widest b) b) two.high.within (even_halves (widest b) b w.proper same)
      (full_lower look g (widest b) b w.proper f) (full_upper look g (widest b) b w.proper f)

-- ---- the count, computed: halves of one width are counted once

abbrev pub joined : Bool → ℕ → ℕ → ℕ
joined true n m = 1 + 2 * n
joined false n m = 1 + n + m

unfoldable pub full_nodes : ℕ → Kind → Cells → ℕ
full_nodes zero q b = 1
full_nodes (suc k) Empty b = 1
full_nodes (suc k) Leaf b = 1
full_nodes (suc k) Split b =
    joined (eqb (width (widest b) (lower (widest b) b)) (width (widest b) (upper (widest b) b)))
    (full_nodes k (kind_of (cells (lower (widest b) b)) (lower (widest b) b)) (lower (widest b) b))
    (full_nodes k (kind_of (cells (upper (widest b) b)) (upper (widest b) b)) (upper (widest b) b))

abbrev pub whole_nodes : ℕ → ℕ
whole_nodes g = full_nodes (fuel (whole g)) (kind_of (cells (whole g)) (whole g)) (whole g)

module _ (look : ℕ → Slot) (g : ℕ) where
  counted : (k : ℕ) (b : Cells) → Within g b → Full look g b → fuel b ≤ k → node_count (tree_of look g b) ≡ full_nodes k (kind_of (cells b) b) b
  unfolding full_nodes node_count
  counted zero b w f h = absurd (omega arith)
  counted (suc k) b w f h =
      rw (← full_visit look g b f) (go (kind_at look g b) refl (counted k))
    where
      go : (q : Kind) → kind_at look g b ≡ q → ((c : Cells) → Within g c → Full look g c → fuel c ≤ k → node_count (tree_of look g c) ≡ full_nodes k (kind_of (cells c) c) c)
          → node_count (tree_of look g b) ≡ full_nodes (suc k) q b
      go Empty e below = ap node_count (tree_empty look g b e)
      go Leaf e below = ap node_count (tree_leaf look g b e)
      go Split e below =
          let a = widest b in
          let two : Halves g b = halves g _ b e w in
          let l = below (lower a b) two.low.within (full_lower look g a b w.proper f) (omega (arith, two.low.less)) in
          let r = below (upper a b) two.high.within (full_upper look g a b w.proper f) (omega (arith, two.high.less)) in
          ap node_count (tree_split look g b e w)
          ∙ sums (eqb (width a (lower a b)) (width a (upper a b))) refl l r
        where
          sums : (t : Bool) → eqb (width (widest b) (lower (widest b) b)) (width (widest b) (upper (widest b) b)) ≡ t → {n m : ℕ}
              → node_count (tree_of look g (lower (widest b) b)) ≡ n → node_count (tree_of look g (upper (widest b) b)) ≡ m
              → 1 + node_count (tree_of look g (lower (widest b) b)) + node_count (tree_of look g (upper (widest b) b)) ≡ joined t n m
          sums true t {n} {m} l r = omega (arith, l, halves_even look g b w e f (eqb-true _ _ t))
          sums false t {n} {m} l r = omega (arith, l, r)

  pub nodes_by : (b : Cells) → Within g b → Full look g b → node_count (tree_of look g b) ≡ full_nodes (fuel b) (kind_of (cells b) b) b
  nodes_by b w f = counted (fuel b) b w f (omega arith)
