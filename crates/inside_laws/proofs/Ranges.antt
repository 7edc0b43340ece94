-- The ranges of a good mesh's triangles are not empty on x: in the mesh's own padded box the lower index is at most the upper one. Assumes nothing.
use Prim.Native.Nat.{ℕ, zero, suc, ◌+◌, ◌*◌, ◌/◌, ◌≤◌, ◌<◌}
use native.Mathlib.Omega.{arith}
use native.Mathlib.Nat.{zero-mul}
use mathlib.Core.Path.{◌≡◌, refl, sym}
use mathlib.Core.Logic.{inl, inr, ⊎_elim}
use mathlib.Core.Bool.{Bool, true, false, cond, not, true≢false}
use mathlib.Core.List.Memᴰ
use mathlib.Core.List.{List, [], ◌∷◌, Memᴰ}
use lib.ListN.{length}
use lib.Dec.{T, lit≤}
use lib.Ieee.{Float, nan, inf, fin, binary64, up, down, neg, add, sub, lt, eq, le, below, of_bits}
use lib.Ieee.Scale.{finite}
use borrow.Author.Tests.{ltb-false, ltb-true}
use denote.Floats.{passes}
use Rattle.float.specs.Axis.{axis_index}
use Rattle.float.specs.Number.{one64, abs}
use Rattle.float.proofs.Zeros.{UpTo}
use Rattle.rym1.proofs.Causes.{and_true_l, and_true_r}
use Rattle.filling.specs.declared.Vec3.{Vec3}
use Rattle.filling.specs.declared.Triangle.{Triangle}
use Rattle.filling.specs.declared.Bounds.{Bounds}
use Rattle.filling.specs.Lists.{coordinate_limit, up_to, vector_up_to, good_triangle, good_triangles, triangle, triangles_at, mesh}
use Rattle.filling.specs.Inside.{bounds, thousandth, margin, padded, test_box, scaled, indices, low_of, high_of}
use Rattle.filling.specs.Rows.{triangle_of}
use Rattle.filling.proofs.Lists.{good_more}
use Rattle.filling.proofs.Extremes.{Finite, coordinates, on_x, on_y, on_z, bounds_tight}
use Rattle.filling.proofs.Rows.{good_at}
use Rattle.inside_laws.proofs.Signed.{Under, under_le, le_under, le_itself, Signed, across}
use Rattle.inside_laws.proofs.Monotone.{add_mono}
use Rattle.inside_laws.proofs.Bounded.{neg_up_to, add_up_to, sub_up_to, mul_up_to}
use Rattle.inside_laws.proofs.Rising.{rises_up, rises_clear, add_clear, sides, sub_set, mul_clear, neg_set}
use Rattle.inside_laws.proofs.Index.{extent_mono}

-- ---- coordinates up to 1e6

abbrev Near : Float → Type 0
Near x = UpTo 1000000 x

near : (x : Float) → up_to coordinate_limit x ≡ true → Near x
unfolding up_to abs le lt eq neg of_bits
near nan e = absurd (true≢false (sym e))
near (inf true) e = absurd (true≢false (sym e))
near (inf false) e = absurd (true≢false (sym e))
near (fin s m d) e = (tt, go s (lt (fin s m d) (of_bits binary64 0)) refl (passes _ e))
  where
    size : T (le (fin false m d) coordinate_limit) → m * up d ≤ 1000000 * down d
    size h = omega (arith, le_under false (m * up d * 1) false (1000000 * down d) h)

    go : (s b : Bool) → below s (m * up d * 1) false (0 * down d) ≡ b → T (le (cond b (fin (not s) m d) (fin s m d)) coordinate_limit) → m * up d ≤ 1000000 * down d
    go false true e h = absurd (omega (arith, ltb-true (m * up d * 1) (0 * down d) e, zero-mul (down d)))
    go false false e h = size h
    go true true e h = size h
    go true false e h = omega (arith, ltb-false 0 (m * up d * 1 + 0 * down d) e)

-- two finite numbers, the second not below the first
in_order : (x y : Float) → T (finite x) → T (finite y) → lt y x ≡ false → T (le x y)
unfolding le lt eq
in_order nan y a b h = absurd a
in_order (inf s) y a b h = absurd a
in_order (fin s m e) nan a b h = absurd b
in_order (fin s m e) (inf t) a b h = absurd b
in_order (fin s m e) (fin t n d) a b h = under_le s (m * up e * down d) t (n * up d * down e) (go s t (m * up e * down d) (n * up d * down e) h)
  where
    go : (s t : Bool) (a b : ℕ) → below t b s a ≡ false → Under s a t b
    go false false a b h = omega (arith, ltb-false b a h)
    go true false a b h = omega arith
    go false true a b h = omega (arith, ltb-false 0 (b + a) h)
    go true true a b h = omega (arith, ltb-false a b h)

module _ (along : Vec3 → Float) (part : (v : Vec3) → vector_up_to coordinate_limit v ≡ true → up_to coordinate_limit (along v) ≡ true) where
  all_near : (ts : List Triangle) → good_triangles ts ≡ true → (x : Float) → Memᴰ x (coordinates along ts) → Near x
  unfolding coordinates good_triangle
  all_near [] g x h = absurd (Memᴰ.not-nil h)
  all_near (t ∷ ts) g x h =
      let t-good = (good_more t ts g).0 in
      let rest = and_true_r (vector_up_to coordinate_limit t.a) _ t-good in
      go (corner t.a (and_true_l _ _ t-good)) (corner t.b (and_true_l _ _ rest)) (corner t.c (and_true_r (vector_up_to coordinate_limit t.b) _ rest)) (all_near ts (good_more t ts g).1 x) h
    where
      corner : (v : Vec3) → vector_up_to coordinate_limit v ≡ true → Near (along v)
      corner v e = near (along v) (part v e)

      go : Near (along t.a) → Near (along t.b) → Near (along t.c) → (Memᴰ x (coordinates along ts) → Near x) → Memᴰ x (along t.a ∷ along t.b ∷ along t.c ∷ coordinates along ts) → Near x
      go a b c f (Memᴰ.head e) = rw e a
      go a b c f (Memᴰ.tail (Memᴰ.head e)) = rw e b
      go a b c f (Memᴰ.tail (Memᴰ.tail (Memᴰ.head e))) = rw e c
      go a b c f (Memᴰ.tail (Memᴰ.tail (Memᴰ.tail h))) = f h

part_x : (v : Vec3) → vector_up_to coordinate_limit v ≡ true → up_to coordinate_limit v.x ≡ true
unfolding vector_up_to
part_x v e = and_true_l _ _ e

part_y : (v : Vec3) → vector_up_to coordinate_limit v ≡ true → up_to coordinate_limit v.y ≡ true
unfolding vector_up_to
part_y v e = and_true_l _ _ (and_true_r (up_to coordinate_limit v.x) _ e)

part_z : (v : Vec3) → vector_up_to coordinate_limit v ≡ true → up_to coordinate_limit v.z ≡ true
unfolding vector_up_to
part_z v e = and_true_r (up_to coordinate_limit v.y) _ (and_true_r (up_to coordinate_limit v.x) _ e)

near_finite : (x : Float) → Near x → Finite x
unfolding Finite
near_finite nan h = h.0
near_finite (inf s) h = h.0
near_finite (fin s m e) h = tt

-- ---- the least and the greatest x of a good list

record Ends (b : Bounds) : Type 0 where
  least : Near b.min.x
  greatest : Near b.max.x
  order : T (le b.min.x b.max.x)

ends : (t : Triangle) (ts : List Triangle) → good_triangles (t ∷ ts) ≡ true → Ends (bounds (t ∷ ts))
ends t ts g =
    let xs = all_near on_x part_x (t ∷ ts) g in
    let ys = all_near on_y part_y (t ∷ ts) g in
    let zs = all_near on_z part_z (t ∷ ts) g in
    let tight = bounds_tight t ts (λ x h. near_finite x (xs x h)) (λ x h. near_finite x (ys x h)) (λ x h. near_finite x (zs x h)) in
    let least = xs _ tight.least_x.among in
    let greatest = xs _ tight.greatest_x.among in
    record { least = least; greatest = greatest; order = in_order _ _ least.0 greatest.0 (tight.least_x.low _ tight.greatest_x.among) }

-- ---- the padded box on x

near_one : UpTo 1 one64
unfolding of_bits
near_one = (tt, lit≤ tt)

near_thousandth : UpTo 1 thousandth
unfolding of_bits
near_thousandth = (tt, lit≤ tt)

one_clear : Signed false one64
unfolding of_bits
one_clear = refl

thousandth_clear : Signed false thousandth
unfolding of_bits
thousandth_clear = refl

-- l and g: the least and the greatest x of a list
module _ (l g : Float) (nl : Near l) (ng : Near g) (h : T (le l g)) where
  -- the margin, and the sides that it moves
  side : Float
  side = margin l g

  low : Float
  low = sub binary64 l side

  high : Float
  high = add binary64 g side

  span_near : UpTo 2000000 (sub binary64 g l)
  span_near = sub_up_to binary64 1000000 1000000 g l (lit≤ tt) ng nl

  wide_near : UpTo 2000001 (add binary64 (sub binary64 g l) one64)
  wide_near = add_up_to binary64 2000000 1 (sub binary64 g l) one64 (lit≤ tt) span_near near_one

  side_near : UpTo 2000001 side
  unfolding side margin
  side_near = mul_up_to binary64 1 2000001 thousandth (add binary64 (sub binary64 g l) one64) (lit≤ tt) near_thousandth wide_near

  side_clear : Signed false side
  unfolding side margin
  side_clear =
      mul_clear binary64 thousandth (add binary64 (sub binary64 g l) one64) near_thousandth.0 wide_near.0 thousandth_clear
      (add_clear binary64 (sub binary64 g l) one64 span_near.0 near_one.0 (rises_up binary64 l g nl.0 ng.0 h) one_clear)

  low_near : UpTo 3000001 low
  unfolding low
  low_near = sub_up_to binary64 1000000 2000001 l side (lit≤ tt) nl side_near

  high_near : UpTo 3000001 high
  unfolding high
  high_near = add_up_to binary64 1000000 2000001 g side (lit≤ tt) ng side_near

  low_high : T (le low high)
  unfolding low high sub
  low_high =
      add_mono binary64 l (neg side) g side nl.0 (neg_up_to 2000001 side side_near).0 ng.0 side_near.0 h
      (across (neg side) side (neg_set side side_clear) side_clear)

  -- so high − low is finite and its sign is clear
  extent_clear : Signed false (sub binary64 high low)
  unfolding low high
  extent_clear =
      rises_clear binary64 low high low_near.0 high_near.0 low_high
      (⊎_elim
      (λ u. inl (add_clear binary64 g side ng.0 side_near.0 u side_clear))
      (λ u. inr (sub_set binary64 l side nl.0 side_near.0 u side_clear))
      (sides l g nl.0 ng.0 h))

  box_mono : (x y : Float) → Near x → Near y → T (le x y) → axis_index (scaled low high x) ≤ axis_index (scaled low high y)
  unfolding scaled sub
  box_mono x y nx ny k =
      extent_mono (sub binary64 x low) (sub binary64 y low) (sub binary64 high low)
      (sub_up_to binary64 1000000 3000001 x low (lit≤ tt) nx low_near).0 (sub_up_to binary64 1000000 3000001 y low (lit≤ tt) ny low_near).0
      (sub_up_to binary64 3000001 3000001 high low (lit≤ tt) high_near low_near).0 extent_clear
      (add_mono binary64 x (neg low) y (neg low) nx.0 (neg_up_to 3000001 low low_near).0 ny.0 (neg_up_to 3000001 low low_near).0 k
      (le_itself (neg low) (neg_up_to 3000001 low low_near).0))

-- ---- of a triangle in the box of a mesh

box_range : (t : Triangle) (ts : List Triangle) (own : Triangle) → good_triangles (t ∷ ts) ≡ true → good_triangles (own ∷ []) ≡ true → (low_of (test_box (t ∷ ts)) own).i ≤ (high_of (test_box (t ∷ ts)) own).i
unfolding low_of high_of indices padded low high side
box_range t ts own g o =
    let box = ends t ts g in
    let self = ends own [] o in
    box_mono (bounds (t ∷ ts)).min.x (bounds (t ∷ ts)).max.x box.least box.greatest box.order
    (bounds (own ∷ [])).min.x (bounds (own ∷ [])).max.x self.least self.greatest self.order

pub range_x : (s : List ℕ) (t : ℕ) → good_triangles (mesh s) ≡ true → t < length s / 72
    → (low_of (test_box (mesh s)) (triangle_of s t)).i ≤ (high_of (test_box (mesh s)) (triangle_of s t)).i
unfolding mesh triangles_at good_triangles
range_x s t g l = go (length s / 72) l g
  where
    own : good_triangles (triangle_of s t ∷ []) ≡ true
    own = rw (good_at s t g l)

    go : (n : ℕ) → t < n → good_triangles (triangles_at s 0 n) ≡ true → (low_of (test_box (triangles_at s 0 n)) (triangle_of s t)).i ≤ (high_of (test_box (triangles_at s 0 n)) (triangle_of s t)).i
    go zero l g = absurd (omega arith)
    go (suc n) l g = box_range (triangle s 0) (triangles_at s 72 n) (triangle_of s t) g own
