-- `bounds` is the least and the greatest coordinate along each axis, of a list of triangles whose coordinates are finite. Assumes nothing.
use Prim.Native.Nat.{ℕ, zero, suc, ◌+◌, ◌*◌, ◌≤◌, ◌<◌}
use mathlib.Core.Path.{◌≡◌, refl, sym, ap, ◌∙◌, subst}
use mathlib.Core.Bool.{Bool, true, false, cond}
use mathlib.Core.List.Memᴰ
use mathlib.Core.List.{List, [], ◌∷◌, Memᴰ}
use native.Mathlib.Nat.{mul_comm, mul_assoc, mul-le-mul_right, le_of_mul-le-mul_right, zero-mul, suc-mul}
use native.Mathlib.Omega.{arith}
use lib.Ieee.{Float, nan, inf, fin, up, down, lt, below}
use lib.Ieee.Fits.{down_pos}
use borrow.Author.Tests.{ltb-false, le-ltb}
use Rattle.float.specs.Number.{scalar_min, scalar_max}
use Rattle.filling.specs.declared.Vec3.{Vec3}
use Rattle.filling.specs.declared.Triangle.{Triangle}
use Rattle.filling.specs.declared.Bounds.{Bounds}
use Rattle.filling.specs.Inside.{unbounded, with_point, with_triangle, bounds_from, bounds}
use Rattle.filling.proofs.Sorted.{lt_asymmetric}

-- ---- none below: an order of finite floats

cross : (a p b q c r : ℕ) → 0 < q → c * q ≤ b * r → b * p ≤ a * q → c * p ≤ a * r
cross a p b q c r h k l =
    let k' : c * q * p ≤ b * r * p = mul-le-mul_right p k in
    let l' : b * p * r ≤ a * q * r = mul-le-mul_right r l in
    let e : c * q * p ≡ c * p * q = mul_assoc c q p ∙ ap (λ (n : ℕ). c * n) (mul_comm q p) ∙ sym (mul_assoc c p q) in
    let f : b * r * p ≡ b * p * r = mul_assoc b r p ∙ ap (λ (n : ℕ). b * n) (mul_comm r p) ∙ sym (mul_assoc b p r) in
    let g : a * q * r ≡ a * r * q = mul_assoc a q r ∙ ap (λ (n : ℕ). a * n) (mul_comm q r) ∙ sym (mul_assoc a r q) in
    le_of_mul-le-mul_right (omega arith) h

-- a product that is 0 with a factor that is not
nought : (a q r : ℕ) → 0 < q → a * q ≡ 0 → a * r ≡ 0
nought zero q r h e = zero-mul r
nought (suc a) q r h e = absurd (omega (arith, suc-mul a q))

module _ (p q r : ℕ) (hp : 0 < p) (hq : 0 < q) (hr : 0 < r) where
  behind : (s t u : Bool) (a b c : ℕ) → below s (a * q) t (b * p) ≡ false → below t (b * r) u (c * q) ≡ false → below s (a * r) u (c * p) ≡ false
  behind false t true a b c h k = refl
  behind false false false a b c h k =
      le-ltb (a * r) (c * p) (cross a p b q c r hq (ltb-false (b * r) (c * q) k) (ltb-false (a * q) (b * p) h))
  behind false true false a b c h k =
      let z : c * p ≡ 0 = nought c q p hq (omega (arith, ltb-false 0 (b * r + c * q) k)) in
      le-ltb (a * r) (c * p) (omega arith)
  behind true false false a b c h k =
      let ab = ltb-false 0 (a * q + b * p) h in
      let zb : b * r ≡ 0 = nought b p r hp (omega arith) in
      let za : a * r ≡ 0 = nought a q r hq (omega arith) in
      let zc : c * p ≡ 0 = nought c q p hq (omega (arith, ltb-false (b * r) (c * q) k)) in
      le-ltb 0 (a * r + c * p) (omega arith)
  behind true true false a b c h k =
      let bc = ltb-false 0 (b * r + c * q) k in
      let zb : b * p ≡ 0 = nought b r p hr (omega arith) in
      let za : a * r ≡ 0 = nought a q r hq (omega (arith, ltb-false (b * p) (a * q) h)) in
      let zc : c * p ≡ 0 = nought c q p hq (omega arith) in
      le-ltb 0 (a * r + c * p) (omega arith)
  behind true false true a b c h k =
      let za : a * r ≡ 0 = nought a q r hq (omega (arith, ltb-false 0 (a * q + b * p) h)) in
      le-ltb (c * p) (a * r) (omega arith)
  behind true true true a b c h k =
      le-ltb (c * p) (a * r) (cross c r b q a p hq (ltb-false (b * p) (a * q) h) (ltb-false (c * q) (b * r) k))

unfoldable pub Finite : Float → Type 0
Finite nan = ⊥
Finite (inf s) = ⊥
Finite (fin s m e) = Unit {0}

-- x is not below y, nor y below z: nor is x below z
pub not_below : (x y z : Float) → Finite x → Finite y → Finite z → lt x y ≡ false → lt y z ≡ false → lt x z ≡ false
unfolding Finite lt
not_below nan y z fx fy fz h k = absurd fx
not_below (inf s) y z fx fy fz h k = absurd fx
not_below (fin s m e) nan z fx fy fz h k = absurd fy
not_below (fin s m e) (inf t) z fx fy fz h k = absurd fy
not_below (fin s m e) (fin t n d) nan fx fy fz h k = absurd fz
not_below (fin s m e) (fin t n d) (inf u) fx fy fz h k = absurd fz
not_below (fin s m e) (fin t n d) (fin u o g) fx fy fz h k =
    behind (down e) (down d) (down g) (down_pos e) (down_pos d) (down_pos g) s t u (m * up e) (n * up d) (o * up g) h k

not_self : (x : Float) → lt x x ≡ false
not_self x = go (lt x x) refl
  where
    go : (t : Bool) → lt x x ≡ t → lt x x ≡ false
    go true e = lt_asymmetric x x e
    go false e = e

-- ---- the least and the greatest of a list

pub record Least (l : Float) (xs : List Float) : Type 0 where
  pub among : Memᴰ l xs
  pub low : (x : Float) → Memᴰ x xs → lt x l ≡ false

pub record Greatest (g : Float) (xs : List Float) : Type 0 where
  pub among : Memᴰ g xs
  pub high : (x : Float) → Memᴰ x xs → lt g x ≡ false

abbrev pub AllFinite : List Float → Type 0
AllFinite xs = (x : Float) → Memᴰ x xs → Finite x

unfoldable least_from : Float → List Float → Float
least_from m [] = m
least_from m (x ∷ xs) = least_from (scalar_min m x) xs

unfoldable greatest_from : Float → List Float → Float
greatest_from m [] = m
greatest_from m (x ∷ xs) = greatest_from (scalar_max m x) xs

-- past the second of a list
past : {m x y : Float} {xs : List Float} → Memᴰ y (m ∷ xs) → Memᴰ y (m ∷ x ∷ xs)
past (Memᴰ.head e) = Memᴰ.head e
past (Memᴰ.tail h) = Memᴰ.tail (Memᴰ.tail h)

least_of : (m : Float) (xs : List Float) → AllFinite (m ∷ xs) → Least (least_from m xs) (m ∷ xs)
unfolding least_from scalar_min
least_of m [] all = record { among = Memᴰ.head refl; low = low }
  where
    low : (x : Float) → Memᴰ x (m ∷ []) → lt x m ≡ false
    low x (Memᴰ.head e) = ap (λ (y : Float). lt y m) e ∙ not_self m
    low x (Memᴰ.tail h) = absurd (Memᴰ.not-nil h)
least_of m (x ∷ xs) all = go (lt x m) refl (least_of x xs (λ y h. all y (Memᴰ.tail h))) (least_of m xs (λ y h. all y (past h)))
  where
    fm : Finite m
    fm = all m (Memᴰ.head refl)

    fx : Finite x
    fx = all x (Memᴰ.tail (Memᴰ.head refl))

    go : (t : Bool) → lt x m ≡ t → Least (least_from x xs) (x ∷ xs) → Least (least_from m xs) (m ∷ xs) → Least (least_from (cond t x m) xs) (m ∷ x ∷ xs)
    go true e ix im = record { among = Memᴰ.tail ix.among; low = low }
      where
        low : (y : Float) → Memᴰ y (m ∷ x ∷ xs) → lt y (least_from x xs) ≡ false
        low y (Memᴰ.head d) =
            ap (λ (z : Float). lt z (least_from x xs)) d
            ∙ not_below m x (least_from x xs) fm fx (all _ (Memᴰ.tail ix.among)) (lt_asymmetric x m e) (ix.low x (Memᴰ.head refl))
        low y (Memᴰ.tail h) = ix.low y h
    go false e ix im = record { among = past im.among; low = low }
      where
        low : (y : Float) → Memᴰ y (m ∷ x ∷ xs) → lt y (least_from m xs) ≡ false
        low y (Memᴰ.head d) = im.low y (Memᴰ.head d)
        low y (Memᴰ.tail (Memᴰ.head d)) =
            ap (λ (z : Float). lt z (least_from m xs)) d
            ∙ not_below x m (least_from m xs) fx fm (all _ (past im.among)) e (im.low m (Memᴰ.head refl))
        low y (Memᴰ.tail (Memᴰ.tail h)) = im.low y (Memᴰ.tail h)

greatest_of : (m : Float) (xs : List Float) → AllFinite (m ∷ xs) → Greatest (greatest_from m xs) (m ∷ xs)
unfolding greatest_from scalar_max
greatest_of m [] all = record { among = Memᴰ.head refl; high = high }
  where
    high : (x : Float) → Memᴰ x (m ∷ []) → lt m x ≡ false
    high x (Memᴰ.head e) = ap (λ (y : Float). lt m y) e ∙ not_self m
    high x (Memᴰ.tail h) = absurd (Memᴰ.not-nil h)
greatest_of m (x ∷ xs) all = go (lt m x) refl (greatest_of x xs (λ y h. all y (Memᴰ.tail h))) (greatest_of m xs (λ y h. all y (past h)))
  where
    fm : Finite m
    fm = all m (Memᴰ.head refl)

    fx : Finite x
    fx = all x (Memᴰ.tail (Memᴰ.head refl))

    go : (t : Bool) → lt m x ≡ t → Greatest (greatest_from x xs) (x ∷ xs) → Greatest (greatest_from m xs) (m ∷ xs) → Greatest (greatest_from (cond t x m) xs) (m ∷ x ∷ xs)
    go true e ix im = record { among = Memᴰ.tail ix.among; high = high }
      where
        high : (y : Float) → Memᴰ y (m ∷ x ∷ xs) → lt (greatest_from x xs) y ≡ false
        high y (Memᴰ.head d) =
            ap (λ (z : Float). lt (greatest_from x xs) z) d
            ∙ not_below (greatest_from x xs) x m (all _ (Memᴰ.tail ix.among)) fx fm (ix.high x (Memᴰ.head refl)) (lt_asymmetric m x e)
        high y (Memᴰ.tail h) = ix.high y h
    go false e ix im = record { among = past im.among; high = high }
      where
        high : (y : Float) → Memᴰ y (m ∷ x ∷ xs) → lt (greatest_from m xs) y ≡ false
        high y (Memᴰ.head d) = im.high y (Memᴰ.head d)
        high y (Memᴰ.tail (Memᴰ.head d)) =
            ap (λ (z : Float). lt (greatest_from m xs) z) d
            ∙ not_below (greatest_from m xs) m x (all _ (past im.among)) fm fx (im.high m (Memᴰ.head refl)) e
        high y (Memᴰ.tail (Memᴰ.tail h)) = im.high y (Memᴰ.tail h)

-- ---- bounds

-- the coordinates of all corners along an axis
unfoldable pub coordinates : (Vec3 → Float) → List Triangle → List Float
coordinates along [] = []
coordinates along (t ∷ ts) = along t.a ∷ along t.b ∷ along t.c ∷ coordinates along ts

abbrev pub on_x : Vec3 → Float
on_x v = v.x

abbrev pub on_y : Vec3 → Float
on_y v = v.y

abbrev pub on_z : Vec3 → Float
on_z v = v.z

min_x : (b : Bounds) (ts : List Triangle) → (bounds_from b ts).min.x ≡ least_from b.min.x (coordinates on_x ts)
unfolding bounds_from with_triangle with_point least_from coordinates
min_x b [] = refl
min_x b (t ∷ ts) = min_x (with_triangle b t) ts

min_y : (b : Bounds) (ts : List Triangle) → (bounds_from b ts).min.y ≡ least_from b.min.y (coordinates on_y ts)
unfolding bounds_from with_triangle with_point least_from coordinates
min_y b [] = refl
min_y b (t ∷ ts) = min_y (with_triangle b t) ts

min_z : (b : Bounds) (ts : List Triangle) → (bounds_from b ts).min.z ≡ least_from b.min.z (coordinates on_z ts)
unfolding bounds_from with_triangle with_point least_from coordinates
min_z b [] = refl
min_z b (t ∷ ts) = min_z (with_triangle b t) ts

max_x : (b : Bounds) (ts : List Triangle) → (bounds_from b ts).max.x ≡ greatest_from b.max.x (coordinates on_x ts)
unfolding bounds_from with_triangle with_point greatest_from coordinates
max_x b [] = refl
max_x b (t ∷ ts) = max_x (with_triangle b t) ts

max_y : (b : Bounds) (ts : List Triangle) → (bounds_from b ts).max.y ≡ greatest_from b.max.y (coordinates on_y ts)
unfolding bounds_from with_triangle with_point greatest_from coordinates
max_y b [] = refl
max_y b (t ∷ ts) = max_y (with_triangle b t) ts

max_z : (b : Bounds) (ts : List Triangle) → (bounds_from b ts).max.z ≡ greatest_from b.max.z (coordinates on_z ts)
unfolding bounds_from with_triangle with_point greatest_from coordinates
max_z b [] = refl
max_z b (t ∷ ts) = max_z (with_triangle b t) ts

least_first : (x : Float) (xs : List Float) → Finite x → least_from (inf false) (x ∷ xs) ≡ least_from x xs
unfolding least_from scalar_min lt Finite
least_first nan xs f = absurd f
least_first (inf s) xs f = absurd f
least_first (fin s m e) xs f = refl

greatest_first : (x : Float) (xs : List Float) → Finite x → greatest_from (inf true) (x ∷ xs) ≡ greatest_from x xs
unfolding greatest_from scalar_max lt Finite
greatest_first nan xs f = absurd f
greatest_first (inf s) xs f = absurd f
greatest_first (fin s m e) xs f = refl

-- each side of the bounds is one of the coordinates, and none is beyond it
pub record Tight (b : Bounds) (ts : List Triangle) : Type 0 where
  pub least_x : Least b.min.x (coordinates on_x ts)
  pub least_y : Least b.min.y (coordinates on_y ts)
  pub least_z : Least b.min.z (coordinates on_z ts)
  pub greatest_x : Greatest b.max.x (coordinates on_x ts)
  pub greatest_y : Greatest b.max.y (coordinates on_y ts)
  pub greatest_z : Greatest b.max.z (coordinates on_z ts)

pub bounds_tight : (t : Triangle) (ts : List Triangle) → AllFinite (coordinates on_x (t ∷ ts)) → AllFinite (coordinates on_y (t ∷ ts)) → AllFinite (coordinates on_z (t ∷ ts))
    → Tight (bounds (t ∷ ts)) (t ∷ ts)
unfolding bounds coordinates
bounds_tight t ts hx hy hz =
    record {
      least_x =
          subst (λ (v : Float). Least v (coordinates on_x (t ∷ ts)))
          (sym (min_x unbounded (t ∷ ts) ∙ least_first t.a.x (t.b.x ∷ t.c.x ∷ coordinates on_x ts) (hx _ (Memᴰ.head refl))))
          (least_of t.a.x (t.b.x ∷ t.c.x ∷ coordinates on_x ts) hx);
      least_y =
          subst (λ (v : Float). Least v (coordinates on_y (t ∷ ts)))
          (sym (min_y unbounded (t ∷ ts) ∙ least_first t.a.y (t.b.y ∷ t.c.y ∷ coordinates on_y ts) (hy _ (Memᴰ.head refl))))
          (least_of t.a.y (t.b.y ∷ t.c.y ∷ coordinates on_y ts) hy);
      least_z =
          subst (λ (v : Float). Least v (coordinates on_z (t ∷ ts)))
          (sym (min_z unbounded (t ∷ ts) ∙ least_first t.a.z (t.b.z ∷ t.c.z ∷ coordinates on_z ts) (hz _ (Memᴰ.head refl))))
          (least_of t.a.z (t.b.z ∷ t.c.z ∷ coordinates on_z ts) hz);
      greatest_x =
          subst (λ (v : Float). Greatest v (coordinates on_x (t ∷ ts)))
          (sym (max_x unbounded (t ∷ ts) ∙ greatest_first t.a.x (t.b.x ∷ t.c.x ∷ coordinates on_x ts) (hx _ (Memᴰ.head refl))))
          (greatest_of t.a.x (t.b.x ∷ t.c.x ∷ coordinates on_x ts) hx);
      greatest_y =
          subst (λ (v : Float). Greatest v (coordinates on_y (t ∷ ts)))
          (sym (max_y unbounded (t ∷ ts) ∙ greatest_first t.a.y (t.b.y ∷ t.c.y ∷ coordinates on_y ts) (hy _ (Memᴰ.head refl))))
          (greatest_of t.a.y (t.b.y ∷ t.c.y ∷ coordinates on_y ts) hy);
      greatest_z =
          subst (λ (v : Float). Greatest v (coordinates on_z (t ∷ ts)))
          (sym (max_z unbounded (t ∷ ts) ∙ greatest_first t.a.z (t.b.z ∷ t.c.z ∷ coordinates on_z ts) (hz _ (Memᴰ.head refl))))
          (greatest_of t.a.z (t.b.z ∷ t.c.z ∷ coordinates on_z ts) hz);
    }
