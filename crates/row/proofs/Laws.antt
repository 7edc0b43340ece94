-- What one turn of each loop of the row's pass does, said of lists alone. Assumes nothing.
use Rattle.filling.specs.declared.Crossing.{Crossing}
use Rattle.filling.specs.declared.Crossing.TheVariants.{At, Miss}
use Prim.Native.Nat.{ℕ, zero, suc, ◌+◌, ◌-◌, ◌*◌, ◌/◌, ◌≤◌, ◌<◌}
use native.Mathlib.Numerals.{add-one}
use native.Mathlib.Omega.{arith}
use native.Mathlib.Nat.{mul-le-mul_right, suc-mul}
use mathlib.Core.Path.{◌≡◌, refl, sym, ◌∙◌, ap}
use mathlib.Core.Logic.{⊎_elim}
use mathlib.Core.List.{List, [], ◌∷◌, ◌++◌, append-nil, append_assoc}
use mathlib.Core.Bool.{Bool, true, false, cond}
use lib.ListN.{length, take, drop, get_or, set, length-drop}
use lib.Seq.{take-suc-set, take-suc, drop-drop, drop-set-add, take-set-le, drop-set-lt, get_or-set_same, get_or-set_other}
use lib.Dec.{leb, eqb}
use lib.Ieee.{Float, nan}
use borrow.Rule.Slice.PartMut.{put_mid, drop_put}
use Rattle.std.proofs.lemmas.Grind.{common_steps}
use Rattle.float.specs.Axis.{axis_index}
use Rattle.filling.specs.declared.Vec3.{Vec3}
use Rattle.filling.specs.declared.Triangle.{Triangle}
use Rattle.filling.specs.declared.Bounds.{Bounds}
use Rattle.filling.specs.declared.Indices.{Indices}
use Rattle.filling.specs.Lists.{mesh, point_limit, vector_up_to, good_triangle, good_triangles}
use Rattle.filling.specs.Ray.{ray}
use Rattle.filling.specs.Inside.{scaled, indices, high_of, listed, odd_rest, is_inside, yes}
use Rattle.filling.specs.Rows.{ahead, triangle_of, crossing_on, crossings_in, meets, row_list, row_pair}
use Rattle.filling.proofs.Lists.{coordinates_up_to}
use Rattle.filling.proofs.Listed.{split, count_le}
use Rattle.filling.proofs.Rows.{same_answer, entry_good, pair_low}
use Rattle.row.specs.Row.{stored, region, crossing_up_to, crossing_at, point_of, crossings_at, Indexed, Near}

pub listed_le : (c : Crossing) → length (listed c) ≤ 1
listed_le (At t) = omega arith
listed_le Miss = omega arith

-- ---- the regions of the floats: that of a point grows, and no other changes
pub take_float : (l : List Float) (i : ℕ) (y : Float) → i < length l → take (i + 1) (set l i y) ≡ take i l ++ y ∷ []
take_float l i y h = rw add-one (take-suc-set l i y h)

pub region_own : (fl : List Float) (a m : ℕ) (c : Crossing) → a + m < length fl
    → take (m + length (listed c)) (drop a (stored fl (a + m) c)) ≡ take m (drop a fl) ++ listed c
region_own fl a m (At t) h =
    let len = length-drop a fl in
    rw (drop-set-add a fl m t) (take_float (drop a fl) m t (omega arith))
region_own fl a m Miss h =
    let z : m + length (listed Miss) ≡ m = omega arith in
    ap (λ x. take x (drop a fl)) z ∙ sym (append-nil (take m (drop a fl)))

pub region_below : (fl : List Float) (a k x : ℕ) (c : Crossing) → a + k ≤ x → take k (drop a (stored fl x c)) ≡ take k (drop a fl)
region_below fl a k x (At t) h =
    let e : x ≡ a + (x - a) = omega arith in
    let g : k ≤ x - a = omega arith in
    ap (λ y. take k (drop a (set fl y t))) e ∙ ap (λ (l : List Float). take k l) (drop-set-add a fl (x - a) t) ∙ take-set-le k (drop a fl) (x - a) t g
region_below fl a k x Miss h = refl

pub region_above : (fl : List Float) (a k x : ℕ) (c : Crossing) → x < a → take k (drop a (stored fl x c)) ≡ take k (drop a fl)
region_above fl a k x (At t) h = ap (λ (l : List Float). take k l) (drop-set-lt a fl x t h)
region_above fl a k x Miss h = refl

pub apart : (p q len : ℕ) → p < q → p * len + len ≤ q * len
apart p q len h =
    let e : suc p * len ≤ q * len = mul-le-mul_right len h in
    let f : suc p * len ≡ p * len + len = suc-mul p len in omega arith

pub region_other : (fl : List Float) (p q len k m : ℕ) (c : Crossing) → (p ≡ q → ⊥) → k ≤ len → m < len
    → take k (drop (p * len) (stored fl (q * len + m) c)) ≡ take k (drop (p * len) fl)
region_other fl p q len k m c ne a b =
    ⊎_elim
    (λ w. let g = apart p q len w in region_below fl (p * len) k (q * len + m) c (omega arith))
    (λ w. let v : q < p = ⊎_elim (λ x. x) (λ x. absurd (ne (omega arith))) (split q p) in
    let g = apart q p len v in region_above fl (p * len) k (q * len + m) c (omega arith))
    (split p q)

-- ---- one entry, one point further
module _ (fl₀ fl : List Float) (k₀ k : List ℕ) (len n q : ℕ) (f : ℕ → Crossing) (low : q < n) (room : q < length k) (fits : n * len ≤ length fl)
    (few : (p : ℕ) → p < n → get_or k₀ p 0 < len)
    (done : (p : ℕ) → p < q → (get_or k p 0 ≤ get_or k₀ p 0 + 1) × (region fl k len p ≡ region fl₀ k₀ len p ++ listed (f p)))
    (rest : (p : ℕ) → q ≤ p → p < n → (get_or k p 0 ≡ get_or k₀ p 0) × (region fl k len p ≡ region fl₀ k₀ len p)) where
  pub own_few : get_or k q 0 < len
  own_few = let a = few q low in let d = (rest q (omega arith) low).0 in omega arith

  pub own_fits : q * len + get_or k q 0 < length fl
  own_fits = let a = own_few in let g = apart q n len low in omega arith

  other_region : (v p : ℕ) → (p ≡ q → ⊥) → get_or k p 0 ≤ len
      → region (stored fl (q * len + get_or k q 0) (f q)) (set k q v) len p ≡ region fl k len p
  unfolding region
  other_region v p ne a =
      rw (get_or-set_other k q p v 0 ne) (region_other fl p q len (get_or k p 0) (get_or k q 0) (f q) ne a own_few)

  pub turn_done : (v : ℕ) → v ≡ get_or k q 0 + length (listed (f q)) → (p : ℕ) → p < q + 1
      → (get_or (set k q v) p 0 ≤ get_or k₀ p 0 + 1)
      × (region (stored fl (q * len + get_or k q 0) (f q)) (set k q v) len p ≡ region fl₀ k₀ len p ++ listed (f p))
  unfolding region
  turn_done v e p h =
      ⊎_elim
      (λ (w : p < q). let a = done p w in let d = few p (omega arith) in let g = get_or-set_other k q p v 0 (λ x. omega arith) in
      (omega arith, other_region v p (λ x. omega arith) (omega arith) ∙ a.1))
      (λ (w : q ≤ p). let x : p ≡ q = omega arith in
      let g = get_or-set_same k q v 0 room in
      let a = listed_le (f q) in
      let d = rest q (omega arith) low in
      rw x (
        omega arith,
        rw (g, e) (region_own fl (q * len) (get_or k q 0) (f q) own_fits) ∙ ap (λ (l : List Float). l ++ listed (f q)) d.1,
      ))
      (split p q)

  pub turn_rest : (v p : ℕ) → q + 1 ≤ p → p < n
      → (get_or (set k q v) p 0 ≡ get_or k₀ p 0)
      × (region (stored fl (q * len + get_or k q 0) (f q)) (set k q v) len p ≡ region fl₀ k₀ len p)
  turn_rest v p h l =
      let a = rest p (omega arith) l in
      let d = few p l in
      let g = get_or-set_other k q p v 0 (λ x. omega arith) in
      (g ∙ a.0, other_region v p (λ x. omega arith) (omega arith) ∙ a.1)

-- ---- one entry at every point: the triangle's upper x index against the point's
module _ (s : List ℕ) (b : Bounds) (y z : Float) (xs : List Float) (ix : List ℕ) (i : ℕ) where
  pub up_to_is : (top : ℕ) (t : Triangle) → t ≡ triangle_of s i → top ≡ (high_of b t).i → Indexed b xs ix → (q : ℕ) → q < length xs
      → crossing_up_to top t y z xs ix q ≡ crossing_at s b y z xs i q
  unfolding crossing_up_to crossing_at crossing_on ahead indices point_of
  up_to_is top t e f h q l = rw (h.at_law q l, f, e)

pub up_is : (top : ℕ) (t : Triangle) (y z : Float) (xs : List Float) (ix : List ℕ) (q : ℕ) (c : Crossing)
    → c ≡ cond (leb (get_or ix q 0) top) (ray (record { x = get_or xs q nan; y = y; z = z }) t) Miss → c ≡ crossing_up_to top t y z xs ix q
unfolding crossing_up_to point_of
up_is top t y z xs ix q c e = e

-- where every point misses, nothing changes
pub missed_up_to : (top : ℕ) (t : Triangle) (y z : Float) (xs : List Float) (ix : List ℕ) (q : ℕ) → ray (point_of y z xs q) t ≡ Miss → crossing_up_to top t y z xs ix q ≡ Miss
unfolding crossing_up_to
missed_up_to top t y z xs ix q e = rw e (both (leb (get_or ix q 0) top) Miss)
  where
    both : (t : Bool) (c : Crossing) → cond t c c ≡ c
    both true c = refl
    both false c = refl

-- ---- the list, one entry further
in_more : (s : List ℕ) (b : Bounds) (at : Indices) (o : Vec3) (l : List ℕ) (i : ℕ) → crossings_in s b at o (l ++ i ∷ []) ≡ crossings_in s b at o l ++ listed (crossing_on s b at o i)
unfolding crossings_in
in_more s b at o [] i = append-nil _
in_more s b at o (j ∷ l) i = rw (in_more s b at o l i) (sym (append_assoc (listed (crossing_on s b at o j)) (crossings_in s b at o l) _))

module _ (s : List ℕ) (b : Bounds) (y z : Float) (xs : List Float) (l : List ℕ) (q : ℕ) where
  pub at_none : [] ≡ crossings_at s b y z xs (take 0 l) q
  unfolding crossings_at crossings_in
  at_none = refl

  pub at_more : (t : ℕ) → t < length l
      → crossings_at s b y z xs (take t l) q ++ listed (crossing_at s b y z xs (get_or l t 0) q) ≡ crossings_at s b y z xs (take (t + 1) l) q
  unfolding crossings_at crossing_at
  at_more t h = rw (add-one, take-suc l t 0 h) (sym (in_more s b _ _ (take t l) (get_or l t 0)))

pub region_none : (fl : List Float) (k : List ℕ) (len q : ℕ) → get_or k q 0 ≡ 0 → region fl k len q ≡ []
unfolding region
region_none fl k len q e = rw e

-- ---- the answers: what is sorted in one region leaves those behind it
module _ (fl last : List Float) (k : List ℕ) (len n q p : ℕ) (low : q < p) (few : get_or k q 0 ≤ len) (fits : q * len + get_or k q 0 ≤ length fl)
    (long : length last ≡ q * len + get_or k q 0 - q * len) where
  pub region_kept : region (put_mid (q * len) (q * len + get_or k q 0 - q * len) fl last) k len p ≡ region fl k len p
  unfolding region
  region_kept =
      let g = apart q p len low in
      let e = q * len + get_or k q 0 in
      let x : p * len ≡ e + (p * len - e) = omega arith in
      let d : drop (p * len) (put_mid (q * len) (e - q * len) fl last) ≡ drop (p * len) fl =
      ap (λ y. drop y (put_mid (q * len) (e - q * len) fl last)) x
      ∙ sym (drop-drop (p * len - e) e (put_mid (q * len) (e - q * len) fl last))
      ∙ ap (λ (l : List Float). drop (p * len - e) l) (drop_put (q * len) e fl last (omega arith) fits long)
      ∙ drop-drop (p * len - e) e fl
      ∙ ap (λ y. drop y fl) (sym x) in
      ap (λ (l : List Float). take (get_or k p 0) l) d

pub answer_step : (out : List ℕ) (q v : ℕ) (f : ℕ → ℕ) → q < length out → v ≡ f q → ((p : ℕ) → p < q → get_or out p 0 ≡ f p)
    → (p : ℕ) → p < q + 1 → get_or (set out q v) p 0 ≡ f p
answer_step out q v f l e inv p h = let y = inv p in grind (arith, common_steps)

pub region_lent : (fl : List Float) (k : List ℕ) (len q : ℕ) → take (q * len + get_or k q 0 - q * len) (drop (q * len) fl) ≡ region fl k len q
unfolding region
region_lent fl k len q = let x : q * len + get_or k q 0 - q * len ≡ get_or k q 0 = omega arith in ap (λ y. take y (drop (q * len) fl)) x

-- ---- the byte of each point, from the row's one list, is the answer of the inside test at that point
pub row_answer : (s : List ℕ) (b : Bounds) (y z : Float) (xs : List Float) (q : ℕ)
    → odd_rest (crossings_at s b y z xs (row_list s b (length s / 72) (row_pair b y z)) q) ≡ is_inside b (mesh s) (point_of y z xs q)
unfolding crossings_at point_of
row_answer s b y z xs q = sym (same_answer s b (get_or xs q nan) y z)

-- ---- a row's list between two starts
pub pair_below : (b : Bounds) (y z : Float) (p : ℕ) → p ≡ row_pair b y z → p < 9216
pair_below b y z p e = rw e (pair_low b y z)

module _ (s : List ℕ) (b : Bounds) (p : ℕ) (l : List ℕ) (is : l ≡ row_list s b (length s / 72) p) where
  pub listed_good : good_triangles (mesh s) ≡ true → (t : ℕ) → t < length l → (72 * get_or l t 0 + 72 ≤ length s) × (good_triangle (triangle_of s (get_or l t 0)) ≡ true)
  listed_good g t h = rw is (entry_good s b p t g (rw is at h))

-- ---- a row of one point
module _ (o : Vec3) where
  alone : (q : ℕ) → q < 1 → get_or (o.x ∷ []) q nan ≡ o.x
  alone zero h = refl
  alone (suc q) h = absurd (omega arith)

  pub one_near : vector_up_to point_limit o ≡ true → Near o.y o.z (o.x ∷ [])
  one_near h =
      let near = coordinates_up_to point_limit o h in
      record { on_y_law = near.1; on_z_law = near.2; on_x_law = λ q l. rw (alone q l) near.0 }

  pub one_indexed : (b : Bounds) (i : ℕ) → i ≡ axis_index (scaled b.min.x b.max.x o.x) → Indexed b (o.x ∷ []) (i ∷ [])
  one_indexed b i e = record { at_law = λ q l. let z : q ≡ 0 = omega arith in rw z e }

  pub one_point : point_of o.y o.z (o.x ∷ []) 0 ≡ o
  unfolding point_of
  one_point = refl

pub list_few : (s : List ℕ) (b : Bounds) (p : ℕ) → length (row_list s b (length s / 72) p) ≤ length s / 72
unfolding row_list
list_few s b p = count_le (meets s b) p (length s / 72)

-- 1 is yes
pub byte_told : (t : Bool) (n : ℕ) → n ≡ yes t → eqb n 1 ≡ t
byte_told true n e = rw e
byte_told false n e = rw e
