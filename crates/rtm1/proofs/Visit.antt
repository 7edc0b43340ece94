-- Laws of the visit: runs, the points of a box and of its halves, how many there are, two lookups, sums. Assumes nothing.
-- A visit is three runs, one within the other: each law is proved of a run of any f and used three times.
use Prim.Native.Nat.{ℕ, zero, suc, ◌+◌, ◌*◌, ◌-◌, ◌<◌, ◌≤◌}
use mathlib.Core.Path.{◌≡◌, refl, sym, ap, ap₂, ◌∙◌}
use mathlib.Core.List.Permᴰ
use mathlib.Core.List.{List, [], ◌∷◌, ◌++◌, map-append, append_assoc, Permᴰ}
use native.Mathlib.Nat.{zero-add, add-zero, suc-add, add-suc, sub-eq-zero_of_le}
use native.Mathlib.Numerals.{add-one}
use native.Mathlib.Omega.{arith}
use lib.ListN.{length, length-append}
use Rattle.rym1.specs.File.{cell}
use Rattle.rym1.specs.Cells.{Slot, vacant, held}
use Rattle.rtm1.specs.declared.Cells.{Cells}
use Rattle.rtm1.specs.declared.Axis.{Axis}
use Rattle.rtm1.specs.declared.Axis.TheVariants.{X, Y, Z}
use Rattle.rtm1.specs.declared.Sums.{Sums}
use Rattle.rtm1.specs.Boxes.{Proper, width, cells, lower, upper}
use Rattle.rtm1.specs.Visit.{Placed, here, run, point_in, row, plane, visit, with, total}
use Rattle.rtm1.specs.Tree.{indices}
use Rattle.rtm1.proofs.Lists.{perm_append, perm_of_eq, perm_shuffle}

-- ---- a run of n places from a on

pub run_append : (f : ℕ → List Placed) (a m n : ℕ) → run f a (m + n) ≡ run f a m ++ run f (a + m) n
unfolding run
run_append f a zero n = ap₂ (run f) (sym (add-zero a)) (zero-add n)
run_append f a (suc m) n = ap (run f a) (suc-add m n) ∙ ap (λ (l : List Placed). f a ++ l) (run_append f (suc a) m n) ∙ simp (append_assoc, suc-add, add-suc)

-- from a up to e: the first place and the others; none
pub run_first : (f : ℕ → List Placed) (e a : ℕ) → a < e → run f a (e - a) ≡ f a ++ run f (a + 1) (e - (a + 1))
unfolding run
run_first f e a h =
    let more : e - a ≡ suc (e - (a + 1)) = omega arith in
    ap (run f a) more ∙ ap (λ (k : ℕ). f a ++ run f k (e - (a + 1))) (sym (add-one a))

pub run_none : (f : ℕ → List Placed) (e a : ℕ) → e ≤ a → run f a (e - a) ≡ []
unfolding run
run_none f e a h = ap (run f a) (sub-eq-zero_of_le h)

-- a run from a up to e, cut at c
pub run_cut : (f : ℕ → List Placed) (a c e : ℕ) → a ≤ c → c ≤ e → run f a (c - a) ++ run f c (e - c) ≡ run f a (e - a)
run_cut f a c e h k =
    let p : (c - a) + (e - c) ≡ e - a = omega arith in
    let q : a + (c - a) ≡ c = omega arith in
    sym (run_append f a (c - a) (e - c) ∙ rw q) ∙ ap (run f a) p

pub run_same : (f h : ℕ → List Placed) (a n : ℕ) → ((k : ℕ) → a ≤ k → k < a + n → f k ≡ h k) → run f a n ≡ run h a n
unfolding run
run_same f h a zero e = refl
run_same f h a (suc n) e =
    ap₂ (λ (l m : List Placed). l ++ m) (e a (omega arith) (omega arith)) (run_same f h (suc a) n (λ k i j. e k (omega arith) (omega arith)))

-- where f and h together have at each place what j has, their runs together have what the run of j has
pub run_zip : (f h j : ℕ → List Placed) → ((k : ℕ) → Permᴰ (f k ++ h k) (j k)) → (a n : ℕ) → Permᴰ (run f a n ++ run h a n) (run j a n)
unfolding run
run_zip f h j e a zero = Permᴰ.nil
run_zip f h j e a (suc n) = Permᴰ.trans (perm_shuffle (f a) (run f (suc a) n) (h a) (run h (suc a) n)) (perm_append (e a) (run_zip f h j e (suc a) n))

pub run_length : (f : ℕ → List Placed) (m a n : ℕ) → ((k : ℕ) → length (f k) ≤ m) → length (run f a n) ≤ n * m
unfolding run
run_length f m a zero h = omega arith
run_length f m a (suc n) h = omega (arith, length-append (f a) (run f (suc a) n), h a, run_length f m (suc a) n h)

-- ---- how many points

here_few : (x y z : ℕ) (s : Slot) → length (here x y z s) ≤ 1
here_few x y z vacant = omega arith
here_few x y z (held i m) = omega arith

module _ (look : ℕ → Slot) (g : ℕ) where
  pub run_few : (z y a n : ℕ) → length (run (point_in look g z y) a n) ≤ n
  run_few z y a n = omega (arith, run_length (point_in look g z y) 1 a n (λ x. here_few x y z (look (cell g x y z))))

  pub row_few : (b : Cells) (z y : ℕ) → length (row look g b z y) ≤ width X b
  row_few b z y = run_few z y b.x0 (width X b)

  pub rows_few : (b : Cells) (z a n : ℕ) → length (run (row look g b z) a n) ≤ n * width X b
  rows_few b z a n = run_length (row look g b z) (width X b) a n (row_few b z)

  pub plane_few : (b : Cells) (z : ℕ) → length (plane look g b z) ≤ width Y b * width X b
  plane_few b z = rows_few b z b.y0 (width Y b)

  pub planes_few : (b : Cells) (a n : ℕ) → length (run (plane look g b) a n) ≤ n * (width Y b * width X b)
  planes_few b a n = run_length (plane look g b) (width Y b * width X b) a n (plane_few b)

  pub visit_few : (b : Cells) → length (visit look g b) ≤ cells b
  visit_few b = planes_few b b.z0 (width Z b)

-- ---- the points of the halves

module _ (look : ℕ → Slot) (g : ℕ) (b : Cells) (p : Proper b) where
  pub visit_halves : (a : Axis) → Permᴰ (visit look g (lower a b) ++ visit look g (upper a b)) (visit look g b)
  visit_halves X = run_zip _ _ _ (λ z. run_zip _ _ _ (λ y. perm_of_eq (run_cut _ b.x0 _ b.x1 (omega arith) (omega arith))) _ _) _ _
  visit_halves Y = run_zip _ _ _ (λ z. perm_of_eq (run_cut _ b.y0 _ b.y1 (omega arith) (omega arith))) _ _
  visit_halves Z = perm_of_eq (run_cut _ b.z0 _ b.z1 (omega arith) (omega arith))

  pub indices_halves : (a : Axis) → Permᴰ (indices (visit look g (lower a b)) ++ indices (visit look g (upper a b))) (indices (visit look g b))
  indices_halves a = rw (← map-append) (Permᴰ.map (λ (p : Placed). p.index) (visit_halves a))

-- ---- two lookups

-- they have the same at each cell of the box
abbrev pub Agree : (ℕ → Slot) → (ℕ → Slot) → ℕ → Cells → Type 0
Agree look look' g b =
    (x y z : ℕ) → b.x0 ≤ x → x < b.x1 → b.y0 ≤ y → y < b.y1 → b.z0 ≤ z → z < b.z1 → look (cell g x y z) ≡ look' (cell g x y z)

pub visit_same : (look look' : ℕ → Slot) (g : ℕ) (b : Cells) → Agree look look' g b → visit look g b ≡ visit look' g b
visit_same look look' g b e =
    run_same _ _ b.z0 (width Z b) (λ z h₅ h₆. run_same _ _ b.y0 (width Y b) (λ y h₃ h₄. run_same _ _ b.x0 (width X b) (λ x h₁ h₂.
    ap (here x y z) (e x y z (omega arith) (omega arith) (omega arith) (omega arith) (omega arith) (omega arith)))))

-- ---- sums

pub total_append : (s : Sums) (ps qs : List Placed) → total s (ps ++ qs) ≡ total (total s ps) qs
unfolding total
total_append s [] qs = refl
total_append s (p ∷ ps) qs = total_append (with s p) ps qs

pub total_count : (s : Sums) (ps : List Placed) → (total s ps).count ≡ s.count + length ps
unfolding total
total_count s [] = sym (add-zero s.count)
total_count s (p ∷ ps) = total_count (with s p) ps ∙ omega arith
