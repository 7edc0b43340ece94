-- The points of a box: those that the lookup has at its cells, each of them in one half, and how often an index stands among them. Assumes nothing.
use Prim.Native.Nat.{ℕ, zero, suc, ◌+◌, ◌<◌, ◌≤◌}
use mathlib.Core.Path.{◌≡◌, refl, sym, ap, ◌∙◌, subst}
use mathlib.Core.Bool.{Bool}
use mathlib.Core.Logic.{◌⊎◌, inl, inr, ◌↔◌}
use mathlib.Core.List.Memᴰ
use mathlib.Core.List.{List, ◌++◌, map-append}
use native.Mathlib.Decide.{dec_lt}
use native.Mathlib.Omega.{arith}
use borrow.Author.Tests.{eq-eqb, ne_eqb}
use lib.Ieee.{binary32, of_bits}
use Rattle.rym1.specs.File.{cell}
use Rattle.rym1.specs.Cells.{Masses, Slot, vacant, held}
use Rattle.rtm1.specs.declared.Cells.{Cells}
use Rattle.rtm1.specs.declared.Axis.{Axis}
use Rattle.rtm1.specs.declared.Axis.TheVariants.{X, Y, Z}
use Rattle.rtm1.specs.Boxes.{width, lower, upper}
use Rattle.rtm1.specs.Visit.{Placed, here, run, point_in, row, plane, visit}
use Rattle.rtm1.specs.Tree.{indices}
use Rattle.tree_laws.specs.Said.{◌∈◌, one, times, In, OneOf, Holds, Found, Somewhere}
use Rattle.tree_laws.proofs.Lists.{times_append}
use Rattle.tree_laws.proofs.Boxes.{in_halves, lower_in, upper_in}

-- ---- what stands in a run of n places from a on

run_in : {p : Placed} (f : ℕ → List Placed) (a n k : ℕ) → a ≤ k → k < a + n → p ∈ f k → p ∈ run f a n
unfolding run
run_in f a zero k h i m = absurd (omega arith)
run_in {p} f a (suc n) k h i m =
    elim (dec_lt a k) [
      | yes j ↦ Memᴰ.append_right (f a) (run_in f (suc a) n k j (omega arith) m)
      | no j ↦ Memᴰ.append_left (run f (suc a) n) (subst (λ (l : ℕ). p ∈ f l) (omega arith) m)
    ]

run_from : {p : Placed} (f : ℕ → List Placed) (a n : ℕ) → p ∈ run f a n → (k : ℕ) × (a ≤ k) × (k < a + n) × (p ∈ f k)
unfolding run
run_from f a zero m = absurd (Memᴰ.not-nil m)
run_from f a (suc n) m = go (run_from f (suc a) n) (Memᴰ.append_cases (f a) m)
  where
    go : {p : Placed} → (p ∈ run f (suc a) n → (k : ℕ) × (suc a ≤ k) × (k < suc a + n) × (p ∈ f k))
        → (p ∈ f a) ⊎ (p ∈ run f (suc a) n) → (k : ℕ) × (a ≤ k) × (k < a + suc n) × (p ∈ f k)
    go later (inl m) = (a, omega arith, omega arith, m)
    go later (inr m) = let t = later m in (t.0, omega (arith, t.1), omega (arith, t.2), t.3)

-- ---- the points of a box

-- p has the cell and the slot's index and masses
abbrev At : Placed → ℕ → ℕ → ℕ → Slot → Type 0
At p x y z s =
    (p.x ≡ x) × (p.y ≡ y) × (p.z ≡ z) × (m : Masses) × (s ≡ held p.index m) × (p.cauchy ≡ of_bits binary32 m.cauchy) × (p.elliptic ≡ of_bits binary32 m.elliptic)

here_from : {p : Placed} (x y z : ℕ) (s : Slot) → p ∈ here x y z s → At p x y z s
here_from x y z vacant m = absurd (Memᴰ.not-nil m)
here_from x y z (held i m) h =
    let q = Memᴰ.eq_of_singleton h in (
      ap (λ (r : Placed). r.x) q,
      ap (λ (r : Placed). r.y) q,
      ap (λ (r : Placed). r.z) q,
      m,
      ap (λ (r : Placed). held r.index m) (sym q),
      ap (λ (r : Placed). r.cauchy) q,
      ap (λ (r : Placed). r.elliptic) q,
    )

here_in : (p : Placed) (m : Masses) → p.cauchy ≡ of_bits binary32 m.cauchy → p.elliptic ≡ of_bits binary32 m.elliptic → p ∈ here p.x p.y p.z (held p.index m)
here_in p m ec ee =
    Memᴰ.head (λ i. record { x = p.x; y = p.y; z = p.z; index = p.index; cauchy = ec i; elliptic = ee i })

found_at : (look : ℕ → Slot) (g : ℕ) (p : Placed) (x y z : ℕ) → At p x y z (look (cell g x y z)) → Found look g p
found_at look g p x y z (ex, ey, ez, m, e, ec, ee) = (m, ap look (λ i. cell g (ex i) (ey i) (ez i)) ∙ e, ec, ee)

module _ (look : ℕ → Slot) (g : ℕ) (b : Cells) where
  pub visit_in : (p : Placed) → In b p.x p.y p.z → Found look g p → p ∈ visit look g b
  visit_in p h (m, e, ec, ee) =
      run_in (plane look g b) b.z0 (width Z b) p.z h.from_z (omega arith)
      (run_in (row look g b p.z) b.y0 (width Y b) p.y h.from_y (omega arith)
      (run_in (point_in look g p.z p.y) b.x0 (width X b) p.x h.from_x (omega arith) (rw e (here_in p m ec ee))))

  pub visit_from : (p : Placed) → p ∈ visit look g b → In b p.x p.y p.z × Found look g p
  visit_from p h =
      let (z, z≥, z<, mz) = run_from (plane look g b) b.z0 (width Z b) h in
      let (y, y≥, y<, my) = run_from (row look g b z) b.y0 (width Y b) mz in
      let (x, x≥, x<, mx) = run_from (point_in look g z y) b.x0 (width X b) my in
      let at = here_from x y z (look (cell g x y z)) mx in
      (omega (arith, at.0, at.1, at.2), found_at look g p x y z at)

  pub visit_are : (p : Placed) → (p ∈ visit look g b) ↔ (In b p.x p.y p.z × Found look g p)
  visit_are p = (visit_from p, λ h. visit_in p h.0 h.1)

  pub index_in : (x y z i : ℕ) → In b x y z → Holds look (cell g x y z) i → i ∈ indices (visit look g b)
  index_in x y z i h (m, e) =
      Memᴰ.map (λ (p : Placed). p.index)
      (visit_in (record { x = x; y = y; z = z; index = i; cauchy = of_bits binary32 m.cauchy; elliptic = of_bits binary32 m.elliptic }) h (m, e, refl, refl))

  pub index_from : (i : ℕ) → i ∈ indices (visit look g b) → Somewhere look g b i
  index_from i k =
      let (p, mp, q) = Memᴰ.of_map (λ (p : Placed). p.index) (visit look g b) k in
      let (h, (m, e, ec, ee)) = visit_from p mp in
      (p.x, p.y, p.z, h, (m, e ∙ ap (λ (j : ℕ). held j m) q))

-- ---- a point of the box is one of exactly one half

pub in_one_half : (look : ℕ → Slot) (g : ℕ) (b : Cells) (a : Axis) (p : Placed)
    → (p ∈ visit look g b) ↔ OneOf (p ∈ visit look g (lower a b)) (p ∈ visit look g (upper a b))
in_one_half look g b a p = (λ m. to (visit_from look g b p m).1 (halves.0 (visit_from look g b p m).0), from)
  where
    lo : Cells
    lo = lower a b

    hi : Cells
    hi = upper a b

    halves : In b p.x p.y p.z ↔ OneOf (In lo p.x p.y p.z) (In hi p.x p.y p.z)
    halves = in_halves b p.x p.y p.z a

    to : Found look g p → OneOf (In lo p.x p.y p.z) (In hi p.x p.y p.z) → OneOf (p ∈ visit look g lo) (p ∈ visit look g hi)
    to e (inl h) = inl (visit_in look g lo p h.0 e, λ m. h.1 (visit_from look g hi p m).0)
    to e (inr h) = inr (λ m. h.0 (visit_from look g lo p m).0, visit_in look g hi p h.1 e)

    back : (c : Cells) → (In c p.x p.y p.z → In b p.x p.y p.z) → p ∈ visit look g c → p ∈ visit look g b
    back c h m = visit_in look g b p (h (visit_from look g c p m).0) (visit_from look g c p m).1

    from : OneOf (p ∈ visit look g lo) (p ∈ visit look g hi) → p ∈ visit look g b
    from (inl m) = back lo (lower_in b p.x p.y p.z a) m.0
    from (inr m) = back hi (upper_in b p.x p.y p.z a) m.1

-- ---- how often an index stands among the points

module _ (i : ℕ) where
  abbrev often : List Placed → ℕ
  often l = times i (indices l)

  often_append : (l m : List Placed) → often (l ++ m) ≡ often l + often m
  often_append l m = rw (map-append, times_append)

  run_none : (f : ℕ → List Placed) (a n : ℕ) → ((k : ℕ) → a ≤ k → k < a + n → often (f k) ≡ 0) → often (run f a n) ≡ 0
  unfolding run times
  run_none f a zero e = refl
  run_none f a (suc n) e =
      omega (arith, often_append (f a) (run f (suc a) n), e a (omega arith) (omega arith), run_none f (suc a) n (λ k h j. e k (omega arith) (omega arith)))

  -- once at the place k and at no other
  run_one : (f : ℕ → List Placed) (a n k : ℕ) → a ≤ k → k < a + n → often (f k) ≡ 1 → ((j : ℕ) → a ≤ j → j < a + n → (j ≡ k → ⊥) → often (f j) ≡ 0)
      → often (run f a n) ≡ 1
  unfolding run times
  run_one f a zero k h h' e z = absurd (omega arith)
  run_one f a (suc n) k h h' e z =
      often_append (f a) (run f (suc a) n) ∙ elim (dec_lt a k) [
        | yes l ↦ omega (arith, z a (omega arith) (omega arith) (omega arith), run_one f (suc a) n k l (omega arith) e (λ j p q r. z j (omega arith) (omega arith) r))
        | no l ↦
            let q : k ≡ a = omega arith in
            omega (arith, rw q at e, run_none f (suc a) n (λ j p q. z j (omega arith) (omega arith) (omega arith)))
      ]

  here_none : (x y z : ℕ) (s : Slot) → ((m : Masses) → s ≡ held i m → ⊥) → often (here x y z s) ≡ 0
  unfolding times
  here_none x y z vacant h = refl
  here_none x y z (held j m) h = ap (λ (t : Bool). one t + 0) (ne_eqb i j (λ q. h m (ap (λ (k : ℕ). held k m) (sym q))))

  here_one : (x y z : ℕ) (m : Masses) → often (here x y z (held i m)) ≡ 1
  unfolding times
  here_one x y z m = ap (λ (t : Bool). one t + 0) (eq-eqb i i refl)

module _ (look : ℕ → Slot) (g : ℕ) (b : Cells) (x y z i : ℕ) (h : In b x y z) (holds : Holds look (cell g x y z) i)
    (only : (x' y' z' : ℕ) → In b x' y' z' → Holds look (cell g x' y' z') i → (x' ≡ x) × (y' ≡ y) × (z' ≡ z))
  where
    other : (x' y' z' : ℕ) → In b x' y' z' → ((x' ≡ x) × (y' ≡ y) × (z' ≡ z) → ⊥) → often i (point_in look g z' y' x') ≡ 0
    other x' y' z' k n = here_none i x' y' z' (look (cell g x' y' z')) (λ m q. n (only x' y' z' k (m, q)))

    -- where no other cell of the box holds its index, a cell's index stands once among those of the points
    pub visit_once : times i (indices (visit look g b)) ≡ 1
    visit_once =
        run_one i (plane look g b) b.z0 (width Z b) z h.from_z (omega arith)
        (run_one i (row look g b z) b.y0 (width Y b) y h.from_y (omega arith)
        (run_one i (point_in look g z y) b.x0 (width X b) x h.from_x (omega arith)
        (rw holds.1 (here_one i x y z holds.0))
        (λ x' h₁ h₂ n. other x' y z (omega arith) (λ q. n q.0)))
        (λ y' h₃ h₄ n. run_none i (point_in look g z y') b.x0 (width X b) (λ x' h₁ h₂. other x' y' z (omega arith) (λ q. n q.1))))
        (λ z' h₅ h₆ n. run_none i (row look g b z') b.y0 (width Y b)
        (λ y' h₃ h₄. run_none i (point_in look g z' y') b.x0 (width X b) (λ x' h₁ h₂. other x' y' z' (omega arith) (λ q. n q.2))))
