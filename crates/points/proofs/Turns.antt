-- Laws of the loops over records: one turn of each. Assumes nothing.
use Prim.Native.Nat.{ℕ, suc, ◌+◌, ◌-◌, ◌≤◌, ◌<◌}
use mathlib.Core.Path.{◌≡◌, sym, ap}
use mathlib.Core.Bool.{true, false}
use mathlib.Core.List.{List, ◌∷◌}
use native.Mathlib.Omega.{arith}
use borrow.Author.Tests.{le-leb, lt-leb, eq-eqb, ne_eqb}
use Rattle.rym1.specs.declared.Point.{Point}
use Rattle.rym1.specs.File.{point_at, points_at, cell_of, point_cause, points_cause, working}
use Rattle.rym1.proofs.Causes.{first_found, first_none}

-- at least one record is left: it, and the others
pub points_more : (f : List ℕ) (at left : ℕ) → 0 < left → points_at f at left ≡ point_at f at ∷ points_at f (at + 16) (left - 1)
unfolding points_at
points_more f at left h =
    let e : left ≡ suc (left - 1) = omega arith in
    ap (λ (n : ℕ). points_at f at n) e

-- ---- causes

pub cause_stop : (f : List ℕ) (g at left k : ℕ) (p : Point) → 0 < left → p ≡ point_at f at → k ≡ point_cause g p → 0 < k
    → k ≡ points_cause g (points_at f at left)
unfolding points_cause
cause_stop f g at left k p h e c b = rw (points_more f at left h, ← e, ← c) (sym (first_found k (points_cause g (points_at f (at + 16) (left - 1))) b))

pub cause_go : (f : List ℕ) (g at left k : ℕ) (p : Point) → 0 < left → p ≡ point_at f at → k ≡ point_cause g p → k ≡ 0
    → points_cause g (points_at f at left) ≡ points_cause g (points_at f (at + 16) (left - 1))
unfolding points_cause
cause_go f g at left k p h e c z = rw (points_more f at left h, ← e, ← c) (first_none k (points_cause g (points_at f (at + 16) (left - 1))) z)

pub cause_end : (f : List ℕ) (g at left : ℕ) → left ≤ 0 → points_cause g (points_at f at left) ≡ 0
unfolding points_cause points_at
cause_end f g at left h =
    let e : left ≡ 0 = omega arith in
    rw e

-- ---- the working form

pub work_low : (f : List ℕ) (g low at left c : ℕ) (p : Point) → 0 < left → p ≡ point_at f at → c ≡ cell_of g p → c < low
    → false ≡ working g low (points_at f at left)
unfolding working
work_low f g low at left c p h e ec l = rw (points_more f at left h, ← e, ← ec, lt-leb low c l)

pub work_pad : (f : List ℕ) (g low at left c : ℕ) (p : Point) → 0 < left → p ≡ point_at f at → c ≡ cell_of g p → low ≤ c → (p.pad ≡ 0 → ⊥)
    → false ≡ working g low (points_at f at left)
unfolding working
work_pad f g low at left c p h e ec l ne = rw (points_more f at left h, ← e, ← ec, le-leb low c l, ne_eqb p.pad 0 ne)

pub work_go : (f : List ℕ) (g low at left c : ℕ) (p : Point) → 0 < left → p ≡ point_at f at → c ≡ cell_of g p → low ≤ c → p.pad ≡ 0
    → working g low (points_at f at left) ≡ working g (c + 1) (points_at f (at + 16) (left - 1))
unfolding working
work_go f g low at left c p h e ec l z =
    let s : suc c ≡ c + 1 = omega arith in
    rw (points_more f at left h, ← e, ← ec, le-leb low c l, eq-eqb p.pad 0 z, s)

pub work_end : (f : List ℕ) (g low at left : ℕ) → left ≤ 0 → working g low (points_at f at left) ≡ true
unfolding working points_at
work_end f g low at left h =
    let e : left ≡ 0 = omega arith in
    rw e
