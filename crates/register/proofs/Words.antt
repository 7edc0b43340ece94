-- The register's words for causes are those of the calls' definitions. Assumes nothing.
use Prim.Native.Nat.{ℕ, zero, suc}
use mathlib.Core.Path.{◌≡◌, refl, ap, ◌∙◌}
use mathlib.Core.Bool.{Bool, true, false, not, ◌&&◌, ◌||◌}
use mathlib.Core.Option.{Option, none, some}
use lib.Dec.{leb, ltb}
use borrow.Author.Tests.{ltb-true, ltb-false, le-leb, lt-leb}
use Rattle.rym1.specs.Causes.{when, first}
use Rattle.rym1.specs.File.{finite, place_cause, mass_cause}
use Rattle.rym1.specs.Cells.{Masses}
use Rattle.rym1.specs.Edits.{is_vacant}
use Rattle.rym1.proofs.Cells.{slot_at}
use Rattle.register.specs.Register.{in_grid, is_mass, is_empty}

-- ---- tests

not_both : (a b : Bool) → (not a || not b) ≡ not (a && b)
not_both true b = refl
not_both false b = refl

high_not_low : (g x : ℕ) → leb g x ≡ not (ltb x g)
high_not_low g x = go (ltb x g) refl
  where
    go : (t : Bool) → ltb x g ≡ t → leb g x ≡ not t
    go true e = lt-leb g x (ltb-true x g e)
    go false e = le-leb g x (ltb-false x g e)

-- ---- causes

pub place_is : (g x y z : ℕ) → place_cause g x y z ≡ when (not (in_grid g x y z)) 6
unfolding place_cause in_grid
place_is g x y z =
    rw (high_not_low g x, high_not_low g y, high_not_low g z, not_both (ltb y g) (ltb z g), not_both (ltb x g) (ltb y g && ltb z g))

pub masses_are : (a b : ℕ) → mass_cause a b ≡ when (not (is_mass a && is_mass b)) 7
unfolding mass_cause is_mass finite
masses_are a b = ap (λ (t : Bool). when t 7) (not_both (finite a) (finite b))

pub vacant_is : (i : ℕ) (o : Option Masses) → is_vacant (slot_at i o) ≡ is_empty o
unfolding is_vacant slot_at is_empty
vacant_is i none = refl
vacant_is i (some m) = refl

-- the same causes, one after the other: the later ones only where the first are not found
pub first_same : (a a' b b' : ℕ) → a ≡ a' → (a' ≡ 0 → b ≡ b') → first a b ≡ first a' b'
unfolding first
first_same a a' b b' e h = ap (λ (n : ℕ). first n b) e ∙ go a' h
  where
    go : (n : ℕ) → (n ≡ 0 → b ≡ b') → first n b ≡ first n b'
    go zero h = h refl
    go (suc n) h = refl
