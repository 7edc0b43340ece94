-- The causes up to 8 of a file that is read with words lent, way by way. Assumes nothing.
use Prim.Native.Nat.{ℕ, ◌≤◌, ◌<◌}
use mathlib.Core.Path.{◌≡◌, sym, ◌∙◌}
use mathlib.Core.List.{List}
use native.Mathlib.Omega.{arith}
use lib.Dec.{ltb}
use borrow.Author.Tests.{lt-ltb, le-ltb, ltb-false}
use Rattle.rym1.specs.Causes.{when, first}
use Rattle.rym1.specs.File.{grid, cube, file_cause}
use Rattle.rym1.proofs.Causes.{when_zero, first_zero_l, first_zero_r, first_found}

module _ (f : List ℕ) (words : ℕ) where
  pub read_file : (k : ℕ) → k ≡ file_cause f → 0 < k → k ≡ first (file_cause f) (when (ltb words (cube (grid f))) 8)
  read_file k e h = e ∙ sym (first_found (file_cause f) _ (rw e at h))

  module _ (ok : file_cause f ≡ 0) (n : ℕ) (en : n ≡ cube (grid f)) where
    pub read_8 : words < n → 8 ≡ first (file_cause f) (when (ltb words (cube (grid f))) 8)
    unfolding first when
    read_8 h = rw (ok, lt-ltb words (cube (grid f)) (omega (arith, en, h)))

    pub read_none : n ≤ words → 0 ≡ first (file_cause f) (when (ltb words (cube (grid f))) 8)
    unfolding first when
    read_none h = rw (ok, le-ltb words (cube (grid f)) (omega (arith, en, h)))

  -- where none of them is given
  pub read_passed : first (file_cause f) (when (ltb words (cube (grid f))) 8) ≡ 0 → (file_cause f ≡ 0) × (cube (grid f) ≤ words)
  read_passed e =
      (first_zero_l (file_cause f) _ e, ltb-false words (cube (grid f)) (when_zero (ltb words (cube (grid f))) 7 (first_zero_r (file_cause f) _ e)))
