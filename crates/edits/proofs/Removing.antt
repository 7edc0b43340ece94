-- What remove answers and leaves, way by way. Assumes nothing.
use Prim.Native.Nat.{ℕ, ◌+◌, ◌-◌, ◌*◌, ◌<◌}
use mathlib.Core.Path.{◌≡◌, sym, ap, ◌∙◌}
use mathlib.Core.List.{List}
use native.Mathlib.Omega.{arith}
use Rattle.rym1.specs.declared.Cause.TheVariants.{CellEmpty}
use Rattle.rym1.specs.Bytes.{word}
use Rattle.rym1.specs.Causes.{number, told, when, first, outcome, refuse}
use Rattle.rym1.specs.File.{grid, count, size, point_at, cell, place_cause}
use Rattle.rym1.specs.Cells.{masses_of}
use Rattle.rym1.specs.Open.{both}
use Rattle.rym1.specs.Journal.{push_cause, entry_words, pushed}
use Rattle.rym1.specs.Edits.{removed, changed, change, buffers_cause, is_vacant, edited, remove_words, remove_cause, remove}
use Rattle.rym1.proofs.Causes.{first_found, first_none, refuse_found}
pub use Rattle.rym1.proofs.Accepted.{inside}
use Rattle.rym1.proofs.Accepted.{accepted}
use Rattle.std.specs.Prelude.{Ok, Err}
use Rattle.working.specs.Spotted.{Spotted}
use Rattle.edits.specs.Calls.{Sound, remove_rest}
use Rattle.edits.proofs.Counts.{count_few, count_removed}

-- ---- past 6

module _ (f j : List ℕ) (c : ℕ) where
  pub way_empty : (i : ℕ) → Spotted f c (Err i) → outcome (told (Err CellEmpty)) (both f j) ≡ remove_rest f j c
  unfolding remove_rest is_vacant told number when first refuse outcome
  way_empty i spot = rw spot.1

  module _ (i : ℕ) (spot : Spotted f c (Ok i)) where
    -- 13
    pub way_full : (k : ℕ) → k ≡ push_cause j → 0 < k → outcome k (both f j) ≡ remove_rest f j c
    unfolding remove_rest is_vacant when first
    way_full k e h = ap (λ (n : ℕ). outcome n (both f j)) e ∙ rw spot.1 (sym (refuse_found (push_cause j) (both f j) _ (rw e at h)))

    -- f' and j' the buffers at the end, t the answer
    pub way_removed : Sound f j → push_cause j ≡ 0 → (n a b t : ℕ) (f' j' : List ℕ) → n ≡ count f
        → a ≡ word 4 f (64 + 16 * i + 8) → b ≡ word 4 f (64 + 16 * i + 12) → f' ≡ removed f i
        → j' ≡ pushed j (entry_words 3 c a b) → t ≡ 64 + 16 * (n - 1) → outcome t (both f' j') ≡ remove_rest f j c
    unfolding remove_rest is_vacant when first refuse edited change changed remove_words masses_of point_at size
    way_removed s free n a b t f' j' en ea eb ef ej et =
        let fewer = count_removed f i spot.0 (accepted f s.file).room (omega (arith, count_few f s.file s.works)) in
        let same : t ≡ size (count (removed f i)) = omega (arith, et, en, fewer) in
        let entry : j' ≡ pushed j (entry_words 3 c (word 4 f (64 + 16 * i + 8)) (word 4 f (64 + 16 * i + 12))) = ej ∙ (λ k. pushed j (entry_words 3 c (ea k) (eb k))) in
        rw (spot.1, free) (λ k. outcome (same k) (both (ef k) (entry k)))

-- ---- the whole call

module _ (f j : List ℕ) (x y z : ℕ) where
  -- 1 to 7, 10, 11
  pub way_buffers : (k : ℕ) → k ≡ buffers_cause f j → 0 < k → outcome k (both f j) ≡ remove f j x y z
  unfolding remove remove_cause
  way_buffers k e h =
      let found : 0 < buffers_cause f j = rw e at h in
      ap (λ (n : ℕ). outcome n (both f j)) e ∙ rw (first_found (buffers_cause f j) _ found) (sym (refuse_found (buffers_cause f j) (both f j) _ found))

  module _ (ok : buffers_cause f j ≡ 0) where
    -- 6
    pub way_place : (k : ℕ) → k ≡ place_cause (grid f) x y z → 0 < k → outcome k (both f j) ≡ remove f j x y z
    unfolding remove remove_cause
    way_place k e h =
        let found : 0 < place_cause (grid f) x y z = rw e at h in
        ap (λ (n : ℕ). outcome n (both f j)) e
        ∙ rw (first_none (buffers_cause f j) _ ok, first_found (place_cause (grid f) x y z) _ found) (sym (refuse_found (place_cause (grid f) x y z) (both f j) _ found))

    -- 12, 13, or the cell is emptied
    pub way_rest : (c g : ℕ) → c ≡ cell g x y z → g ≡ grid f → place_cause g x y z ≡ 0 → remove_rest f j c ≡ remove f j x y z
    unfolding remove remove_cause remove_rest first
    way_rest c g ec eg e = rw (ec, ok, eg, rw eg at e)

pub ruleset ways = (way_buffers, way_place, way_rest, inside)
