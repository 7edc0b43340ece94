-- Laws of the causes that every edit refuses: how the code finds them, and what is known where it finds none. Assumes nothing.
use Prim.Native.Nat.{ℕ, ◌<◌}
use mathlib.Core.Path.{◌≡◌, sym, ◌∙◌}
use mathlib.Core.List.{List}
use Rattle.rym1.specs.Causes.{first}
use Rattle.rym1.specs.File.{file_cause, work_cause}
use Rattle.rym1.specs.Journal.{journal_cause}
use Rattle.rym1.specs.Edits.{buffers_cause}
pub use Rattle.rym1.proofs.Causes.{number_pos}
use Rattle.rym1.proofs.Causes.{first_zero_l, first_zero_r, first_found, first_none}
use Rattle.edits.specs.Calls.{Sound}

module _ (f j : List ℕ) where
  pub file_refused : (k : ℕ) → k ≡ file_cause f → 0 < k → k ≡ buffers_cause f j
  unfolding buffers_cause
  file_refused k e h = e ∙ sym (first_found (file_cause f) (first (work_cause f) (journal_cause j)) (rw e at h))

  module _ (ok : file_cause f ≡ 0) where
    pub form_refused : (k : ℕ) → k ≡ work_cause f → 0 < k → k ≡ buffers_cause f j
    unfolding buffers_cause
    form_refused k e h =
        e ∙ sym (first_found (work_cause f) (journal_cause j) (rw e at h))
        ∙ sym (first_none (file_cause f) (first (work_cause f) (journal_cause j)) ok)

    pub journal_judged : work_cause f ≡ 0 → (k : ℕ) → k ≡ journal_cause j → k ≡ buffers_cause f j
    unfolding buffers_cause
    journal_judged works k e =
        e ∙ sym (first_none (work_cause f) (journal_cause j) works) ∙ sym (first_none (file_cause f) (first (work_cause f) (journal_cause j)) ok)

  -- where the code finds nothing against them
  pub buffers_sound : buffers_cause f j ≡ 0 → Sound f j
  unfolding buffers_cause
  buffers_sound z =
      let rest = first_zero_r (file_cause f) (first (work_cause f) (journal_cause j)) z in
      record {
        file = first_zero_l (file_cause f) (first (work_cause f) (journal_cause j)) z;
        works = first_zero_l (work_cause f) (journal_cause j) rest;
        journal = first_zero_r (work_cause f) (journal_cause j) rest;
      }

pub ruleset judging = (file_refused, form_refused, journal_judged, number_pos)

pub ruleset sound = (buffers_sound, number_pos)
