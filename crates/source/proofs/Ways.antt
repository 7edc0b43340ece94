-- What reading a tree's source answers, way by way. Assumes nothing.
use Prim.Native.Nat.{ℕ, ◌≤◌, ◌<◌}
use mathlib.Core.Path.{◌≡◌, refl, sym, ap, ◌∙◌}
use mathlib.Core.List.{List}
use native.Mathlib.Omega.{arith}
use lib.ListN.{length}
use Rattle.std.specs.Prelude.{Ok, Err}
use borrow.Author.Tests.{lt-ltb, le-ltb}
use Rattle.rym1.specs.declared.Cause.{Cause}
use Rattle.rym1.specs.declared.Cause.TheVariants.{ScratchShort, CellTwice}
use Rattle.rym1.specs.Causes.{number, when, first}
use Rattle.rym1.specs.File.{grid, count, file_cause, repeat_cause}
use Rattle.rym1.specs.Open.{occupied}
use Rattle.rym1.proofs.Causes.{first_found}
use Rattle.rym1.proofs.Repeated.{fewer_twice, as_many_once}
use Rattle.rtm1.specs.Build.{scratch_words, source_cause}
use Rattle.runs.specs.declared.Form.{Form}
use Rattle.runs.specs.Runs.{form_of, room_of, Held}
use Rattle.runs.proofs.Runs.{room_is}
use Rattle.source.specs.Source.{cause_of, Sourced}

-- a refusal that leaves the words as they were
refused_kept : (f s : List ℕ) (cause : Cause) → number cause ≡ source_cause f (length s) → 0 < number cause → Sourced f s (Err cause) s
unfolding cause_of
refused_kept f s cause e found =
    record { cause = e; some = found; kept = λ low. refl; read = tt; long = refl }

module _ (f s : List ℕ) where
  -- 1 to 7
  pub way_file : (cause : Cause) → number cause ≡ file_cause f → 0 < number cause → Sourced f s (Err cause) s
  unfolding source_cause
  way_file cause e found = refused_kept f s cause (e ∙ sym (first_found (file_cause f) _ (rw e at found))) found

  module _ (ok : file_cause f ≡ 0) (form : Form) (is-form : form ≡ form_of f) (n : ℕ) (en : n ≡ room_of form (grid f)) where
    room_words : n ≡ scratch_words f
    room_words = en ∙ ap (λ (k : Form). room_of k (grid f)) is-form ∙ room_is f

    pub way_8 : length s < n → Sourced f s (Err ScratchShort) s
    unfolding source_cause first when number
    way_8 h = refused_kept f s ScratchShort (rw (ok, lt-ltb (length s) (scratch_words f) (rw room_words at h))) (omega arith)

    -- 21, or nothing: k cells are occupied, there are m records
    module _ (enough : n ≤ length s) (s₁ : List ℕ) (held : Held form s₁ f) (long : length s₁ ≡ length s) (k m : ℕ) (ek : k ≡ occupied f) (em : m ≡ count f) where
      passed : source_cause f (length s) ≡ repeat_cause f
      unfolding source_cause first when
      passed = rw (ok, le-ltb (length s) (scratch_words f) (rw room_words at enough))

      pub way_21 : k < m → Sourced f s (Err CellTwice) s₁
      unfolding cause_of number
      way_21 h =
          record { cause = sym (passed ∙ fewer_twice f ok (omega (arith, ek, em))); some = omega arith; kept = λ low. absurd (omega (arith, low)); read = tt; long = long }

      pub way_read : m ≤ k → Sourced f s (Ok form) s₁
      unfolding cause_of
      way_read h =
          record {
            cause = sym (passed ∙ as_many_once f ok (omega (arith, ek, em)));
            some = tt;
            kept = tt;
            read = record { accepted = ok; held = held; gridded = refl };
            long = long;
          }
