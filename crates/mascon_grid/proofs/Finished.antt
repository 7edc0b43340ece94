-- What is left once the finds' records stand in the output: 20, or the file. Assumes nothing.
use Prim.Native.Nat.{ℕ, ◌+◌, ◌*◌, ◌≤◌}
use mathlib.Core.Path.{◌≡◌, refl, sym, ◌∙◌}
use mathlib.Core.Bool.{true, false}
use mathlib.Core.List.{List, ◌++◌}
use native.Mathlib.Omega.{arith}
use lib.ListN.{length, get_or, replicate}
use lib.Ieee.{Float}
use Rattle.std.specs.Prelude.{Result, Ok, Err}
use Rattle.float.specs.Narrow.{float_word, float_words}
use Rattle.rym1.specs.declared.Cause.{Cause}
use Rattle.rym1.specs.declared.Cause.TheVariants.{FloatNotFinite}
use Rattle.rym1.specs.Bytes.{splice, words_bytes}
use Rattle.rym1.specs.Causes.{number, told, outcome}
use Rattle.rym1.specs.File.{finite, all_finite, size, points_at, points_bytes}
use Rattle.rym1.proofs.Bytes.{splice_comm, splice_splice, length_words}
use Rattle.rym1.proofs.Points.{length_points, length_points_at}
use Rattle.filling.specs.declared.Frame.{Frame}
use Rattle.filling.specs.Fill.{scale_of, masses_finite, cleared}
use Rattle.visit.specs.declared.Found.{Found}
use Rattle.mascon_grid.specs.Scaled.{scaled_points, header_floats, header_around, header_of, written_points, all_fine, finished}
use Rattle.mascon_grid.proofs.ScalingLoops.{length_scaled}

pub header_long : (g : ℕ) (f : Frame) (w : Found) (target density : Float) → length (words_bytes (header_of g f w target density)) ≡ 64
unfolding header_of header_around
header_long g f w target density = length_words (header_of g f w target density)

pub length_written : (w : Found) (target : Float) (out : List ℕ) → length (points_bytes (written_points w target out)) ≡ 16 * w.count
unfolding written_points
length_written w target out =
    let raw = points_at out 64 w.count in
    let k = float_word (scale_of target w.cauchy) in
    let l = float_word (scale_of target w.elliptic) in
    omega (arith, length_points (scaled_points k l raw), length_scaled k l raw, length_points_at out 64 w.count)

-- the word of the Cauchy scale is the header's third float
pub scale_word : (f : Frame) (w : Found) (target density : Float) → get_or (float_words (header_floats f w target density)) 2 0 ≡ float_word (scale_of target w.cauchy)
unfolding header_floats float_words
scale_word f w target density = refl

-- the elliptic scale, the header's floats and the scaled masses decide
module _ (f : Frame) (w : Found) (target density : Float) (out : List ℕ) where
  pub no_scale : finite (float_word (scale_of target w.elliptic)) ≡ false → all_fine f w target density out ≡ false
  unfolding all_fine
  no_scale h = rw h

  module _ (scale : finite (float_word (scale_of target w.elliptic)) ≡ true) where
    pub no_floats : all_finite (float_words (header_floats f w target density)) ≡ false → all_fine f w target density out ≡ false
    unfolding all_fine
    no_floats h = rw (scale, h)

    -- k and l: the words of the scales
    module _ (floats : all_finite (float_words (header_floats f w target density)) ≡ true) (k l : ℕ) (ek : k ≡ float_word (scale_of target w.cauchy)) (el : l ≡ float_word (scale_of target w.elliptic)) where
      pub points_are : scaled_points k l (points_at out 64 w.count) ≡ written_points w target out
      unfolding written_points
      points_are = λ i. scaled_points (ek i) (el i) (points_at out 64 w.count)

      pub by_masses : all_fine f w target density out ≡ masses_finite (scaled_points k l (points_at out 64 w.count))
      unfolding all_fine
      by_masses = rw (scale, floats, points_are)

module _ (g : ℕ) (f : Frame) (w : Found) (target density : Float) (out : List ℕ) where
  -- 20, the output as long as it was
  pub way_20 : all_fine f w target density out ≡ false → (out₁ : List ℕ) → length out₁ ≡ length out → (a : Result ℕ Cause) (out₂ : List ℕ) → a ≡ Err FloatNotFinite → out₂ ≡ replicate (length out₁) 0
      → outcome (told a) out₂ ≡ finished g f w target density out
  unfolding finished cleared told number
  way_20 bad out₁ same a out₂ ea e₂ = rw (bad, ea, e₂, same)

  -- the header right before the records
  pub way_file : 64 + 16 * w.count ≤ length out → all_fine f w target density out ≡ true → (out₁ : List ℕ) → out₁ ≡ splice out 64 (points_bytes (written_points w target out))
      → (header : List ℕ) → header ≡ header_of g f w target density → (out₂ : List ℕ) → out₂ ≡ splice out₁ 0 (words_bytes header)
      → outcome (told (Ok (64 + 16 * w.count))) out₂ ≡ finished g f w target density out
  unfolding finished told size
  way_file room good out₁ e₁ header eh out₂ e₂ =
      let words = words_bytes (header_of g f w target density) in
      let records = points_bytes (written_points w target out) in
      let head = header_long g f w target density in
      let written = length_written w target out in
      let both : out₂ ≡ splice out 0 (words ++ records) =
      e₂ ∙ (λ i. splice (e₁ i) 0 (words_bytes (eh i)))
      ∙ sym (splice_comm out 0 64 words records (omega arith) (omega arith))
      ∙ splice_splice out 0 words records 64 (omega arith) (omega arith) in
      rw (good, both)
