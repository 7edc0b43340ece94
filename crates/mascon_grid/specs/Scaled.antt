-- Records with their masses scaled, and what is written last. Definitions only.
use Rattle.std.specs.Prelude.{ℕ, Bool, cond, ◌&&◌, List, [], ◌∷◌, ◌++◌, get_or, Float}
use Rattle.float.specs.Narrow.{float_word, float_words}
use Rattle.rym1.specs.declared.Point.{Point}
use Rattle.rym1.specs.Bytes.{words_bytes, splice}
use Rattle.rym1.specs.Causes.{Outcome, outcome}
use Rattle.rym1.specs.File.{finite, all_finite, size, points_at, points_bytes}
use Rattle.filling.specs.declared.Frame.{Frame}
use Rattle.filling.specs.Fill.{product, scale_of, masses_finite, cleared}
use Rattle.visit.specs.declared.Found.{Found}

-- both masses times a scale, as patterns
unfoldable pub scaled_point : ℕ → ℕ → Point → Point
scaled_point k l p = record { x = p.x; y = p.y; z = p.z; pad = p.pad; cauchy = product p.cauchy k; elliptic = product p.elliptic l }

unfoldable pub scaled_points : ℕ → ℕ → List Point → List Point
scaled_points k l [] = []
scaled_points k l (p ∷ ps) = scaled_point k l p ∷ scaled_points k l ps

-- the floats of the header of a visit's finds, and the header around their words
unfoldable pub header_floats : Frame → Found → Float → Float → List Float
header_floats f w target density =
    density
    ∷ f.volume
    ∷ scale_of target w.cauchy
    ∷ f.min.x
    ∷ f.min.y
    ∷ f.min.z
    ∷ f.max.x
    ∷ f.max.y
    ∷ f.max.z
    ∷ w.cauchy
    ∷ w.elliptic
    ∷ []

unfoldable pub header_around : ℕ → ℕ → List ℕ → List ℕ
header_around g count w =
    0x314d5952 ∷ 1 ∷ g ∷ count ∷ get_or w 0 0 ∷ get_or w 1 0 ∷ get_or w 2 0 ∷ 0
    ∷ get_or w 3 0 ∷ get_or w 4 0 ∷ get_or w 5 0 ∷ get_or w 6 0 ∷ get_or w 7 0 ∷ get_or w 8 0 ∷ get_or w 9 0 ∷ get_or w 10 0 ∷ []

unfoldable pub header_of : ℕ → Frame → Found → Float → Float → List ℕ
header_of g f w target density = header_around g w.count (float_words (header_floats f w target density))

-- the finds' records, scaled
unfoldable pub written_points : Found → Float → List ℕ → List Point
written_points w target out =
    scaled_points (float_word (scale_of target w.cauchy)) (float_word (scale_of target w.elliptic)) (points_at out 64 w.count)

-- the elliptic scale, the header's floats, the Cauchy scale among them, and the scaled masses are finite
unfoldable pub all_fine : Frame → Found → Float → Float → List ℕ → Bool
all_fine f w target density out =
    finite (float_word (scale_of target w.elliptic))
    && (all_finite (float_words (header_floats f w target density))
    && masses_finite (written_points w target out))

-- what is left to do once the finds' records stand in the output from 64 on: 20, or the file
unfoldable pub finished : ℕ → Frame → Found → Float → Float → List ℕ → Outcome (List ℕ)
finished g f w target density out =
    cond (all_fine f w target density out)
    (outcome (size w.count) (splice out 0 (words_bytes (header_of g f w target density) ++ points_bytes (written_points w target out))))
    (cleared 20 out)
