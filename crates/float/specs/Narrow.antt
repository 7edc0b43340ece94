-- Narrowing of a bit pattern, for any lengths: from ew bits of exponent and fw of fraction to en and fn. Definitions only.
use Rattle.std.specs.Prelude.{ℕ, ◌+◌, ◌-◌, ◌*◌, ◌%◌, ◌^◌, min, ◌≡◌, Bool, true, false, not, cond, ◌&&◌, ◌||◌, List, [], ◌∷◌, Option, Some, None, eqb, leb, ltb, Float}
use Rattle.std.specs.Float.{nan, inf, fin, binary32, binary64}
use Rattle.std.specs.Float.Ieee.{up, down, round, of_bits, to_bits}
use Rattle.std.specs.Float.Ieee.Scale.{finite}
use Rattle.std.specs.Float.Ieee.Nearest.{closest}
use Rattle.float.specs.Layout.{bias, full, infinity, quiet, sign_field, exp_field, frac_field, digits_of}

-- The narrow magnitude bits for a finite wide pattern's exponent field x and fraction t. `-` stops at 0.
-- j counts the wide binades from the lowest, g of which lie below the narrow format's lowest. Of the digits fw - fn are dropped, and one more for each binade that the value lies under the narrow normals.
-- The rounded digits bring their leading one, or a carry, into the exponent's field by themselves. A sum that reaches the infinity's pattern is the infinity.
unfoldable pub narrow_finite : ℕ → ℕ → ℕ → ℕ → ℕ → ℕ → ℕ
narrow_finite ew fw en fn x t =
    let j = x - 1 in
    let g = bias ew - bias en in
    min ((j - g) * 2 ^ fn + closest (digits_of fw x t) (2 ^ (fw - fn + (g - j)))) (infinity en fn)

-- a NaN, of whatever sign and payload, gives the one quiet pattern
unfoldable pub narrow : ℕ → ℕ → ℕ → ℕ → ℕ → ℕ
unfolding narrow_finite
narrow ew fw en fn b =
    let s = sign_field ew fw b * 2 ^ (en + fn) in
    let x = exp_field ew fw b in
    let t = frac_field fw b in
    cond (eqb x (full ew)) (cond (eqb t 0) (s + infinity en fn) (quiet en fn)) (s + narrow_finite ew fw en fn x t)

-- from binary64 to binary32
abbrev pub narrow64 : ℕ → ℕ
narrow64 b = narrow 11 52 8 23 b

-- The same on values, in the kit's account of IEEE 754: the binary32 value nearest to x, which `round` alone works out.
unfoldable pub narrowed : Float → Float
unfolding round
narrowed nan = nan
narrowed (inf s) = inf s
narrowed (fin s m e) = round binary32 s (m * up e) (down e)

-- ---- the answer: a finite float, or too large

-- For any lengths: an infinity, a NaN, or what rounds to an infinity. Float's Large says from which magnitude on.
unfoldable pub too_large : ℕ → ℕ → ℕ → ℕ → ℕ → Bool
too_large ew fw en fn b = leb (infinity en fn) (narrow ew fw en fn b % 2 ^ (en + fn))

unfoldable pub narrowing : Float → Option Float
narrowing x = cond (finite (narrowed x)) (Some (narrowed x)) None

unfoldable pub is_large : Option Float → Bool
is_large (Some v) = false
is_large None = true

-- as one number: the pattern of a finite float, 2^32 for too large
unfoldable pub narrow_number : Option Float → ℕ
narrow_number (Some v) = to_bits binary32 v
narrow_number None = 4294967296

-- ---- as they are written

-- the binary32 pattern of a number. What is too large has an infinity's or the quiet NaN's, and is refused before it is written: 20, 22.
unfoldable pub float_word : Float → ℕ
float_word x = narrow64 (to_bits binary64 x)

unfoldable pub float_words : List Float → List ℕ
float_words [] = []
float_words (x ∷ xs) = float_word x ∷ float_words xs

-- one of them is too large
unfoldable pub any_large : List Float → Bool
any_large [] = false
any_large (x ∷ xs) = is_large (narrowing x) || any_large xs

-- what the code's answer r says of x: it is narrowing's; a finite one is the float of the word that is written, and that word is the pattern of a finite
-- float exactly then
pub record Told (x : Float) (r : Option Float) : Type 0 where
  pub is : r ≡ narrowing x
  pub written : (v : Float) → r ≡ Some v → to_bits binary32 v ≡ float_word x
  pub value : (v : Float) → r ≡ Some v → of_bits binary32 (float_word x) ≡ v
  pub tells : (ltb (float_word x) 4294967296 && finite (of_bits binary32 (float_word x))) ≡ not (is_large r)
