-- Constants of binary64; the magnitude of a number, the lesser and the greater of two, and a whole number as a binary64. Definitions only.
use Rattle.std.specs.Prelude.{ℕ, cond, pos, Float}
use Rattle.std.specs.Float.{binary64}
use Rattle.std.specs.Float.Ieee.{neg, lt, of_bits, of_int}

-- 0, 1, 0.5, 1e-30
abbrev pub zero64 : Float
zero64 = of_bits binary64 0

abbrev pub one64 : Float
one64 = of_bits binary64 0x3ff0_0000_0000_0000

abbrev pub half : Float
half = of_bits binary64 0x3fe0_0000_0000_0000

abbrev pub tiny : Float
tiny = of_bits binary64 0x39b4_484b_feeb_c2a0

unfoldable pub abs : Float → Float
abs x = cond (lt x zero64) (neg x) x

unfoldable pub scalar_min : Float → Float → Float
scalar_min a b = cond (lt b a) b a

unfoldable pub scalar_max : Float → Float → Float
scalar_max a b = cond (lt a b) b a

abbrev pub num : ℕ → Float
num n = of_int binary64 (pos n)
