-- Worked examples of narrowing as one table, judged by one result that antt computes (`models`). A row has the lengths, a pattern, and the pattern that it narrows to.
-- And the standard's threshold at binary32, in units of 2 ^ -149, is 2 ^ 128 - 2 ^ 103. Assumes nothing.
use mathlib.Core.Path.{◌≡◌, refl}
use mathlib.Core.Bool.{Bool, true, ◌&&◌}
use mathlib.Core.List.{List, [], ◌∷◌}
use Prim.Native.Nat.{ℕ, ◌-◌, ◌*◌, ◌^◌}
use lib.Dec.{T, eqb}
use Rattle.float.specs.Rule.{threshold}
use Rattle.float.specs.Narrow.{narrow}

pub record Row : Type 0 where
  pub ew : ℕ
  pub fw : ℕ
  pub en : ℕ
  pub fn : ℕ
  pub wide : ℕ
  pub short : ℕ

-- binary64 to binary32, binary64 to binary16, binary32 to bfloat16
abbrev pub single : ℕ → ℕ → Row
single w n = record { ew = 11; fw = 52; en = 8; fn = 23; wide = w; short = n }

abbrev pub half : ℕ → ℕ → Row
half w n = record { ew = 11; fw = 52; en = 5; fn = 10; wide = w; short = n }

abbrev pub brain : ℕ → ℕ → Row
brain w n = record { ew = 8; fw = 23; en = 8; fn = 7; wide = w; short = n }

unfoldable pub table : List Row
table =
    -- 1 + 2^-24, 1 + 3 * 2^-24, 3 * 2^-150, 2^128 - 2^103
    single 0x3ff0_0000_1000_0000 0x3f80_0000
    ∷ single 0x3ff0_0000_3000_0000 0x3f80_0002
    ∷ single 0x36a8_0000_0000_0000 0x0000_0002
    ∷ single 0x47ef_ffff_f000_0000 0x7f80_0000
    -- the last below that, and its negative at it
    ∷ single 0x47ef_ffff_efff_ffff 0x7f7f_ffff
    ∷ single 0xc7ef_ffff_f000_0000 0xff80_0000
    -- 2^-150, a tie with 0, and the next value up
    ∷ single 0x3690_0000_0000_0000 0x0000_0000
    ∷ single 0x3690_0000_0000_0001 0x0000_0001
    -- a carry from the subnormals into the normals
    ∷ single 0x380f_ffff_f000_0000 0x0080_0000
    -- -0, the smallest binary64, an infinity, a NaN with a sign and a payload
    ∷ single 0x8000_0000_0000_0000 0x8000_0000
    ∷ single 0x0000_0000_0000_0001 0x0000_0000
    ∷ single 0x7ff0_0000_0000_0000 0x7f80_0000
    ∷ single 0xfff8_0000_0000_0001 0x7fc0_0000
    -- 65519.99.., 65520, 2^-25, 1.5 * 2^-25 to binary16
    ∷ half 0x40ef_fdff_ffff_ffff 0x7bff
    ∷ half 0x40ef_fe00_0000_0000 0x7c00
    ∷ half 0x3e60_0000_0000_0000 0x0000
    ∷ half 0x3e68_0000_0000_0000 0x0001
    -- ties, the largest binary32, a subnormal that stays one, to bfloat16
    ∷ brain 0x3f80_8000 0x3f80
    ∷ brain 0x3f81_8000 0x3f82
    ∷ brain 0x7f7f_ffff 0x7f80
    ∷ brain 0x0001_8000 0x0002
    ∷ []

abbrev pub all_right : List Row → Bool
unfolding narrow
all_right [] = true
all_right (r ∷ rs) = eqb (narrow r.ew r.fw r.en r.fn r.wide) r.short && all_right rs

pub models : T (all_right table)
unfolding table narrow
models = tt

pub threshold_32 : threshold 8 23 ≡ (2 ^ 128 - 2 ^ 103) * 2 ^ 149
threshold_32 = refl
