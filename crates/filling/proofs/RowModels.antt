-- Small lists, computed. Assumes nothing.
use Prim.Native.Nat.{ℕ, ◌/◌}
use mathlib.Core.Bool.{Bool, true, false, ◌&&◌}
use mathlib.Core.List.{List, [], ◌∷◌}
use lib.Dec.{T, eqb}
use lib.ListN.{length}
use lib.Ieee.{Float, binary64, of_bits, of_int, lt, le, neg, add, sub, mul, div}
use Rattle.float.specs.Axis.{greatest}
use Rattle.float.specs.Number.{abs, scalar_min, scalar_max}
use Rattle.rym1.specs.Bytes.{word}
use Rattle.filling.specs.Lists.{float, vec3, triangle, triangles_at, mesh}
use Rattle.filling.specs.Inside.{with_point, with_triangle, bounds_from, bounds, margin, padded, test_box, scaled, indices, low_of, high_of}
use Rattle.filling.specs.Rows.{one, list_of, spans, pair_of, triangle_of, meets, row_list, row_pair}

unfoldable pub same : List ℕ → List ℕ → Bool
same [] [] = true
same [] (y ∷ ys) = false
same (x ∷ xs) [] = false
same (x ∷ xs) (y ∷ ys) = eqb x y && same xs ys

-- corners (1, −1, −1), (1, 1, −1), (1, 0, 1)
abbrev single : List ℕ
single = 0 ∷ 0 ∷ 0 ∷ 0 ∷ 0 ∷ 0 ∷ 240 ∷ 63 ∷ 0 ∷ 0 ∷ 0 ∷ 0 ∷ 0 ∷ 0 ∷ 240 ∷ 191 ∷ 0 ∷ 0 ∷ 0 ∷ 0 ∷ 0 ∷ 0 ∷ 240 ∷ 191 ∷ 0 ∷ 0 ∷ 0 ∷ 0 ∷ 0 ∷ 0 ∷ 240 ∷ 63 ∷ 0 ∷ 0 ∷ 0 ∷ 0 ∷ 0 ∷ 0 ∷ 240 ∷ 63 ∷ 0 ∷ 0 ∷ 0 ∷ 0 ∷ 0 ∷ 0 ∷ 240 ∷ 191 ∷ 0 ∷ 0 ∷ 0 ∷ 0 ∷ 0 ∷ 0 ∷ 240 ∷ 63 ∷ 0 ∷ 0 ∷ 0 ∷ 0 ∷ 0 ∷ 0 ∷ 0 ∷ 0 ∷ 0 ∷ 0 ∷ 0 ∷ 0 ∷ 0 ∷ 0 ∷ 240 ∷ 63 ∷ []

-- corners (1, 0, 0), (1, 1, 0), (1, 0, 1), and the same five further along y
abbrev apart : List ℕ
apart = 0 ∷ 0 ∷ 0 ∷ 0 ∷ 0 ∷ 0 ∷ 240 ∷ 63 ∷ 0 ∷ 0 ∷ 0 ∷ 0 ∷ 0 ∷ 0 ∷ 0 ∷ 0 ∷ 0 ∷ 0 ∷ 0 ∷ 0 ∷ 0 ∷ 0 ∷ 0 ∷ 0 ∷ 0 ∷ 0 ∷ 0 ∷ 0 ∷ 0 ∷ 0 ∷ 240 ∷ 63 ∷ 0 ∷ 0 ∷ 0 ∷ 0 ∷ 0 ∷ 0 ∷ 240 ∷ 63 ∷ 0 ∷ 0 ∷ 0 ∷ 0 ∷ 0 ∷ 0 ∷ 0 ∷ 0 ∷ 0 ∷ 0 ∷ 0 ∷ 0 ∷ 0 ∷ 0 ∷ 240 ∷ 63 ∷ 0 ∷ 0 ∷ 0 ∷ 0 ∷ 0 ∷ 0 ∷ 0 ∷ 0 ∷ 0 ∷ 0 ∷ 0 ∷ 0 ∷ 0 ∷ 0 ∷ 240 ∷ 63 ∷ 0 ∷ 0 ∷ 0 ∷ 0 ∷ 0 ∷ 0 ∷ 240 ∷ 63 ∷ 0 ∷ 0 ∷ 0 ∷ 0 ∷ 0 ∷ 0 ∷ 20 ∷ 64 ∷ 0 ∷ 0 ∷ 0 ∷ 0 ∷ 0 ∷ 0 ∷ 0 ∷ 0 ∷ 0 ∷ 0 ∷ 0 ∷ 0 ∷ 0 ∷ 0 ∷ 240 ∷ 63 ∷ 0 ∷ 0 ∷ 0 ∷ 0 ∷ 0 ∷ 0 ∷ 24 ∷ 64 ∷ 0 ∷ 0 ∷ 0 ∷ 0 ∷ 0 ∷ 0 ∷ 0 ∷ 0 ∷ 0 ∷ 0 ∷ 0 ∷ 0 ∷ 0 ∷ 0 ∷ 240 ∷ 63 ∷ 0 ∷ 0 ∷ 0 ∷ 0 ∷ 0 ∷ 0 ∷ 20 ∷ 64 ∷ 0 ∷ 0 ∷ 0 ∷ 0 ∷ 0 ∷ 0 ∷ 240 ∷ 63 ∷ []

abbrev at : ℕ → Float
at p = of_bits binary64 p

abbrev listed_as : List ℕ → Float → Float → ℕ → List ℕ → Bool
listed_as s y z p l = let b = test_box (mesh s) in eqb (row_pair b y z) p && same (row_list s b (length s / 72) p) l

pub lists_computed : T (listed_as single (at 0) (at 0) 4656 (0 ∷ [])
    && (listed_as apart (at 0x3fd0000000000000) (at 0x3fd0000000000000) 2308 (0 ∷ [])
    && (listed_as apart (at 0x4008000000000000) (at 0x3fe0000000000000) 4656 []
    && listed_as apart (at 0x4015000000000000) (at 0x3fd0000000000000) 2387 (1 ∷ []))))
unfolding same greatest abs scalar_min scalar_max word float vec3 triangle triangles_at mesh with_point with_triangle bounds_from bounds margin padded scaled indices one list_of low_of high_of spans pair_of triangle_of meets row_list row_pair of_bits of_int lt le neg add sub mul div
lists_computed = tt
