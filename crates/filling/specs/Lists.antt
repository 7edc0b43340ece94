-- The lists that a filling is lent, as little-endian bytes, and when they are within 01's bounds. Definitions only.
use Rattle.std.specs.Prelude.{ℕ, zero, suc, ◌+◌, ◌*◌, ◌/◌, ◌%◌, Bool, true, not, ◌&&◌, ◌||◌, List, [], ◌∷◌, length, eqb, ltb, Float}
use Rattle.std.specs.Float.{binary64}
use Rattle.std.specs.Float.Ieee.{of_bits, le}
use Rattle.float.specs.Number.{zero64, abs}
use Rattle.rym1.specs.Bytes.{word64}
use Rattle.filling.specs.declared.Vec3.{Vec3}
use Rattle.filling.specs.declared.Triangle.{Triangle}
use Rattle.filling.specs.declared.Kernel.{Kernel}
use Rattle.filling.specs.Vector.{vec}

-- ---- entries

-- the number at byte `at`; each NaN's pattern gives the NaN
unfoldable pub float : List ℕ → ℕ → Float
float s at = of_bits binary64 (word64 s at)

unfoldable pub vec3 : List ℕ → ℕ → Vec3
vec3 s at = vec (float s at) (float s (at + 8)) (float s (at + 16))

-- 9 numbers a triangle: a, b, c
unfoldable pub triangle : List ℕ → ℕ → Triangle
triangle s at = record { a = vec3 s at; b = vec3 s (at + 24); c = vec3 s (at + 48) }

-- 5 numbers a kernel: centre, sigma, w
unfoldable pub kernel : List ℕ → ℕ → Kernel
kernel s at = record { c = vec3 s at; sigma = float s (at + 24); w = float s (at + 32) }

-- n of them on end, and a whole list
unfoldable pub triangles_at : List ℕ → ℕ → ℕ → List Triangle
triangles_at s at zero = []
triangles_at s at (suc n) = triangle s at ∷ triangles_at s (at + 72) n

unfoldable pub mesh : List ℕ → List Triangle
mesh s = triangles_at s 0 (length s / 72)

unfoldable pub kernels_at : List ℕ → ℕ → ℕ → List Kernel
kernels_at s at zero = []
kernels_at s at (suc n) = kernel s at ∷ kernels_at s (at + 40) n

unfoldable pub kernels : List ℕ → List Kernel
kernels s = kernels_at s 0 (length s / 40)

-- ---- bounds

-- 1e6, 4e6, 1e30
abbrev pub coordinate_limit : Float
coordinate_limit = of_bits binary64 0x412e_8480_0000_0000

abbrev pub point_limit : Float
point_limit = of_bits binary64 0x414e_8480_0000_0000

abbrev pub mass_limit : Float
mass_limit = of_bits binary64 0x4629_3e59_39a0_8cea

-- a magnitude up to the limit: no NaN's, no infinity's
unfoldable pub up_to : Float → Float → Bool
up_to limit x = le (abs x) limit

unfoldable pub vector_up_to : Float → Vec3 → Bool
vector_up_to limit p = up_to limit p.x && (up_to limit p.y && up_to limit p.z)

unfoldable pub good_triangle : Triangle → Bool
good_triangle t = vector_up_to coordinate_limit t.a && (vector_up_to coordinate_limit t.b && vector_up_to coordinate_limit t.c)

-- 0 ≤ sigma ≤ 1e6
unfoldable pub good_kernel : Kernel → Bool
good_kernel k =
    vector_up_to coordinate_limit k.c
    && ((le zero64 k.sigma && le k.sigma coordinate_limit)
    && up_to mass_limit k.w)

unfoldable pub good_triangles : List Triangle → Bool
good_triangles [] = true
good_triangles (t ∷ ts) = good_triangle t && good_triangles ts

unfoldable pub good_kernels : List Kernel → Bool
good_kernels [] = true
good_kernels (k ∷ ks) = good_kernel k && good_kernels ks

-- ---- 17: a list that ends inside an entry, or its length or a number outside its bounds

-- 1 to 2^20 triangles
unfoldable pub mesh_wrong : List ℕ → Bool
mesh_wrong s = not (eqb (length s % 72) 0) || (eqb (length s) 0 || (ltb (72 * 1048576) (length s) || not (good_triangles (mesh s))))

-- 0 to 4,096 kernels
unfoldable pub kernels_wrong : List ℕ → Bool
kernels_wrong s = not (eqb (length s % 40) 0) || (ltb (40 * 4096) (length s) || not (good_kernels (kernels s)))
