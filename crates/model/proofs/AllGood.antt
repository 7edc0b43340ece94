-- Laws of lists of entries. Assumes nothing.
use Prim.Native.Nat.{ℕ, zero, suc, ◌+◌, ◌-◌, ◌*◌, ◌<◌}
use mathlib.Core.Path.{◌≡◌, refl, ap, ◌∙◌}
use mathlib.Core.Bool.{Bool, ◌&&◌}
use mathlib.Core.List.{List}
use native.Mathlib.Omega.{arith}
use Rattle.filling.specs.Lists.{triangle, triangles_at, good_triangle, good_triangles}
use Rattle.model.specs.Entries.{all_good}

-- from entry i on, of n
pub all_more : (size : ℕ) (good : ℕ → Bool) (i n : ℕ) → i < n
    → all_good size good (size * i) (n - i) ≡ (good (size * i) && all_good size good (size * (i + 1)) (n - (i + 1)))
unfolding all_good
all_more size good i n h =
    let left : n - i ≡ suc (n - (i + 1)) = omega arith in
    let next : size * i + size ≡ size * (i + 1) = grind arith in
    ap (all_good size good (size * i)) left ∙ ap (λ (at : ℕ). good (size * i) && all_good size good at (n - (i + 1))) next

-- the triangles of a mesh
pub triangles_good : (s : List ℕ) (at n : ℕ) → good_triangles (triangles_at s at n) ≡ all_good 72 (λ k. good_triangle (triangle s k)) at n
unfolding good_triangles triangles_at all_good
triangles_good s at zero = refl
triangles_good s at (suc n) = rw (triangles_good s (at + 72) n)
