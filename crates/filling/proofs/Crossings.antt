-- The crossings of a ray are above 0, so sorted they ascend. Assumes nothing.
use Rattle.filling.specs.declared.Crossing.{Crossing}
use Rattle.filling.specs.declared.Crossing.TheVariants.{At, Miss}
use Prim.Native.Nat.{◌*◌, ◌<◌}
use mathlib.Core.Path.{◌≡◌, refl, ap, ◌∙◌}
use mathlib.Core.Logic.{∥∥₁_elim}
use mathlib.Core.Bool.{Bool, true, false, cond, not, ◌&&◌, ◌||◌, Bool-set}
use mathlib.Core.List.{List, [], ◌∷◌, ◌++◌, Memᴰ, not-mem-nil, Pairwise}
use native.Mathlib.Nat.{zero-mul, mul-pos}
use native.Mathlib.Omega.{arith}
use lib.Ieee.{Float, nan, inf, fin, of_bits, up, down, lt, le}
use lib.Ieee.Positive.{first_pos}
use lib.Ieee.Fits.{up_pos}
use borrow.Author.Tests.{ltb-true, lt-ltb, not-false}
use Rattle.float.specs.Number.{zero64, one64, abs}
use Rattle.filling.specs.declared.Vec3.{Vec3}
use Rattle.filling.specs.declared.Triangle.{Triangle}
use Rattle.filling.specs.declared.Bounds.{Bounds}
use Rattle.filling.specs.declared.Indices.{Indices}
use Rattle.filling.specs.Vector.{plus}
use Rattle.filling.specs.Ray.{eps, misses, ray}
use Rattle.filling.specs.Inside.{candidate, crossing, listed, crossings, sorted}
use Rattle.filling.proofs.Sorted.{differ, over_zero, Above, AtMost, sorted_ascends}

-- above 1e-12 is above 0
above_eps : (x : Float) → lt eps x ≡ true → lt zero64 x ≡ true
unfolding lt of_bits
above_eps nan e = differ refl e
above_eps (inf true) e = differ refl e
above_eps (inf false) e = refl
above_eps (fin true n d) e = differ refl e
above_eps (fin false n d) e =
    let some : 0 < n = first_pos n (up d) (first_pos (n * up d) _ (over_zero _ _ (ltb-true _ _ e))) in
    let high : 0 < n * up d = mul-pos some (up_pos d) in
    lt-ltb (0 * down d) (n * up d * 1) (omega (arith, zero-mul (down d)))

-- what is listed is above 0
unfoldable listed_above : (c : Crossing) → Type 0
listed_above Miss = Unit {0}
listed_above (At t) = lt zero64 t ≡ true

of_tests : (a b c d e : Bool) (t : Float) → (e ≡ false → lt zero64 t ≡ true) → listed_above (cond (a || (b || (c || (d || e)))) Miss (At t))
unfolding listed_above
of_tests true b c d e t f = tt
of_tests false true c d e t f = tt
of_tests false false true d e t f = tt
of_tests false false false true e t f = tt
of_tests false false false false true t f = tt
of_tests false false false false false t f = f refl

of_misses : (determinant u v distance : Float) → listed_above (cond (misses determinant u v distance) Miss (At distance))
unfolding misses
of_misses determinant u v distance =
    of_tests (lt (abs determinant) eps) (not (le zero64 u && le u one64)) (lt v zero64) (lt one64 (plus u v)) (not (lt eps distance)) distance
    (λ h. above_eps distance (not-false (lt eps distance) h))

ray_above : (o : Vec3) (t : Triangle) → listed_above (ray o t)
unfolding ray
ray_above o t = of_misses _ _ _ _

crossing_above : (b : Bounds) (at : Indices) (o : Vec3) (t : Triangle) → listed_above (crossing b at o t)
unfolding crossing listed_above
crossing_above b at o t = of_candidate (candidate b at t) (ray o t) (ray_above o t)
  where
    of_candidate : (p : Bool) (c : Crossing) → listed_above c → listed_above (cond p c Miss)
    of_candidate true c h = h
    of_candidate false c h = tt

listed_rest : (c : Crossing) (rest : List Float) → listed_above c → Above rest → Above (listed c ++ rest)
unfolding listed_above
listed_rest Miss rest h p = p
listed_rest (At t) rest h p = λ x m. ∥∥₁_elim m (Bool-set (lt zero64 x) true) (each x)
  where
    each : (x : Float) → Memᴰ x (t ∷ rest) → lt zero64 x ≡ true
    each x (Memᴰ.head e) = ap (lt zero64) e ∙ h
    each x (Memᴰ.tail d) = p x ∣ d ∣₁

none_above : Above []
none_above x m = absurd (not-mem-nil m)

pub crossings_above : (b : Bounds) (at : Indices) (o : Vec3) (ts : List Triangle) → Above (crossings b at o ts)
unfolding crossings
crossings_above b at o [] = none_above
crossings_above b at o (t ∷ ts) = listed_rest (crossing b at o t) (crossings b at o ts) (crossing_above b at o t) (crossings_above b at o ts)

-- each of the sorted crossings is at most every later one
pub hits_ascend : (b : Bounds) (at : Indices) (o : Vec3) (ts : List Triangle) → Pairwise AtMost (sorted (crossings b at o ts))
hits_ascend b at o ts = sorted_ascends (crossings b at o ts) (crossings_above b at o ts)
