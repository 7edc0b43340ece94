-- What a tree comes to: a float that is too large, or the place behind it. Assumes nothing.
use Prim.Native.Nat.{ℕ, ◌+◌}
use mathlib.Core.Path.{◌≡◌, refl}
use mathlib.Core.Bool.{Bool, true, false, cond}
use native.Mathlib.Omega.{arith}
use lib.ListN.{length}
use Rattle.rtm1.specs.declared.Frame.{Frame}
use Rattle.rtm1.specs.Tree.{Tree, node_count, order, occupied}
use Rattle.rtm1.specs.Node.{nodes_floats, some_large}
use Rattle.mascon_tree.specs.declared.Next.{Next}
use Rattle.std.specs.Prelude.{None, Some}
use Rattle.mascon_tree.specs.Written.{judged_of}

-- of any test
pub fits_told : (large : Bool) (next l : Next) → cond large None (Some next) ≡ Some l → (large ≡ false) × (l ≡ next)
fits_told true next l e = absurd (let z : ◌≡◌ {A = ℕ} 0 1 = cc in omega arith)
fits_told false next l e = (refl, cc)

pub large_told : (large : Bool) (next : Next) → cond large None (Some next) ≡ None → large ≡ true
large_told true next e = refl
large_told false next e = absurd (let z : ◌≡◌ {A = ℕ} 0 1 = cc in omega arith)

module _ (r : Frame) (t : Tree) (n o : ℕ) where
  abbrev pub behind : Next
  behind = record { node = n + node_count t; order = o + length (order t); occupied = occupied t }

  pub fits_is : (l : Next) → judged_of r t n o ≡ Some l → (some_large (nodes_floats r t) ≡ false) × (l ≡ behind)
  unfolding judged_of
  fits_is l e = fits_told (some_large (nodes_floats r t)) behind l e

  pub large_is : judged_of r t n o ≡ None → some_large (nodes_floats r t) ≡ true
  unfolding judged_of
  large_is e = large_told (some_large (nodes_floats r t)) behind e
