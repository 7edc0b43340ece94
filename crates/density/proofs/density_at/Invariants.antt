use Prim.Native.Nat.{◌*◌, ◌/◌, ◌-◌}
use mathlib.Core.Path.{◌≡◌}
use lib.ListN.{length}
use Rattle.filling.specs.Lists.{kernels_at, kernels}
use Rattle.filling.specs.Density.{density_from, density_at}
use Rattle.density.proofs.density_at.Given as goal

abbrev pub invariant-loop-i : goal.invariant-loop-i
invariant-loop-i l = density_from l.density (kernels_at l.s (40 * l.i) (length l.s / 40 - l.i)) l.p ≡ density_at (kernels l.s) l.p
