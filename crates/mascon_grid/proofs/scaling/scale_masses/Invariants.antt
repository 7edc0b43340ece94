use mathlib.Core.Path.{◌≡◌}
use lib.ListN.{length}
use Rattle.mascon_grid.proofs.ScalingLoops.{Scaling}
use Rattle.mascon_grid.proofs.scaling.scale_masses.Given as goal

abbrev pub invariant-loop-i : goal.invariant-loop-i
invariant-loop-i l = (length l.out ≡ length l.initial.out) × Scaling l.initial.out l.out l.k l.l l.n l.i
