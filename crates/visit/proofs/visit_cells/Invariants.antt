use mathlib.Core.Path.{◌≡◌}
use lib.ListN.{length}
use Rattle.filling.specs.Lists.{mesh, kernels}
use Rattle.visit.proofs.Visiting.{Visited-so-far}
use Rattle.visit.proofs.visit_cells.Given as goal

abbrev pub invariant-loop-c : goal.invariant-loop-c
invariant-loop-c l =
    let t = l.grid in
    (length l.floats ≡ length l.initial.floats) × Visited-so-far (mesh t.mesh.bytes.now) t.f t.g (kernels t.cauchy.now) (kernels t.elliptic.now) l.initial.out l.c l.w l.out
