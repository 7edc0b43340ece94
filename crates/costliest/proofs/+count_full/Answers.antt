-- The cycle of calls {count_full}: the lower half lies in the grid and has fewer cells. Assumes nothing.
use Prim.Native.Nat.{ℕ, ◌<◌}
use mathlib.Core.Path.{subst}
use Rattle.rtm1.specs.Boxes.{cells}
use Rattle.costliest.proofs.Full.{parts}
use Rattle.costliest.proofs.+count_full.Goals as goal

pub count_full-left-requires : goal.count_full-left-requires
count_full-left-requires t c =
    let p = parts c.args.b _ _ _ _ c.requires c.cells_of.ensures c.kind_of.ensures c.in-Split.is c.halves.ensures.0 c.halves.ensures.1 in
    (subst (λ (v : ℕ). cells c.halves.result.low < v) c.decreases p.low_fewer, p.low_in)
