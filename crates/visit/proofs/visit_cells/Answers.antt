-- `visit::visit_cells` meets its contract: the finds and the records are those of the cells passed. A turn is one law (`visit_past`, `visit_added`).
-- Assumes nothing.
use Prim.Native.Nat.{◌≤◌, ◌<◌}
use mathlib.Core.Path.{◌≡◌, ◌∙◌}
use mathlib.Core.Bool.{true, false}
use native.Mathlib.Omega.{arith}
use Rattle.filling.specs.Lists.{mesh, kernels}
use Rattle.filling.specs.Inside.{test_box, is_inside}
use Rattle.filling.specs.Frame as def
use Rattle.filling.specs.Fill.{capacity}
use Rattle.visit.proofs.Visiting.{visit_past, visit_room, visit_added, visit_end, visit_full, capacity_few}
use Rattle.visit.proofs.visit_cells.Goals as goal

pub loop-c-preserved-then-not-is_inside : goal.loop-c-preserved-then-not-is_inside
loop-c-preserved-then-not-is_inside c =
    let t = c.args.grid.now in
    let m = mesh t.mesh.bytes.now in
    let outside : is_inside (test_box m) m (def.middle t.f t.g c.loop-c.c) ≡ false =
    rw (← t.box_is, ← c.middle-p.ensures, ← c.is_inside.ensures) c.if-not-is_inside.true in (
      c.is_inside.auto.floats ∙ c.loop-c.invariant.0,
      visit_past m t.f t.g (kernels t.cauchy.now) (kernels t.elliptic.now) c.args.out.now c.loop-c.c c.loop-c.w c.loop-c.out
          (omega arith) outside c.loop-c.invariant.1,
    )

pub returns-then-capacity-w : goal.returns-then-capacity-w
returns-then-capacity-w c =
    let t = c.args.grid.now in
    let m = mesh t.mesh.bytes.now in
    let inside : is_inside (test_box m) m (def.middle t.f t.g c.loop-c.c) ≡ true =
    rw (← t.box_is, ← c.middle-p.ensures, ← c.is_inside.ensures) c.if-not-is_inside.false in
    let full : capacity t.g ≤ c.loop-c.w.count = omega (arith, c.if-capacity-w.true, c.capacity_of-capacity.ensures) in
    visit_full m t.f t.g (kernels t.cauchy.now) (kernels t.elliptic.now) c.args.out.now c.loop-c.c c.loop-c.w c.loop-c.out _
    (omega arith) inside full c.loop-c.invariant.1

pub add_cell-w-requires : goal.add_cell-w-requires
add_cell-w-requires c =
    let t = c.args.grid.now in
    let low : c.loop-c.w.count < capacity t.g = omega (arith, c.if-capacity-w.false, c.capacity_of-capacity.ensures) in
    let room = visit_room _ _ _ _ _ _ c.loop-c.c c.loop-c.w c.loop-c.out c.requires.room low c.loop-c.invariant.1 in
    record { room = (omega (arith, low, capacity_few t.g t.few), room); middle = c.middle-p.ensures }

pub loop-c-preserved : goal.loop-c-preserved
loop-c-preserved c =
    let t = c.args.grid.now in
    let m = mesh t.mesh.bytes.now in
    let inside : is_inside (test_box m) m (def.middle t.f t.g c.loop-c.c) ≡ true =
    rw (← t.box_is, ← c.middle-p.ensures, ← c.is_inside.ensures) c.if-not-is_inside.false in
    let low : c.loop-c.w.count < capacity t.g = omega (arith, c.if-capacity-w.false, c.capacity_of-capacity.ensures) in (
      c.is_inside.auto.floats ∙ c.loop-c.invariant.0,
      visit_added m t.f t.g (kernels t.cauchy.now) (kernels t.elliptic.now) c.args.out.now c.loop-c.c c.loop-c.w _ c.loop-c.out _
          (omega arith) inside c.requires.room low c.add_cell-w.ensures.value c.add_cell-w.ensures.out_after c.add_cell-w.auto.out c.loop-c.invariant.1,
    )

pub returns : goal.returns
returns c =
    visit_end _ _ _ _ _ _ c.loop-c.c c.loop-c.w _ (omega arith) c.loop-c.invariant.1
