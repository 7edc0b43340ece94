-- `mascon_grid::scaling::scale_masses` meets its contract: the records that are left decide, and once scaled make the whole of it. Assumes nothing.
use mathlib.Core.Path.{sym, ap, ◌∙◌}
use mathlib.Core.Bool.{true≢false}
use native.Mathlib.Omega.{arith}
use Rattle.mascon_grid.specs.Scaled.{scaled_point}
use Rattle.mascon_grid.proofs.ScalingLoops.{scaling_stop, scaling_turn, scaling_end}
use Rattle.mascon_grid.proofs.scaling.scale_masses.Goals as goal

pub returns-then-not-are_fine : goal.returns-then-not-are_fine
returns-then-not-are_fine c =
    let a = c.args in
    let loop = c.loop-i in
    let p = c.scaled_point-p in
    let bad = sym c.are_fine.ensures ∙ c.if-not-are_fine.true in
    (scaling_stop a.out.now loop.out a.k a.l a.n loop.i p.result (omega arith) (p.ensures ∙ ap (scaled_point a.k a.l) c.point_at.ensures) loop.invariant.1 bad, λ e. absurd (true≢false (sym e)))

pub loop-i-preserved : goal.loop-i-preserved
loop-i-preserved c =
    let a = c.args in
    let loop = c.loop-i in
    let p = c.scaled_point-p in
    let wrote = c.out_point in
    let good = sym c.are_fine.ensures ∙ c.if-not-are_fine.false in (
      wrote.auto.file ∙ loop.invariant.0,
      scaling_turn a.out.now loop.out a.k a.l a.n loop.i p.result (omega arith) (p.ensures ∙ ap (scaled_point a.k a.l) c.point_at.ensures) loop.invariant.1 (omega arith) good wrote.new.file wrote.ensures,
    )

pub returns : goal.returns
returns c =
    let a = c.args in
    let loop = c.loop-i in
    let end = scaling_end a.out.now loop.out a.k a.l a.n loop.i (omega arith) loop.invariant.1 in
    (end.0, λ e. end.1)
