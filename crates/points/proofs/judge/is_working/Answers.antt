-- `points::judge::is_working` meets its contract: the form of all records is that of the records left, from `low` on. Assumes nothing.
use Prim.Native.Nat.{ℕ, ◌+◌, ◌*◌, ◌-◌}
use mathlib.Core.Path.{◌≡◌, sym, ap₂, ◌∙◌}
use native.Mathlib.Omega.{arith}
use Rattle.rym1.specs.File.{cell_of, points, points_at, working}
use Rattle.rym1.proofs.Cells.{cube_few}
use Rattle.points.proofs.Turns.{work_low, work_pad, work_go, work_end}
use Rattle.points.proofs.judge.is_working.Goals.{then-c-low-via-then-c-low, then-c-low-via-else-c-low+then-p-ne0}
use Rattle.points.proofs.judge.is_working.Goals as goal

pub returns-then-c-low : goal.returns-then-c-low
unfolding cell_of points
returns-then-c-low c =
    let cell = c.cell_number-c in
    let point = c.point-p in
    let i = c.loop-i.i in
    let file = c.args.file.bytes.now in
    let g = c.grid-g in
    let n = c.count-n in
    rw (← g.ensures.value, ← n.ensures)
    elim c.then-c-low.branch [
      | then-c-low-via-then-c-low w ↦
          work_low file g.result c.loop-i.low (64 + 16 * i) (n.result - i) cell.result point.result (omega arith) point.ensures.value cell.ensures.0 (omega arith)
          ∙ sym c.loop-i.invariant
      | then-c-low-via-else-c-low+then-p-ne0 w ↦
          work_pad file g.result c.loop-i.low (64 + 16 * i) (n.result - i) cell.result point.result (omega arith) point.ensures.value cell.ensures.0 (omega arith) w.if-p-ne0.true
          ∙ sym c.loop-i.invariant
    ]

pub overflow_add-low : goal.overflow_add-low
overflow_add-low c =
    omega (arith, c.cell_number-c.ensures.1, cube_few c.grid-g.result c.grid-g.ensures.few)

pub loop-i-preserved : goal.loop-i-preserved
unfolding cell_of
loop-i-preserved c =
    let cell = c.cell_number-c in
    let point = c.point-p in
    let i = c.loop-i.i in
    let args = c.args in
    let on : 64 + 16 * i + 16 ≡ 64 + 16 * (i + 1) = omega arith in
    let left : c.count-n.result - i - 1 ≡ c.count-n.result - (i + 1) = omega arith in
    c.loop-i.invariant
    ∙ work_go args.file.bytes.now c.grid-g.result c.loop-i.low (64 + 16 * i) (c.count-n.result - i) cell.result point.result (omega arith) point.ensures.value cell.ensures.0 (omega arith) c.if-p-ne0.false
    ∙ ap₂ (λ (a k : ℕ). working c.grid-g.result (cell.result + 1) (points_at args.file.bytes.now a k)) on left

pub returns : goal.returns
unfolding points
returns c =
    let i = c.loop-i.i in
    let g = c.grid-g in
    let n = c.count-n in
    rw (← g.ensures.value, ← n.ensures)
    (sym (c.loop-i.invariant ∙ work_end c.args.file.bytes.now g.result c.loop-i.low (64 + 16 * i) (n.result - i) (omega arith)))
