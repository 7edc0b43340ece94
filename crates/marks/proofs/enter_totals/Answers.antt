-- `marks::enter_totals` meets its contract: the total before a word is how many lower cells are occupied. Assumes nothing.
use Prim.Native.Nat.{ℕ, ◌*◌, ◌/◌}
use mathlib.Core.Path.{◌≡◌, refl, ap, ◌∙◌}
use mathlib.Core.List.{List}
use native.Mathlib.Omega.{arith}
use lib.ListN.{length-set}
use Rattle.rym1.specs.File.{grid, cube, groups}
use Rattle.marks.proofs.Entered.{total_start, groups_few, total_fits, total_turn}
use Rattle.marks.proofs.enter_totals.Goals as goal

pairs : {n g : ℕ} (f : List ℕ) → n ≡ 2 * groups (cube g) → g ≡ grid f → n / 2 ≡ groups (cube (grid f))
pairs {n} {g} f e same = let all : n ≡ 2 * groups (cube (grid f)) = e ∙ ap (λ k. 2 * groups (cube k)) same in omega arith

pub loop-i-init : goal.loop-i-init
loop-i-init c = (refl, total_start _ _ c.requires)

pub overflow_add-total : goal.overflow_add-total
overflow_add-total c =
    let loop = c.loop-i in
    record { fits = total_fits loop.words _ loop.total loop.i (omega (arith, pairs c.args.file.bytes.now c.room-i-end.ensures.0 c.grid.ensures.value)) loop.invariant.1 (groups_few _ c.args.file.accepted) }

pub loop-i-preserved : goal.loop-i-preserved
loop-i-preserved c =
    let loop = c.loop-i in
    (simp length-set loop.invariant.0, total_turn loop.words _ loop.total loop.i (omega (arith, pairs c.args.file.bytes.now c.room-i-end.ensures.0 c.grid.ensures.value)) loop.invariant.1)
