-- `lookup::enter_points` meets its contract: what is entered, under what is still to come, is the file's lookup. Assumes nothing.
use mathlib.Core.Path.{refl}
use native.Mathlib.Omega.{arith}
use lib.ListN.{length-set}
use Rattle.rym1.specs.File.{grid, count}
use Rattle.lookup.proofs.Words.{enter_start, enter_turn, enter_end}
use Rattle.lookup.proofs.enter_points.Goals as goal

pub loop-i-init : goal.loop-i-init
loop-i-init c = (refl, enter_start _ _ _ _ refl refl c.requires.cleared.0 c.requires.cleared.1)

pub loop-i-preserved : goal.loop-i-preserved
loop-i-preserved c =
    let loop = c.loop-i in
    let f = c.args.file.bytes.now in (
      simp length-set loop.invariant.0,
      enter_turn loop.words f (grid f) loop.i (count f) c.cell.result (omega (arith, c.count-i-end.ensures)) c.cell.ensures.value c.cell.ensures.within loop.invariant.1,
    )

pub returns : goal.returns
returns c =
    let loop = c.loop-i in
    let f = c.args.file.bytes.now in
    (enter_end _ _ (grid f) loop.i (count f) refl (omega (arith, c.count-i-end.ensures)) loop.invariant.1, loop.invariant.0)
