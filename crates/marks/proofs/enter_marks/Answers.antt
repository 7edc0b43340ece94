-- `marks::enter_marks` meets its contract: what is entered, with what is still to come, is the file's marks. Assumes nothing.
use mathlib.Core.Path.{refl}
use native.Mathlib.Omega.{arith}
use lib.ListN.{length-set}
use Rattle.rym1.specs.File.{grid, count}
use Rattle.marks.proofs.Entered.{enter_start, word_there, mark_fits, enter_turn, enter_end}
use Rattle.marks.proofs.enter_marks.Goals as goal

pub loop-i-init : goal.loop-i-init
loop-i-init c = (refl, enter_start _ _ _ _ c.args.file.works refl refl c.requires.cleared.0 c.requires.cleared.1)

pub bounds-words-c : goal.bounds-words-c
bounds-words-c c =
    let loop = c.loop-i in
    let f = c.args.file.file.bytes.now in
    let n = c.cell-c in
    word_there loop.words f (grid f) loop.i (count f) n.result (omega (arith, c.count-i-end.ensures)) n.ensures.value n.ensures.within loop.invariant.1

pub overflow_add-words : goal.overflow_add-words
overflow_add-words c =
    let loop = c.loop-i in
    let f = c.args.file.file.bytes.now in
    let n = c.cell-c in
    record { fits = mark_fits loop.words f (grid f) loop.i (count f) n.result (omega (arith, c.count-i-end.ensures)) n.ensures.value n.ensures.within loop.invariant.1 }

pub bounds-words-c-in-loop-i : goal.bounds-words-c-in-loop-i
bounds-words-c-in-loop-i c =
    let loop = c.loop-i in
    let f = c.args.file.file.bytes.now in
    let n = c.cell-c in
    word_there loop.words f (grid f) loop.i (count f) n.result (omega (arith, c.count-i-end.ensures)) n.ensures.value n.ensures.within loop.invariant.1

pub loop-i-preserved : goal.loop-i-preserved
loop-i-preserved c =
    let loop = c.loop-i in
    let f = c.args.file.file.bytes.now in
    let n = c.cell-c in
    (simp length-set loop.invariant.0, enter_turn loop.words f (grid f) loop.i (count f) n.result (omega (arith, c.count-i-end.ensures)) n.ensures.value n.ensures.within loop.invariant.1)

pub returns : goal.returns
returns c =
    let loop = c.loop-i in
    let f = c.args.file.file.bytes.now in
    (enter_end _ _ (grid f) loop.i (count f) refl (omega (arith, c.count-i-end.ensures)) loop.invariant.1, loop.invariant.0)
