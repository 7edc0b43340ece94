-- `search::next` meets its contract: no mark is found before the word that is read, and the words so far are those touched. Assumes nothing.
use mathlib.Core.Path.{refl}
use native.Mathlib.Omega.{arith}
use Rattle.marks.proofs.Index.{group_of}
use Rattle.search.specs.Next.{bit_at}
use Rattle.search.proofs.Least.{touched_few}
use Rattle.search.proofs.Reading.{search_start, search_hit, search_out, search_on, search_end, none_in_word, first_in_word}
use Rattle.search.proofs.next.Goals as goal

pub loop-c-init : goal.loop-c-init
loop-c-init c = (refl, refl, search_start (bit_at c.args.words.now) c.args.first c.args.end)

pub bounds-words-at : goal.bounds-words-at
bounds-words-at c =
    let l = c.loop-c in
    omega (arith, l.invariant.0, group_of c.args.end l.c c.loop-c-test.true, c.requires.1)

pub overflow_add-n : goal.overflow_add-n
overflow_add-n c =
    let l = c.loop-c in
    record { fits = omega (arith, l.invariant.2.counted, touched_few c.args.first l.c, c.loop-c-test.true, c.requires.0) }

pub returns-then-cell-end : goal.returns-then-cell-end
returns-then-cell-end c =
    let l = c.loop-c in
    let fits = (c.type_inv.words l.at).fits in
    let first = first_in_word c.args.words.now l.c l.at l.below _ l.invariant.0 l.invariant.1 fits refl c.if-marks-ne0.true in
    search_hit (bit_at c.args.words.now) c.args.first c.args.end l.c l.n l.invariant.2 l.below l.invariant.1 c.loop-c-test.true _ first c.if-cell-end.true

pub returns-then-marks-ne0 : goal.returns-then-marks-ne0
returns-then-marks-ne0 c =
    let l = c.loop-c in
    let fits = (c.type_inv.words l.at).fits in
    let first = first_in_word c.args.words.now l.c l.at l.below _ l.invariant.0 l.invariant.1 fits refl c.if-marks-ne0.true in
    search_out (bit_at c.args.words.now) c.args.first c.args.end l.c l.n l.invariant.2 l.below l.invariant.1 c.loop-c-test.true _ first c.if-cell-end.false

pub loop-c-preserved : goal.loop-c-preserved
loop-c-preserved c =
    let l = c.loop-c in
    let fits = (c.type_inv.words l.at).fits in
    let free = none_in_word c.args.words.now l.c l.at l.below _ l.invariant.0 l.invariant.1 fits refl c.if-marks-ne0.false in (
      omega (arith, l.invariant.0, l.invariant.1),
      omega (arith, l.invariant.1),
      search_on (bit_at c.args.words.now) c.args.first c.args.end l.c l.n l.invariant.2 l.below l.invariant.1 c.loop-c-test.true free,
    )

pub returns : goal.returns
returns c =
    let l = c.loop-c in
    search_end (bit_at c.args.words.now) c.args.first c.args.end l.c l.n l.invariant.2 c.loop-c-test.false
