-- `row::row_answers` meets its contract: the pass and the answers, put together; the row's one list serves each point (`row_answer`). Assumes nothing.
use Prim.Native.Nat.{ℕ}
use native.Mathlib.Omega.{arith}
use lib.ListN.{length, take}
use Rattle.std.proofs.lemmas.List.{get_or_append_left, length-take-le}
use mathlib.Core.Path.{◌≡◌, ap, ◌∙◌}
use mathlib.Core.List.{List}
use Rattle.filling.specs.Inside.{odd_rest, yes}
use Rattle.row.specs.Row.{crossings_at}
use Rattle.rows.proofs.Laws.{zeros}
use Rattle.row.proofs.Laws.{row_answer}
use Rattle.row.proofs.row_answers.Goals as goal

pub pass-read-requires-clause-zero : goal.pass-read-requires-clause-zero
pass-read-requires-clause-zero c = zeros 256

pub returns-clause-answered : goal.returns-clause-answered
returns-clause-answered c q l =
    let row = c.args.row.now in
    let s = c.args.s.now in
    let n = length row.xs.now in
    let long : length (take n c.args.out.now) ≡ n = length-take-le n c.args.out.now c.requires.bytes in
    get_or_append_left c.answers.new.out _ 0 q (omega (arith, c.answers.ensures.bytes, long))
    ∙ c.answers.ensures.answered q (rw long l)
    ∙ ap yes (ap odd_rest (c.pass-read.ensures.regions q l)
    ∙ ap (λ (list : List ℕ). odd_rest (crossings_at s row.b row.y row.z row.xs.now list q)) c.requires.list_is
    ∙ row_answer s row.b row.y row.z row.xs.now q)
