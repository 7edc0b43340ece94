-- `edits::undo` meets its contract: of a journal without an entry nothing is undone. Assumes nothing.
use mathlib.Core.Path.{sym, ap, ◌∙◌}
use Rattle.rym1.specs.Causes.{judged}
use Rattle.rym1.specs.Journal.{entries}
use Rattle.edits.proofs.Undoing.{way_none}
use Rattle.edits.proofs.undo.Goals as goal

pub returns-then-entries-eq0 : goal.returns-then-entries-eq0
unfolding judged
returns-then-entries-eq0 c =
    let a = c.in_ok-working in
    way_none c.args.file.now c.args.journal.now (sym a.ensures.cause) c.entries.result (c.entries.ensures.0 ∙ ap entries a.ensures.same.1) c.if-entries-eq0.true
