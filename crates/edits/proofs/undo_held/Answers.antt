-- `edits::undo_held` meets its contract: the entry is of a removal, or the record goes, or its masses come back. Assumes nothing.
use mathlib.Core.Path.{refl, sym, ap, ◌∙◌}
use Rattle.rym1.specs.Causes.{told}
use Rattle.journal.specs.Entry.{said, number}
use Rattle.edits.proofs.Undoing.{way_restored}
use Rattle.edits.proofs.undo_held.Goals as goal

pub returns-in-Replaced : goal.returns-in-Replaced
unfolding told number
returns-in-Replaced c =
    let g = c.grid in
    let n = c.count-n in
    way_restored c.args.file.now c.args.journal.now (said c.args.entry) c.args.i c.requires.sound c.requires.last c.requires.right c.requires.spotted n.result _ _ _ n.ensures c.pop-in-Replaced.ensures (sym c.requires.kind ∙ ap number c.in-Replaced.is) g.result c.cell_point-p.result
    g.ensures (rw c.cell.ensures at c.cell_point-p.ensures) c.out_point.ensures refl
