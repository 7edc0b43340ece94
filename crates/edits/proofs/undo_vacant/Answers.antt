-- `edits::undo_vacant` meets its contract: the entry is of a put, or the buffer is full, or the record comes back. Assumes nothing.
use mathlib.Core.Path.{refl, sym, ap, ◌∙◌}
use Rattle.rym1.specs.Causes.{told}
use Rattle.journal.specs.Entry.{said, number}
use Rattle.edits.proofs.Undoing.{way_back}
use Rattle.edits.proofs.undo_vacant.Goals as goal

pub returns-else-file-n : goal.returns-else-file-n
unfolding told number
returns-else-file-n c =
    let g = c.grid in
    let n = c.count-n in
    way_back c.args.file.now c.args.journal.now (said c.args.entry) c.args.i c.requires.sound c.requires.last c.requires.right c.requires.spotted (sym c.requires.kind ∙ ap number c.in-Removed.is) n.result n.ensures c.if-file-n.false g.result _ c.cell_point-p.result _ _
    g.ensures (rw c.cell.ensures at c.cell_point-p.ensures) c.insert_point.ensures c.pop.ensures refl
