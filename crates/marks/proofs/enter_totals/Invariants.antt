use mathlib.Core.Path.{◌≡◌}
use lib.ListN.{length}
use Rattle.marks.proofs.Entered.{Totalling}
use Rattle.marks.proofs.enter_totals.Given as goal

abbrev pub invariant-loop-i : goal.invariant-loop-i
invariant-loop-i l = (length l.words ≡ length l.initial.words) × Totalling l.words l.fn.file.bytes.now l.total l.i
