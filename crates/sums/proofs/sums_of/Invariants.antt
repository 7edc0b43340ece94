use mathlib.Core.Path.{◌≡◌}
use Rattle.rym1.specs.Cells.{look}
use Rattle.rtm1.specs.Visit.{total, nothing, visit}
use Rattle.runs.specs.Walk.{file_of, left}
use Rattle.sums.proofs.sums_of.Given as goal

abbrev pub invariant-loop-r : goal.invariant-loop-r
invariant-loop-r l =
    (goal.iterator-loop-r).can_next l.r-iterator × (goal.iterator-loop-r).is_finite l.r-iterator
    × (file_of l.r-iterator ≡ l.lookup.file.bytes.now)
    × (total l.t (left l.r-iterator) ≡ total nothing (visit (look l.lookup.file.bytes.now) l.lookup.g l.fn.b))
