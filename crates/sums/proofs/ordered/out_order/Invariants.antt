use mathlib.Core.Path.{◌≡◌}
use Rattle.rym1.specs.Cells.{look}
use Rattle.rtm1.specs.Visit.{visit}
use Rattle.runs.specs.Walk.{file_of, left}
use Rattle.sums.proofs.Order.{Storing}
use Rattle.sums.proofs.ordered.out_order.Given as goal

abbrev pub invariant-loop-r : goal.invariant-loop-r
invariant-loop-r l =
    (goal.iterator-loop-r).can_next l.r-iterator × (goal.iterator-loop-r).is_finite l.r-iterator
    × (file_of l.r-iterator ≡ l.lookup.file.bytes.now)
    × Storing (visit (look l.lookup.file.bytes.now) l.lookup.g l.fn.b) l.initial.out l.from (left l.r-iterator) l.out l.at
