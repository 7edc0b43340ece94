use Rattle.rtm1.specs.Boxes.{cells}
use Rattle.costliest.proofs.+count_full.Given as goal

-- the number of cells, the product of the box's widths
abbrev pub decreases-count_full : goal.decreases-count_full
decreases-count_full l = cells l.b
