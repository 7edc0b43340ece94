use Rattle.rtm1.specs.Boxes.{cells}
use Rattle.mascon_tree.proofs.Setting.+build_mascon_node.Given as goal

-- the number of cells, the product of the box's widths
abbrev pub decreases-build_mascon_node : goal.decreases-build_mascon_node
decreases-build_mascon_node l = cells l.b
