-- `mascon_tree::judge_tree` meets its contract: the recursion from the whole grid on, that writes nothing. Assumes nothing.
use mathlib.Core.List.{[], ◌∷◌}
use Rattle.mascon_tree.proofs.Counted.{root_within, root_judged}
use Rattle.mascon_tree.proofs.judge_tree.Goals as goal

pub build_mascon_node-requires-clause-within : goal.build_mascon_node-requires-clause-within
build_mascon_node-requires-clause-within c = root_within c.args.lookup.now.ready c.whole.ensures

pub build_mascon_node-requires-clause-space : goal.build_mascon_node-requires-clause-space
build_mascon_node-requires-clause-space c = root_judged c.args.lookup.now.ready c.whole.ensures (0 ∷ []) c.args.frame
