-- `runs::Lookup::runs` meets its contract: it starts at the box's first cell. Assumes nothing.
use mathlib.Core.Path.{sym}
use Rattle.runs.proofs.Left.{visit_points}
use Rattle.runs.proofs.Lookup.runs.Goals as goal

pub returns-clause-points : goal.returns-clause-points
returns-clause-points c = sym (visit_points _ _ c.args.b c.requires.proper)
