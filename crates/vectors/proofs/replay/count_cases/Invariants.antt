use Rattle.std.proofs.Common.{◌≤◌}
use Rattle.vectors.proofs.replay.count_cases.Given as goal

abbrev pub invariant-loop-cases : goal.invariant-loop-cases
invariant-loop-cases g l = l.same ≤ l.cases
