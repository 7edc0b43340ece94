use Rattle.runs.proofs.Runs.{Passed}
use Rattle.runs.proofs.Rest.worded_run.Given as goal

abbrev pub invariant-loop-x : goal.invariant-loop-x
invariant-loop-x l = Passed l.self.lookup.file.bytes.now l.self.lookup.g l.self.z l.self.y l.self.x l.self.x1 l.x
