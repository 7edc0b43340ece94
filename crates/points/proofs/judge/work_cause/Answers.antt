-- `points::judge::work_cause` meets its contract: the file is accepted, so its records may be judged. Assumes nothing.
use Rattle.rym1.specs.Causes.{number, judged, when}
use Rattle.rym1.specs.File.{work_cause}
use Rattle.points.proofs.judge.work_cause.Goals as goal

pub invariant_of-result : goal.invariant_of-result
unfolding number judged work_cause when
invariant_of-result c = record { works = rw (← c.is_working.ensures, c.if-is_working.true) }

pub returns-then-is_working-clause-cause : goal.returns-then-is_working-clause-cause
unfolding number judged work_cause when
returns-then-is_working-clause-cause c = rw (← c.is_working.ensures, c.if-is_working.true)

pub returns-clause-cause : goal.returns-clause-cause
unfolding number judged work_cause when
returns-clause-cause c = rw (← c.is_working.ensures, c.if-is_working.false)
