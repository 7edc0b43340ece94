-- `runs::walk::Runs::next` meets its contract: a run takes its points, and leaves those behind it. Assumes nothing.
use Prim.Native.Nat.{◌<◌}
use mathlib.Core.Path.{refl}
use borrow.Author.Rules.{rules}
use Rattle.runs.specs.Left.{cells_from}
use Rattle.runs.proofs.Left.{run_points, run_fewer}
use Rattle.runs.proofs.walk.RunsIterator.next.Goals as goal

pub returns-clause-steps : goal.returns-clause-steps
returns-clause-steps c =
    let s = c.args.self.now in
    record { step = (run_points s.lookup.file.bytes.now s.lookup.g s.b s.at c.in_ok-from.from c.in_ok-from.ensures c.next_run-r.result c.next_run-r.ensures, c.next_run-r.ensures.in_file); same = refl }

pub returns-clause-goes : goal.returns-clause-goes
returns-clause-goes c =
    let s = c.args.self.now in
    let fewer : cells_from s.b (record { z = c.in_ok-from.from.z; y = c.in_ok-from.from.y; x = c.next_run-r.result.next }) < cells_from s.b s.at =
    run_fewer s.lookup.file.bytes.now s.lookup.g s.b s.at c.in_ok-from.from c.in_ok-from.ensures c.next_run-r.result c.next_run-r.ensures in
    record { on = λ fin. (tt, tt, fewer); keeps = search rules; rests = search rules }
