-- `runs::walk::Runs::start` meets its contract: each way out is its own. Assumes nothing.
use Rattle.runs.proofs.Left.{start_row, start_plane, start_none}
use Rattle.runs.proofs.walk.Runs.start.Goals as goal

pub returns-then-at-b-2 : goal.returns-then-at-b-2
returns-then-at-b-2 c =
    let s = c.args.self.now in
    start_row _ _ s.b s.at s.in_grid.proper s.reached c.if-at-b.false c.if-at-b-2.true

pub returns-then-at-b-3 : goal.returns-then-at-b-3
returns-then-at-b-3 c =
    let s = c.args.self.now in
    start_plane _ _ s.b s.at s.in_grid.proper s.reached c.if-at-b.false c.if-at-b-2.false c.if-at-b-3.true

pub returns : goal.returns
returns c =
    let s = c.args.self.now in
    start_none _ _ s.b s.at s.in_grid.proper s.reached c.if-at-b.false c.if-at-b-2.false c.if-at-b-3.false
