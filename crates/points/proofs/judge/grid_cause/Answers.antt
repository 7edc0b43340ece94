-- `points::judge::grid_cause` meets its contract: each way out rewrites with the tests that led there. Assumes nothing.
use native.Mathlib.Omega.{arith}
use borrow.Author.Tests.{lt-ltb, le-ltb, eq-eqb, ne_eqb}
use Rattle.rym1.specs.Causes.{number, judged, when}
use Rattle.rym1.specs.File.{grid_cause}
use Rattle.points.proofs.judge.grid_cause.Goals.{then-g-eq0-via-then-g-eq0, then-g-eq0-via-else-g-eq0+then-g-gt-MAX_GRID}
use Rattle.points.proofs.judge.grid_cause.Goals as goal

pub returns-then-g-eq0 : goal.returns-then-g-eq0
unfolding number judged grid_cause when
returns-then-g-eq0 c = elim c.then-g-eq0.branch [
  | then-g-eq0-via-then-g-eq0 w ↦ rw (eq-eqb c.args.g 0 (omega arith))
  | then-g-eq0-via-else-g-eq0+then-g-gt-MAX_GRID w ↦ rw (ne_eqb c.args.g 0 (λ z. omega arith), lt-ltb 256 c.args.g (omega arith))
]

pub returns : goal.returns
unfolding judged grid_cause when
returns c = rw (ne_eqb c.args.g 0 (λ z. omega arith), le-ltb 256 c.args.g (omega arith))
