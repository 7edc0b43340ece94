-- `points::judge::place_cause` meets its contract: each way out rewrites with the tests that led there. Assumes nothing.
use native.Mathlib.Omega.{arith}
use borrow.Author.Tests.{le-leb, lt-leb}
use Rattle.rym1.specs.Causes.{number, judged, when}
use Rattle.rym1.specs.File.{place_cause}
use Rattle.points.proofs.judge.place_cause.Goals.{else-x-g-via-then-x-g+then-y-g+else-z-g, else-x-g-via-then-x-g+else-y-g, else-x-g-via-else-x-g}
use Rattle.points.proofs.judge.place_cause.Goals as goal

pub returns-then-z-g : goal.returns-then-z-g
unfolding judged place_cause when
returns-then-z-g c =
    rw (
      lt-leb c.args.g c.args.x (omega arith),
      lt-leb c.args.g c.args.y (omega arith),
      lt-leb c.args.g c.args.z (omega arith),
    )

pub returns : goal.returns
unfolding number judged place_cause when
returns c = elim c.else-x-g.branch [
  | else-x-g-via-then-x-g+then-y-g+else-z-g w ↦ rw (
    lt-leb c.args.g c.args.x (omega arith),
    lt-leb c.args.g c.args.y (omega arith),
    le-leb c.args.g c.args.z (omega arith),
  )
  | else-x-g-via-then-x-g+else-y-g w ↦ rw (lt-leb c.args.g c.args.x (omega arith), le-leb c.args.g c.args.y (omega arith))
  | else-x-g-via-else-x-g w ↦ rw (le-leb c.args.g c.args.x (omega arith))
]
