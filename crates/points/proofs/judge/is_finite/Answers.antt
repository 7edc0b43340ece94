-- `points::judge::is_finite` meets its contract: a u32 has at most 32 bits. Assumes nothing.
use native.Mathlib.Omega.{arith}
use borrow.Author.Tests.{lt-ltb}
use Rattle.rym1.specs.File.{finite}
use Rattle.points.proofs.judge.is_finite.Goals as goal

pub returns : goal.returns
unfolding finite
returns c = rw (lt-ltb c.args.pattern 4294967296 (omega arith)) c.is_finite.ensures
