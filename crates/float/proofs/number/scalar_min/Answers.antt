-- `float::number::scalar_min` meets its contract. Assumes nothing.
use mathlib.Core.Path.{sym, ap}
use mathlib.Core.Bool.{Bool, cond}
use lib.Ieee.{lt}
use Rattle.float.specs.Number.{scalar_min}
use Rattle.float.proofs.number.scalar_min.Goals as goal

pub returns-then-b-a : goal.returns-then-b-a
unfolding scalar_min lt
returns-then-b-a c = sym (ap (λ (t : Bool). cond t c.args.b c.args.a) c.if-b-a.true)

pub returns-else-b-a : goal.returns-else-b-a
unfolding scalar_min lt
returns-else-b-a c = sym (ap (λ (t : Bool). cond t c.args.b c.args.a) c.if-b-a.false)
