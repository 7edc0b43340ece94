-- `float::number::scalar_max` meets its contract. Assumes nothing.
use mathlib.Core.Path.{sym, ap}
use mathlib.Core.Bool.{Bool, cond}
use lib.Ieee.{lt}
use Rattle.float.specs.Number.{scalar_max}
use Rattle.float.proofs.number.scalar_max.Goals as goal

pub returns-then-a-b : goal.returns-then-a-b
unfolding scalar_max lt
returns-then-a-b c = sym (ap (λ (t : Bool). cond t c.args.b c.args.a) c.if-a-b.true)

pub returns-else-a-b : goal.returns-else-a-b
unfolding scalar_max lt
returns-else-a-b c = sym (ap (λ (t : Bool). cond t c.args.b c.args.a) c.if-a-b.false)
