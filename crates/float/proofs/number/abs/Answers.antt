-- `float::number::abs` meets its contract. Assumes nothing.
use mathlib.Core.Path.{sym, ap}
use mathlib.Core.Bool.{Bool, cond}
use lib.Ieee.{lt, neg}
use Rattle.float.specs.Number.{abs}
use Rattle.float.proofs.number.abs.Goals as goal

pub returns-then-x : goal.returns-then-x
unfolding abs lt
returns-then-x c = sym (ap (λ (t : Bool). cond t (neg c.args.x) c.args.x) c.if-x.true)

pub returns-else-x : goal.returns-else-x
unfolding abs lt
returns-else-x c = sym (ap (λ (t : Bool). cond t (neg c.args.x) c.args.x) c.if-x.false)
