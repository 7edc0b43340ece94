-- `float::nearest_shift` meets its contract: the remainder against one half picks the case of `closest`. Assumes nothing.
use native.Mathlib.Omega.{arith}
use Rattle.float.proofs.Machine.{goes_down, goes_up, goes_even}
use Rattle.float.proofs.nearest_shift.Goals as goal

pub returns-then-rest-half : goal.returns-then-rest-half
returns-then-rest-half c =
    goes_down c.args.m c.args.d c.requires.0 c.requires.1 c.if-rest-half.true

pub returns-then-half-rest : goal.returns-then-half-rest
returns-then-half-rest c =
    goes_up c.args.m c.args.d c.requires.0 c.requires.1 (omega arith)

pub returns : goal.returns
returns c =
    goes_even c.args.m c.args.d c.requires.0 c.requires.1 c.if-rest-half.false c.if-half-rest.false
