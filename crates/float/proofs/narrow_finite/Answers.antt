-- `float::narrow_finite` meets its contract: each way through the code is one case of `narrow_finite` at 64 to 32 bits. Assumes nothing.
use native.Mathlib.Omega.{arith}
use Rattle.float.proofs.Machine.{none_at_zero, low_kept, low_gone, high_kept, high_over}
use Rattle.float.proofs.narrow_finite.Goals as goal

pub returns-then-x-eq0 : goal.returns-then-x-eq0
returns-then-x-eq0 c =
    none_at_zero c.args.x c.args.t c.requires.1 c.if-x-eq0.true

pub returns-then-d-lt54 : goal.returns-then-d-lt54
returns-then-d-lt54 c =
    low_kept c.args.x c.args.t c.requires.1 (omega arith) c.if-x-le897.true c.nearest_shift.result c.nearest_shift.ensures

pub returns-then-x-le897 : goal.returns-then-x-le897
returns-then-x-le897 c =
    low_gone c.args.x c.args.t c.requires.1 (omega arith) c.if-x-le897.true (omega arith)

pub returns-then-sum-lt2139095040 : goal.returns-then-sum-lt2139095040
returns-then-sum-lt2139095040 c =
    high_kept c.args.x c.args.t c.requires.1 c.if-x-le897.false c.nearest_shift-2.result c.nearest_shift-2.ensures (omega arith)

pub returns : goal.returns
returns c =
    high_over c.args.x c.args.t c.requires.1 c.if-x-le897.false c.nearest_shift-2.result c.nearest_shift-2.ensures (omega arith)
