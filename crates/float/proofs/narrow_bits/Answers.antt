-- `float::narrow_bits` meets its contract: the masks are the fields, and the two tests those of `narrow`. Assumes nothing.
use native.Mathlib.Omega.{arith}
use Rattle.float.proofs.Machine.{infinite_bits, nan_bits_law, finite_bits, bits_lt}
use Rattle.float.proofs.narrow_bits.Goals as goal

pub returns-then-t-eq0 : goal.returns-then-t-eq0
returns-then-t-eq0 c =
    let b = c.args.b in
    infinite_bits b c.if-x-eq2047.true c.if-t-eq0.true

pub returns-then-x-eq2047 : goal.returns-then-x-eq2047
returns-then-x-eq2047 c =
    let b = c.args.b in
    nan_bits_law b c.if-x-eq2047.true c.if-t-eq0.false

pub overflow_add-result-2 : goal.overflow_add-result-2
overflow_add-result-2 c =
    let small = bits_lt c.args.b c.ranges.b.fits _ _ c.narrow_finite.result c.narrow_finite.ensures in
    omega arith

pub overflow_cast-result-2 : goal.overflow_cast-result-2
overflow_cast-result-2 c =
    record { fits = bits_lt c.args.b c.ranges.b.fits _ _ c.narrow_finite.result c.narrow_finite.ensures }

pub returns : goal.returns
returns c =
    let b = c.args.b in
    finite_bits b c.if-x-eq2047.false c.narrow_finite.result c.narrow_finite.ensures
