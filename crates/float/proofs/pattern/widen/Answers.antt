-- `float::pattern::widen` meets its contract: an `f64` holds what an `f32` holds. Assumes nothing.
use mathlib.Core.Path.{◌∙◌}
use lib.Ieee.{binary32}
use Rattle.float.proofs.Finite.{quiet_reads, reads_nan, may_widen}
use Rattle.float.proofs.pattern.widen.Goals as goal

pub returns-then-is_nan : goal.returns-then-is_nan
returns-then-is_nan c =
    quiet_reads ∙ reads_nan binary32 c.args.n c.is_nan.result c.is_nan.ensures c.if-is_nan.true

pub float_to_float-result : goal.float_to_float-result
float_to_float-result c =
    may_widen c.args.n c.is_nan.result c.is_nan.ensures c.if-is_nan.false
