-- `float::axis::axis_index` meets its contract: the bits may be read off a NaN. Assumes nothing.
use mathlib.Core.Path.{◌∙◌, sym, ap, subst}
use lib.Dec.{T}
use lib.Ieee.{binary64}
use lib.Ieee.Bits.{of_bits-to_bits}
use Rattle.float.specs.Axis.{axis_index}
use Rattle.float.proofs.WholePart.{none_at_nan}
use Rattle.float.proofs.axis.axis_index.Goals as goal

pub returns-then-is_nan : goal.returns-then-is_nan
returns-then-is_nan c = none_at_nan c.args.v c.is_nan.result c.is_nan.ensures.value c.if-is_nan.true

pub returns : goal.returns
returns c =
    c.axis_index_bits.ensures ∙ ap axis_index (of_bits-to_bits binary64 c.args.v (subst T (sym c.well_formed.0.1) tt))
