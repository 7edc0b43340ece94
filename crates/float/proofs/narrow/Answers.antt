-- `float::narrow` meets its contract: a NaN is told, and the pattern is that of the narrowed value. Assumes nothing.
use mathlib.Core.Path.{sym, subst}
use lib.Dec.{T}
use Rattle.float.proofs.Kit.{no_nan, no_nan_bits}
use Rattle.float.proofs.Large.{told_large, pattern_large, pattern_finite, told}
use Rattle.float.proofs.narrow.Goals as goal

pub returns-then-is_nan : goal.returns-then-is_nan
returns-then-is_nan c = told c.args.x (subst T (sym c.well_formed.0.1) tt) _ (told_large c.args.x c.is_nan.result c.is_nan.ensures.value c.if-is_nan.true)

pub returns-then-not-is_finite : goal.returns-then-not-is_finite
returns-then-not-is_finite c =
    let p = c.narrow_bits-pattern in
    let t = c.is_finite in
    told c.args.x (subst T (sym c.well_formed.0.1) tt) _ (pattern_large c.args.x (subst T (sym c.well_formed.0.1) tt) p.result p.ensures t.result t.ensures c.if-not-is_finite.true)

pub float_from_bits-result : goal.float_from_bits-result
float_from_bits-result c =
    let p = c.narrow_bits-pattern in
    no_nan_bits c.args.x (subst T (sym c.well_formed.0.1) tt) p.result p.ensures (no_nan c.args.x c.is_nan.result c.is_nan.ensures.value c.if-is_nan.false)

pub returns : goal.returns
returns c =
    let p = c.narrow_bits-pattern in
    let t = c.is_finite in
    told c.args.x (subst T (sym c.well_formed.0.1) tt) _ (pattern_finite c.args.x (subst T (sym c.well_formed.0.1) tt) p.result p.ensures t.result t.ensures c.if-not-is_finite.false)
