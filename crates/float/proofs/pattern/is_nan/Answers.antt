-- `float::pattern::is_nan` meets its contract. Assumes nothing.
use mathlib.Core.Path.{◌∙◌, ap₂, sym}
use Prim.Native.Nat.{ℕ, ◌%◌}
use lib.Dec.{ltb}
use lib.Ieee.Bits.{nan_bits_above}
use Rattle.float.proofs.pattern.is_nan.Goals as goal

pub returns : goal.returns
returns g c =
    let t = g.F.Layout.told in
    ap₂ (λ (i s : ℕ). ltb i (c.args.n % s)) (c.INFINITY.ensures ∙ t.1) (c.SIGN.ensures ∙ t.2) ∙ sym (nan_bits_above g.F.Layout.format c.args.n)
