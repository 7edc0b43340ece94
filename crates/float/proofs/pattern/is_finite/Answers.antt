-- `float::pattern::is_finite` meets its contract. Assumes nothing.
use mathlib.Core.Path.{◌∙◌, ap₂}
use Prim.Native.Nat.{ℕ, ◌%◌}
use lib.Dec.{ltb}
use Rattle.float.proofs.Finite.{finite_below}
use Rattle.float.proofs.pattern.is_finite.Goals as goal

pub returns : goal.returns
returns g c =
    let t = g.F.Layout.told in
    ap₂ (λ (s i : ℕ). ltb (c.args.n % s) i) (c.SIGN.ensures ∙ t.2) (c.INFINITY.ensures ∙ t.1) ∙ finite_below g.F.Layout.format c.args.n
