-- `sums::mass_at` meets its contract: the word that is read, widened. Assumes nothing.
use mathlib.Core.Path.{refl, sym, ap, ◌∙◌}
use mathlib.Core.Bool.{false}
use lib.Ieee.{binary32, nan_bits}
use Rattle.float.proofs.Finite.{may_widen}
use Rattle.sums.proofs.mass_at.Goals as goal

pub float_to_float-result : goal.float_to_float-result
float_to_float-result c = may_widen c.u32_at.result false (sym (ap (nan_bits binary32) c.u32_at.ensures ∙ c.requires.1)) refl
