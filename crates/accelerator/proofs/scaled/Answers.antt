-- `accelerator::scaled` meets its contract: the result is the definition, opened; its 96 is the literal. Assumes nothing.
use mathlib.Core.Path.{refl}
use lib.Ieee.{of_int, of_bits}
use Rattle.filling.specs.Inside.{scaled}
use Rattle.accelerator.proofs.scaled.Goals as goal

pub returns : goal.returns
unfolding scaled of_int of_bits
returns c = refl
