-- `accelerator::unbounded` meets its contract: the constants compute to the infinities. Assumes nothing.
use lib.Ieee.{div, neg, of_bits}
use Rattle.accelerator.proofs.unbounded.Goals as goal

pub returns : goal.returns
unfolding div neg of_bits
returns c = rw (c.all_axes.ensures, c.all_axes-2.ensures)
