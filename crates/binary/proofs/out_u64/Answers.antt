-- `binary::out_u64` meets its contract. Assumes nothing.
use mathlib.Core.Path.{◌∙◌}
use Rattle.binary.proofs.Stores.{stored}
use Rattle.binary.proofs.out_u64.Goals as goal

pub returns : goal.returns
returns c = stored c.args.s.now _ c.args.at 8 c.args.value (c.copy_from_slice.ensures.after ∙ c.to_le_bytes.ensures)
