-- `binary::u16_at` meets its contract: the number is the sum of its two bytes, each at its place. Assumes nothing.
use native.Mathlib.Omega.{arith}
use Rattle.rym1.proofs.Bytes.{read2}
use Rattle.binary.proofs.u16_at.Goals as goal

pub returns : goal.returns
returns c = rw read2 (omega (arith, c.from_le_bytes.ensures))
