-- `binary::u32_at` meets its contract: the number is the sum of its four bytes, each at its place. Assumes nothing.
use native.Mathlib.Omega.{arith}
use Rattle.rym1.proofs.Bytes.{read4}
use Rattle.binary.proofs.u32_at.Goals as goal

pub returns : goal.returns
returns c = rw read4 (omega (arith, c.from_le_bytes.ensures))
