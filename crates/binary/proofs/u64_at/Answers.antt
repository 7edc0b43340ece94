-- `binary::u64_at` meets its contract: the number is the sum of its eight bytes, each at its place. Assumes nothing.
use Prim.Native.Nat.{◌+◌}
use native.Mathlib.Nat.{add_assoc}
use native.Mathlib.Omega.{arith}
use Rattle.rym1.proofs.Bytes.{read4, word_add}
use Rattle.binary.proofs.u64_at.Goals as goal

pub returns : goal.returns
returns c =
    let at = c.args.at in
    rw (word_add 4 4, read4 c.args.s.now at, read4 c.args.s.now (at + 4), add_assoc at 4 1, add_assoc at 4 2, add_assoc at 4 3) (omega (arith, c.from_le_bytes.ensures))
