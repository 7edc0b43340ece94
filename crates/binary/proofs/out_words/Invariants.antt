use mathlib.Core.Path.{◌≡◌}
use lib.ListN.{length, take}
use Rattle.rym1.specs.Bytes.{words_bytes, splice}
use Rattle.binary.proofs.out_words.Given as goal

abbrev pub invariant-loop-i : goal.invariant-loop-i
invariant-loop-i g l = (length l.out ≡ length l.initial.out) × (l.out ≡ splice l.initial.out l.at (words_bytes (take l.i l.words)))
