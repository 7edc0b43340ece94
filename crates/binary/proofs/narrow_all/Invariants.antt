use Prim.Native.Nat.{◌≤◌}
use mathlib.Core.Path.{◌≡◌}
use lib.ListN.{length, take, drop}
use Rattle.float.specs.Narrow.{float_words, any_large}
use Rattle.rym1.specs.File.{all_finite}
use Rattle.binary.proofs.narrow_all.Given as goal

abbrev pub invariant-loop-i : goal.invariant-loop-i
invariant-loop-i l =
    (l.i ≤ length l.xs) × (length l.words ≡ length l.xs) × (take l.i l.words ≡ float_words (take l.i l.xs))
    × (any_large (drop l.i l.xs) ≡ any_large l.xs) × (all_finite (float_words (drop l.i l.xs)) ≡ all_finite (float_words l.xs))
