-- Laws of the entry count of a journal that is not refused, and of the words behind it. Assumes nothing.
use Prim.Native.Nat.{ℕ, ◌+◌, ◌*◌, ◌≤◌, ◌<◌}
use mathlib.Core.Path.{◌≡◌}
use mathlib.Core.List.{List}
use native.Mathlib.Omega.{arith}
use lib.ListN.{length, get_or}
pub use lib.ListN.{length-set}
use Rattle.rym1.specs.Journal.{entries, journal_cause, push_cause}
pub use Rattle.rym1.proofs.Journal.{journal_empty, journal_many, journal_short, journal_right, push_short, push_most, push_right}
use Rattle.rym1.proofs.Journal.{accepted_journal, pushable}

pub word_0 : (j : List ℕ) → journal_cause j ≡ 0 → get_or j 0 0 ≡ entries j
word_0 j ok = (accepted_journal j ok).entries_is

pub few : (j : List ℕ) → journal_cause j ≡ 0 → entries j ≤ 16777216
few j ok = (accepted_journal j ok).few

pub room : (j : List ℕ) → journal_cause j ≡ 0 → 3 * entries j < length j
room j ok = omega (arith, (accepted_journal j ok).room)

pub there : (j : List ℕ) → journal_cause j ≡ 0 → 0 < length j
there j ok = omega (arith, room j ok)

pub more_room : (j : List ℕ) → journal_cause j ≡ 0 → push_cause j ≡ 0 → 4 + 3 * entries j ≤ length j
more_room j ok free = (pushable j ok free).room

pub ruleset counted = (word_0, few, room, there, more_room, length-set)

pub ruleset wrong = (journal_empty, journal_many, journal_short, journal_right)

pub ruleset full = (push_short, push_most, push_right)
