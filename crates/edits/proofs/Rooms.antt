-- Laws of the room for a record more, and of the sizes of a file that is not refused. Assumes nothing.
use Prim.Native.Nat.{ℕ, suc, ◌+◌, ◌*◌, ◌≤◌, ◌<◌}
use mathlib.Core.Path.{◌≡◌}
use mathlib.Core.List.{List}
use native.Mathlib.Omega.{arith}
use lib.ListN.{length}
use borrow.Author.Tests.{lt-ltb, le-ltb}
use Rattle.rym1.specs.Causes.{when}
use Rattle.rym1.specs.File.{grid, count, size, cube, file_cause}
use Rattle.rym1.specs.Cells.{vacant}
use Rattle.rym1.specs.Edits.{is_vacant, room_cause}
use Rattle.rym1.proofs.Accepted.{accepted}
use Rattle.rym1.proofs.Cells.{cube_few}
pub use Rattle.edits.proofs.Counts.{count_few}

-- 14
pub room_full : (f : List ℕ) (n : ℕ) → n ≡ count f → length f < 80 + 16 * n → room_cause f vacant ≡ 14
unfolding room_cause is_vacant when
room_full f n e h = rw (lt-ltb (length f) (size (suc (count f))) (unfold size in omega (arith, e, h)))

pub room_left : (f : List ℕ) → size (suc (count f)) ≤ length f → room_cause f vacant ≡ 0
unfolding room_cause is_vacant when
room_left f h = rw (le-ltb (length f) (size (suc (count f))) h)

pub room_more : (f : List ℕ) (n : ℕ) → n ≡ count f → 80 + 16 * n ≤ length f → size (suc (count f)) ≤ length f
unfolding size
room_more f n e h = omega arith

-- ---- the sizes of a file that is not refused

pub long : (f : List ℕ) → file_cause f ≡ 0 → 64 ≤ length f
long f ok = (accepted f ok).long

pub whole : (f : List ℕ) → file_cause f ≡ 0 → 16 * count f + 64 ≤ length f
unfolding size
whole f ok = omega (arith, (accepted f ok).room)

pub pos : (f : List ℕ) → file_cause f ≡ 0 → 0 < grid f
pos f ok = (accepted f ok).grid_pos

pub few_cells : (f : List ℕ) → file_cause f ≡ 0 → cube (grid f) ≤ 16777216
few_cells f ok = cube_few (grid f) (accepted f ok).grid_few

pub ruleset sizes = (long, whole, pos, few_cells, count_few, room_more)
