-- A lookup that has every cell. Definitions only.
use Rattle.std.specs.Prelude.{ℕ}
use Rattle.rym1.specs.Cells.{Slot, held}
use Rattle.rtm1.specs.Costliest.{unit}

-- each cell's index is its number
unfoldable pub every : ℕ → Slot
every c = held c (record { cauchy = unit; elliptic = unit })
