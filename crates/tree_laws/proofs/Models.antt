-- That the theorems speak of something: a lookup in which no two cells hold one index, and what they say of it.
use Prim.Native.Nat.{ℕ, ◌<◌}
use mathlib.Core.Path.{◌≡◌, refl}
use native.Mathlib.Omega.{arith}
use Rattle.rym1.specs.File.{cell}
use Rattle.rym1.specs.Cells.{Slot, held}
use Rattle.rtm1.specs.Boxes.{whole}
use Rattle.rtm1.specs.Tree.{tree, order}
use Rattle.tree_laws.specs.Said.{times, Distinct}
use Rattle.tree_laws.proofs.Theorems.{index_once, root_within}

-- each cell holds the point of its own number
unfoldable pub full : ℕ → Slot
full c = held c (record { cauchy = 0; elliptic = 0 })

full_distinct : (g : ℕ) → Distinct full g
unfolding full
full_distinct g c d i hc hd (m, h) (m', h') = cc

-- in a full grid each cell's number stands once among the order words
pub full_once : (g x y z : ℕ) → x < g → y < g → z < g → times (cell g x y z) (order (tree full g)) ≡ 1
unfolding full
full_once g x y z hx hy hz = index_once full g (whole g) (root_within g (omega arith)) (full_distinct g) x y z (cell g x y z) (omega arith) (_, refl)
