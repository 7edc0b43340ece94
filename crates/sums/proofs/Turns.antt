-- Laws of a loop that adds up a box's points: the sums so far, with the points to come, are those of the box. Assumes nothing.
use Prim.Native.Nat.{ℕ, ◌+◌, ◌≤◌}
use mathlib.Core.Path.{◌≡◌, sym, ap, ◌∙◌}
use mathlib.Core.List.{List, [], ◌++◌}
use native.Mathlib.Nat.{le_trans}
use native.Mathlib.Omega.{arith}
use lib.ListN.{length, length-append}
use Rattle.rym1.specs.Cells.{Slot}
use Rattle.rym1.proofs.Cells.{cube_few}
use Rattle.rtm1.specs.declared.Cells.{Cells}
use Rattle.rtm1.specs.declared.Sums.{Sums}
use Rattle.rtm1.specs.Boxes.{Within}
use Rattle.rtm1.specs.Visit.{Placed, nothing, visit, total}
use Rattle.rtm1.proofs.Boxes.{cells_few}
use Rattle.rtm1.proofs.Visit.{total_append, total_count, visit_few}

-- a turn takes the points ps, and leaves the rest
module _ (t all : Sums) (before ps rest : List Placed) (first : before ≡ ps ++ rest) (so_far : total t before ≡ all) where
  pub sums_on : (t' : Sums) → t' ≡ total t ps → total t' rest ≡ all
  sums_on t' step =
      ap (λ (u : Sums). total u rest) step
      ∙ sym (total_append t ps rest)
      ∙ sym (ap (total t) first)
      ∙ so_far

  sums_left : t.count + length before ≡ all.count
  sums_left = sym (total_count t before) ∙ ap (λ (s : Sums). s.count) so_far

  pub sums_fit : (look : ℕ → Slot) (g : ℕ) (b : Cells) → all ≡ total nothing (visit look g b) → Within g b → g ≤ 256 → t.count + length ps ≤ 16777216
  sums_fit look g b e w h =
      let few = le_trans (visit_few look g b) (le_trans (cells_few g b w) (cube_few g h)) in
      let counted = ap (λ (s : Sums). s.count) e ∙ total_count nothing (visit look g b) in
      omega (arith, few, counted, sums_left, ap length first, length-append ps rest)

pub sums_end : (t all : Sums) (rest : List Placed) → rest ≡ [] → total t rest ≡ all → t ≡ all
unfolding total
sums_end t all rest none so_far = sym (ap (total t) none) ∙ so_far
