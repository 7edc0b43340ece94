-- `density::kernels_wrong` meets its contract: the list of its kernels is wrong. Assumes nothing.
use Prim.Native.Nat.{ℕ, zero, suc, ◌+◌, ◌/◌}
use mathlib.Core.Path.{◌≡◌, refl}
use mathlib.Core.List.{List}
use lib.ListN.{length}
use Rattle.filling.specs.Lists.{kernel, kernels_at, kernels, good_kernel, good_kernels, kernels_wrong}
use Rattle.model.specs.Entries.{all_good, list_wrong}
use Rattle.density.proofs.kernels_wrong.Goals as goal

kernels_good : (s : List ℕ) (at n : ℕ) → good_kernels (kernels_at s at n) ≡ all_good 40 (λ k. good_kernel (kernel s k)) at n
unfolding good_kernels kernels_at all_good
kernels_good s at zero = refl
kernels_good s at (suc n) = rw (kernels_good s (at + 40) n)

pub returns : goal.returns
unfolding kernels_wrong kernels list_wrong
returns c = let s = c.args.s.now in rw (kernels_good s 0 (length s / 40)) c.list_wrong.ensures
