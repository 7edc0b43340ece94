-- `counting::rect::Rect::size` meets its contract: a rectangle has the product of its widths (`rect_size`). Assumes nothing.
use Prim.Native.Nat.{◌-◌, ◌+◌}
use mathlib.Core.Path.{sym, ◌∙◌}
use native.Mathlib.Nat.{mul_comm}
use Rattle.counting.proofs.Sizes.{rect_size}
use Rattle.counting.proofs.rect.Rect.size.Goals as goal

pub returns : goal.returns
returns c =
    let r = c.args.self.now in
    rw (c.saturating_sub-columns.ensures, c.saturating_sub-rows.ensures) (sym (rect_size r ∙ mul_comm (r.hk + 1 - r.lk) (r.hj + 1 - r.lj)))
