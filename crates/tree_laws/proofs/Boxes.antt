-- A cell lies in a box exactly if it lies in exactly one half, whatever the axis. Assumes nothing.
use Prim.Native.Nat.{ℕ}
use mathlib.Core.Logic.{◌⊎◌, inl, inr, ◌↔◌}
use native.Mathlib.Decide.{dec_lt}
use native.Mathlib.Omega.{arith}
use Rattle.rtm1.specs.declared.Cells.{Cells}
use Rattle.rtm1.specs.declared.Axis.{Axis}
use Rattle.rtm1.specs.declared.Axis.TheVariants.{X, Y, Z}
use Rattle.rtm1.specs.Boxes.{middle, lower, upper}
use Rattle.tree_laws.specs.Said.{In, OneOf}

module _ (b : Cells) (x y z : ℕ) where
  pub lower_in : (a : Axis) → In (lower a b) x y z → In b x y z
  lower_in X h = omega arith
  lower_in Y h = omega arith
  lower_in Z h = omega arith

  pub upper_in : (a : Axis) → In (upper a b) x y z → In b x y z
  upper_in X h = omega arith
  upper_in Y h = omega arith
  upper_in Z h = omega arith

  pub not_both : (a : Axis) → In (lower a b) x y z → In (upper a b) x y z → ⊥
  not_both X h k = omega arith
  not_both Y h k = omega arith
  not_both Z h k = omega arith

  pub one_half : (a : Axis) → In b x y z → In (lower a b) x y z ⊎ In (upper a b) x y z
  one_half X h = elim (dec_lt x (middle X b)) [ yes k ↦ inl (omega arith) | no k ↦ inr (omega arith) ]
  one_half Y h = elim (dec_lt y (middle Y b)) [ yes k ↦ inl (omega arith) | no k ↦ inr (omega arith) ]
  one_half Z h = elim (dec_lt z (middle Z b)) [ yes k ↦ inl (omega arith) | no k ↦ inr (omega arith) ]

  pub in_halves : (a : Axis) → In b x y z ↔ OneOf (In (lower a b) x y z) (In (upper a b) x y z)
  in_halves a = (λ h. to (one_half a h), from)
    where
      to : In (lower a b) x y z ⊎ In (upper a b) x y z → OneOf (In (lower a b) x y z) (In (upper a b) x y z)
      to (inl l) = inl (l, not_both a l)
      to (inr u) = inr (λ l. not_both a l u, u)

      from : OneOf (In (lower a b) x y z) (In (upper a b) x y z) → In b x y z
      from (inl h) = lower_in a h.0
      from (inr h) = upper_in a h.1
