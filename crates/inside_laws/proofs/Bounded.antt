-- What stays within a whole number: sums and products of numbers of magnitude at most k, either sign. Assumes nothing.
use Prim.Native.Nat.{ℕ, ◌+◌, ◌*◌, ◌^◌, ◌≤◌, ◌<◌}
use native.Mathlib.Nat.{le_trans, le_of_eq, mul_comm, mul_assoc, mul-mul-mul_comm, mul-pos, mul-le-mul, mul-le-mul_right, add-mul, add-le-add}
use mathlib.Core.Path.{sym, ap, ◌∙◌}
use mathlib.Core.Bool.{Bool, true, false}
use lib.Ieee.{Float, nan, inf, fin, Format, prec, up, down, unlike, round, neg, add, sub, mul}
use lib.Ieee.Fits.{down_pos}
use Rattle.float.proofs.Zeros.{UpTo, round_neg}
use Rattle.float.proofs.Low.{Low, round_low}
use Rattle.inside_laws.proofs.Monotone.{total}

low_up_to : (k : ℕ) (x : Float) → Low k x → UpTo k x
low_up_to k nan h = absurd h
low_up_to k (inf s) h = absurd h
low_up_to k (fin s m e) h = (tt, h.1)

pub neg_up_to : (k : ℕ) (x : Float) → UpTo k x → UpTo k (neg x)
unfolding neg
neg_up_to k nan h = absurd h.0
neg_up_to k (inf s) h = absurd h.0
neg_up_to k (fin s m e) h = h

round_up_to : (f : Format) (s : Bool) (a c k : ℕ) → 0 < c → k ≤ 2 ^ prec f → a ≤ k * c → UpTo k (round f s a c)
round_up_to f s a c k C few h = go s
  where
    clear : UpTo k (round f false a c)
    clear = low_up_to k (round f false a c) (round_low f a c k C few h)

    go : (s : Bool) → UpTo k (round f s a c)
    go false = clear
    go true = rw (round_neg f false a c) (neg_up_to k (round f false a c) clear)

pub add_up_to : (f : Format) (j k : ℕ) (x y : Float) → j + k ≤ 2 ^ prec f → UpTo j x → UpTo k y → UpTo (j + k) (add f x y)
unfolding add
add_up_to f j k nan y few h g = absurd h.0
add_up_to f j k (inf s) y few h g = absurd h.0
add_up_to f j k (fin s m e) nan few h g = absurd g.0
add_up_to f j k (fin s m e) (inf t) few h g = absurd g.0
add_up_to f j k (fin s m e) (fin t n d) few h g =
    let a = m * up e * down d in
    let b = n * up d * down e in
    let c = down e * down d in
    let x : a ≤ j * c = le_trans (mul-le-mul_right (down d) h.1) (le_of_eq (mul_assoc j (down e) (down d))) in
    let y : b ≤ k * c = le_trans (mul-le-mul_right (down e) g.1) (le_of_eq (mul_assoc k (down d) (down e) ∙ ap (λ (z : ℕ). k * z) (mul_comm (down d) (down e)))) in
    let one = total f s a t b c in
    rw one.rounded
    (round_up_to f one.sign one.size c (j + k) (mul-pos (down_pos e) (down_pos d)) few (le_trans one.few (le_trans (add-le-add x y) (le_of_eq (sym (add-mul j k c))))))

pub sub_up_to : (f : Format) (j k : ℕ) (x y : Float) → j + k ≤ 2 ^ prec f → UpTo j x → UpTo k y → UpTo (j + k) (sub f x y)
unfolding sub
sub_up_to f j k x y few h g = add_up_to f j k x (neg y) few h (neg_up_to k y g)

pub mul_up_to : (f : Format) (j k : ℕ) (x y : Float) → j * k ≤ 2 ^ prec f → UpTo j x → UpTo k y → UpTo (j * k) (mul f x y)
unfolding mul
mul_up_to f j k nan y few h g = absurd h.0
mul_up_to f j k (inf s) y few h g = absurd h.0
mul_up_to f j k (fin s m e) nan few h g = absurd g.0
mul_up_to f j k (fin s m e) (inf t) few h g = absurd g.0
mul_up_to f j k (fin s m e) (fin t n d) few h g =
    round_up_to f (unlike s t) (m * up e * (n * up d)) (down e * down d) (j * k) (mul-pos (down_pos e) (down_pos d)) few
    (le_trans (mul-le-mul h.1 g.1) (le_of_eq (mul-mul-mul_comm j (down e) k (down d))))
