-- Sums and products of whole numbers are exact up to 2 ^ prec: 2^53 in binary64. Assumes nothing.
use Prim.Native.Nat.{ℕ, ◌+◌, ◌*◌, ◌^◌, ◌≤◌}
use native.Mathlib.Nat.{mul-one, mul_comm, mul_assoc, mul-pos, add-mul}
use native.Mathlib.Omega.{arith}
use mathlib.Core.Path.{◌≡◌, sym, ap, ap₂, ◌∙◌, subst}
use mathlib.Core.Bool.{Bool, false}
use lib.Ieee.{Float, nan, inf, fin, Format, prec, up, down, round, unlike, sum, add, mul}
use lib.Ieee.Fits.{down_pos}
use lib.Ieee.Back.{round_whole}
use lib.Ieee.Exact.{HasValue}
use lib.Ieee.Scale.{round_same}

pub both_positive : (f : Format) (s t : Bool) (a b c : ℕ) → s ≡ false → t ≡ false → sum f s a t b c ≡ round f false (a + b) c
unfolding sum
both_positive f s t a b c es et = rw (es, et)

-- the sum of two whole numbers is rounded from their sum, and is it where that has no more digits than the format
pub whole_sum : (f : Format) (x y : Float) (n k : ℕ) → HasValue x false n 1 → HasValue y false k 1 → add f x y ≡ round f false (n + k) 1
unfolding add sum
whole_sum f nan y n k h g = absurd h
whole_sum f (inf s) y n k h g = absurd h
whole_sum f (fin s m e) nan n k h g = absurd g
whole_sum f (fin s m e) (inf t) n k h g = absurd g
whole_sum f (fin s m e) (fin t o d) n k h g =
    let c = down e * down d in
    let one : m * up e ≡ n * down e = sym (mul-one (m * up e)) ∙ h.1 in
    let two : o * up d ≡ k * down d = sym (mul-one (o * up d)) ∙ g.1 in
    let a : m * up e * down d ≡ n * c = ap (λ (z : ℕ). z * down d) one ∙ mul_assoc n (down e) (down d) in
    let b : o * up d * down e ≡ k * c = ap (λ (z : ℕ). z * down e) two ∙ mul_assoc k (down d) (down e) ∙ ap (λ (z : ℕ). k * z) (mul_comm (down d) (down e)) in
    let all : (m * up e * down d + o * up d * down e) * 1 ≡ (n + k) * c =
    mul-one _ ∙ ap₂ (λ (u v : ℕ). u + v) a b ∙ sym (add-mul n k c) in
    both_positive f s t _ _ c h.0 g.0
    ∙ round_same f false (m * up e * down d + o * up d * down e) c (n + k) 1 (mul-pos (down_pos e) (down_pos d)) (omega arith) all

pub whole_plus : (f : Format) (x y : Float) (n k : ℕ) → HasValue x false n 1 → HasValue y false k 1 → n + k ≤ 2 ^ prec f → HasValue (add f x y) false (n + k) 1
whole_plus f x y n k h g few = subst (λ (z : Float). HasValue z false (n + k) 1) (sym (whole_sum f x y n k h g)) (round_whole f false (n + k) few)

-- products

pub both_plus : (f : Format) (s t : Bool) (a c : ℕ) → s ≡ false → t ≡ false → round f (unlike s t) a c ≡ round f false a c
both_plus f s t a c es et = rw (es, et)

pub whole_product : (f : Format) (x y : Float) (n k : ℕ) → HasValue x false n 1 → HasValue y false k 1 → mul f x y ≡ round f false (n * k) 1
unfolding mul
whole_product f nan y n k h g = absurd h
whole_product f (inf s) y n k h g = absurd h
whole_product f (fin s m e) nan n k h g = absurd g
whole_product f (fin s m e) (inf t) n k h g = absurd g
whole_product f (fin s m e) (fin t o d) n k h g =
    let c = down e * down d in
    let one : m * up e ≡ n * down e = sym (mul-one (m * up e)) ∙ h.1 in
    let two : o * up d ≡ k * down d = sym (mul-one (o * up d)) ∙ g.1 in
    let cross : n * down e * (k * down d) ≡ n * k * c =
    mul_assoc n (down e) (k * down d) ∙ ap (λ (z : ℕ). n * z) (sym (mul_assoc (down e) k (down d)) ∙ ap (λ (z : ℕ). z * down d) (mul_comm (down e) k) ∙ mul_assoc k (down e) (down d)) ∙ sym (mul_assoc n k c) in
    let all : m * up e * (o * up d) * 1 ≡ n * k * c = mul-one _ ∙ ap₂ (λ (u v : ℕ). u * v) one two ∙ cross in
    both_plus f s t _ c h.0 g.0
    ∙ round_same f false (m * up e * (o * up d)) c (n * k) 1 (mul-pos (down_pos e) (down_pos d)) (omega arith) all

pub whole_times : (f : Format) (x y : Float) (n k : ℕ) → HasValue x false n 1 → HasValue y false k 1 → n * k ≤ 2 ^ prec f → HasValue (mul f x y) false (n * k) 1
whole_times f x y n k h g few = subst (λ (z : Float). HasValue z false (n * k) 1) (sym (whole_product f x y n k h g)) (round_whole f false (n * k) few)
