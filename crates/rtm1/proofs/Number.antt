-- A whole number as a tree file has it, and read back; a link likewise. Assumes nothing.
use Prim.Native.Nat.{ℕ, ◌≤◌, ◌<◌, ◌^◌}
use mathlib.Core.Path.{◌≡◌, refl, sym, ap, ◌∙◌}
use mathlib.Core.Bool.{Bool, true, false, cond}
use mathlib.Core.Option.{none, some}
use native.Mathlib.Omega.{arith}
use borrow.Author.Tests.{eqb-true}
use lib.Dec.{eqb, le→leb}
use lib.IntN.{pos}
use lib.Ieee.{binary32, binary64, of_int, of_bits, to_bits, to_unsigned, in_float, round}
use lib.Ieee.Bits.{of_bits-to_bits, to_bits-lt}
use lib.Ieee.Back.{unsigned_back, round_whole}
use lib.Ieee.Fits.{of_int-fits}
use Rattle.float.specs.Number.{num}
use Rattle.float.specs.Narrow.{narrow, narrow_finite, narrowed, float_word}
use Rattle.float.proofs.Kit.{narrow_value, narrowed_value, narrowed_fits}
use Rattle.rtm1.specs.Node.{minus_one, link, number_word}
use Rattle.rtm1.specs.Read.{number_of, link_of}

-- it has 32 bits
pub number_small : (n : ℕ) → number_word n < 4294967296
unfolding number_word float_word
number_small n =
    let e = narrow_value (num n) (of_int-fits binary64 (pos n)) in
    omega (arith, e, to_bits-lt binary32 (narrowed (num n)) (narrowed_fits (num n)))

-- up to 2^24 it is the binary32 of the number
pub number_is : (n : ℕ) → n ≤ 16777216 → number_word n ≡ to_bits binary32 (of_int binary32 (pos n))
unfolding number_word float_word of_int
number_is n h =
    let wide : n ≤ 2 ^ 53 = omega arith in
    narrow_value (num n) (of_int-fits binary64 (pos n))
    ∙ ap (to_bits binary32) (narrowed_value (round binary64 false n 1) false n 1 (omega arith) (round_whole binary64 false n wide))

-- and is read back
pub number_back : (n : ℕ) → n ≤ 16777216 → number_of (number_word n) ≡ n
unfolding number_of in_float
number_back n h =
    ap (λ (w : ℕ). to_unsigned 64 (of_bits binary32 w)) (number_is n h)
    ∙ ap (to_unsigned 64) (of_bits-to_bits binary32 (of_int binary32 (pos n)) (of_int-fits binary32 (pos n)))
    ∙ (unsigned_back binary32 64 n (le→leb n (2 ^ 24) h) (omega arith)).1

-- no further: the next whole number is rounded
pub number_past : number_of (number_word 16777217) ≡ 16777216
unfolding number_of number_word float_word narrow narrow_finite of_int of_bits to_bits to_unsigned
number_past = refl

pub zero_back : number_of 0 ≡ 0
unfolding number_of of_bits to_unsigned
zero_back = refl

zero_is : number_word 0 ≡ 0
unfolding number_word float_word narrow narrow_finite of_int to_bits
zero_is = refl

minus_back : number_of minus_one ≡ 0
unfolding number_of of_bits to_unsigned
minus_back = refl

-- no number is written as −1 is
pub number_not_minus : (n : ℕ) → n ≤ 16777216 → number_word n ≡ minus_one → ⊥
number_not_minus n h e =
    let none : n ≡ 0 = sym (number_back n h) ∙ ap number_of e ∙ minus_back in
    let same : 0 ≡ minus_one = sym zero_is ∙ ap number_word (sym none) ∙ e in
    omega arith

-- ---- links

pub link_small : (b : Bool) (n : ℕ) → link b n < 4294967296
link_small true n = number_small n
link_small false n = omega arith

pub link_none : link_of minus_one ≡ none
unfolding link_of
link_none = refl

-- −1 is none, any other link its place
pub link_back : (b : Bool) (n : ℕ) → n ≤ 16777216 → link_of (link b n) ≡ cond b (some n) none
unfolding link_of
link_back false n h = refl
link_back true n h = go (eqb (number_word n) minus_one) refl
  where
    go : (t : Bool) → eqb (number_word n) minus_one ≡ t → cond t none (some (number_of (number_word n))) ≡ some n
    go true e = absurd (number_not_minus n h (eqb-true (number_word n) minus_one e))
    go false e = ap some (number_back n h)
