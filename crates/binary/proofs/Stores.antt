-- The library's bytes of a number are its little-endian bytes. Assumes nothing.
use Prim.Native.Nat.{ℕ, zero, suc, ◌+◌, ◌-◌, ◌/◌, ◌%◌, ◌^◌}
use mathlib.Core.Path.{◌≡◌, refl, sym, ap, ap₂, ◌∙◌}
use mathlib.Core.List.{List, ◌∷◌}
use native.Mathlib.Nat.{pow-suc, div-one, div-div-eq-div-mul}
use lib.ListN.{length}
use borrow.Rule.Slice.PartMut.{put_mid}
use Rattle.std.specs.Int.{byte_at, bytes_low_first}
use Rattle.rym1.specs.Bytes.{le, splice}
use Rattle.rym1.proofs.Bytes.{length_le, put_splice}

byte_is : (i n : ℕ) → byte_at i n ≡ n / 256 ^ i % 256
byte_is zero n = rw (div-one n) refl
byte_is (suc i) n = refl

pub bytes_are : (i k n : ℕ) → bytes_low_first i k n ≡ le k (n / 256 ^ i)
unfolding le
bytes_are i zero n = refl
bytes_are i (suc k) n =
    let next : n / 256 ^ suc i ≡ n / 256 ^ i / 256 = rw (pow-suc 256 i) (sym (div-div-eq-div-mul n (256 ^ i) 256)) in
    ap₂ (λ (b : ℕ) (l : List ℕ). b ∷ l) (byte_is i n) (bytes_are (suc i) k n ∙ ap (le k) next)

-- as a store has them
pub stored : (s new : List ℕ) (at k n : ℕ) → new ≡ bytes_low_first 0 k n → put_mid at (at + k - at) s new ≡ splice s at (le k n)
stored s new at k n e =
    let bytes : new ≡ le k n = e ∙ bytes_are 0 k n ∙ ap (le k) (div-one n) in
    put_splice s new at k (ap length bytes ∙ length_le k n) ∙ ap (splice s at) bytes
