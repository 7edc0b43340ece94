-- Laws of records within a buffer: one come, one gone. Assumes nothing.
use Prim.Native.Nat.{ℕ, suc, ◌+◌, ◌-◌, ◌*◌, ◌≤◌, ◌<◌}
use mathlib.Core.Path.{◌≡◌, refl, sym, ap, ◌∙◌}
use mathlib.Core.List.{List, ◌++◌, append_assoc}
use native.Mathlib.Omega.{arith}
use lib.ListN.{length, take, drop, replicate, length-drop}
use lib.Seq.{length-take-le, paste}
use Rattle.std.specs.List.{copy_within}
use Rattle.std.proofs.lemmas.List.{drop-drop}
use Rattle.rym1.specs.declared.Point.{Point}
use Rattle.rym1.specs.Bytes.{le, splice}
use Rattle.rym1.specs.File.{count, size, point_bytes}
use Rattle.rym1.specs.Open.{counted}
use Rattle.rym1.specs.Edits.{later_bytes, inserted, removed}
use Rattle.rym1.proofs.Bytes.{length_splice, splice_splice, splice_comm, behind}
use Rattle.rym1.proofs.Points.{length_point}

-- ---- two splices on end: the second right before the first

ahead : (s : List ℕ) {s₁ s₂ : List ℕ} (at : ℕ) (u v : List ℕ) (k : ℕ) → at + length u + length v ≤ length s → at + length u ≡ k
    → s₁ ≡ splice s k v → s₂ ≡ splice s₁ at u → s₂ ≡ splice s at (u ++ v)
ahead s at u v k h e e₁ e₂ =
    e₂ ∙ ap (λ (l : List ℕ). splice l at u) e₁ ∙ sym (splice_comm s at k u v (omega arith) (omega arith)) ∙ splice_splice s at u v k h e

-- ---- a record moved

length_part : (k at : ℕ) (s : List ℕ) → at + k ≤ length s → length (take k (drop at s)) ≡ k
length_part k at s h = length-take-le k (drop at s) (omega (arith, length-drop at s))

-- what a move within the buffer leaves, as a splice
moved : (s : List ℕ) (from to n k : ℕ) → from + n ≤ length s → n ≡ k → paste s to (drop from s) n ≡ splice s to (take k (drop from s))
unfolding splice
moved s from to n k h e =
    let long : length (take k (drop from s)) ≡ k = length_part k from s (omega arith) in
    rw (long, e, append_assoc)

-- ---- a record come or gone

pub come : (f s₁ s₂ s₃ : List ℕ) (i n : ℕ) (p : Point) → n ≡ count f → i ≤ count f → size (suc (count f)) ≤ length f
    → s₁ ≡ copy_within f (64 + 16 * i) (64 + 16 * n) (64 + 16 * i + 16) → s₂ ≡ splice s₁ (64 + 16 * i) (point_bytes p) → s₃ ≡ splice s₂ 12 (le 4 (n + 1))
    → s₃ ≡ inserted f i (point_bytes p)
unfolding inserted later_bytes counted size
come f s₁ s₂ s₃ i n p en h room e₁ e₂ e₃ =
    let at = 64 + 16 * i in
    let later = take (16 * (n - i)) (drop at f) in
    let ll : length later ≡ 16 * (n - i) = length_part (16 * (n - i)) at f (omega arith) in
    let two : s₂ ≡ splice f at (point_bytes p ++ later) = ahead f at (point_bytes p) later (at + 16) (omega (arith, length_point p)) (omega (arith, length_point p))
    (e₁ ∙ moved f at (at + 16) (64 + 16 * n - at) (16 * (n - i)) (omega arith) (omega arith)) e₂ in
    let more : n + 1 ≡ suc (count f) = omega arith in
    e₃ ∙ (λ j. splice (two j) 12 (le 4 (more j))) ∙ ap (λ (m : ℕ). splice (splice f at (point_bytes p ++ take (16 * (m - i)) (drop at f))) 12 (le 4 (suc (count f)))) en

-- a part of the buffer that is filled, as a splice
filled : (s z : List ℕ) (a k : ℕ) → length z ≡ k → take a s ++ (z ++ drop k (drop a s)) ≡ splice s a z
unfolding splice
filled s z a k e = rw (e, drop-drop)

pub gone : (f s₁ z s₃ : List ℕ) (i n : ℕ) → n ≡ count f → i < count f → size (count f) ≤ length f
    → s₁ ≡ copy_within f (64 + 16 * i + 16) (64 + 16 * n) (64 + 16 * i)
    → z ≡ replicate (length (take (64 + 16 * n - (64 + 16 * n - 16)) (drop (64 + 16 * n - 16) s₁))) 0
    → s₃ ≡ splice (take (64 + 16 * n - 16) s₁ ++ (z ++ drop (64 + 16 * n - (64 + 16 * n - 16)) (drop (64 + 16 * n - 16) s₁))) 12 (le 4 (n - 1))
    → s₃ ≡ removed f i
unfolding removed later_bytes counted size
gone f s₁ z s₃ i n en h room e₁ ez e₃ =
    let at = 64 + 16 * i in
    let last = 64 + 16 * n - 16 in
    let width : 64 + 16 * n - last ≡ 16 = omega arith in
    let later = take (16 * (n - i - 1)) (drop (at + 16) f) in
    let ll : length later ≡ 16 * (n - i - 1) = length_part (16 * (n - i - 1)) (at + 16) f (omega arith) in
    let down : s₁ ≡ splice f at later = e₁ ∙ moved f (at + 16) at (64 + 16 * n - (at + 16)) (16 * (n - i - 1)) (omega arith) (omega arith) in
    let long : length s₁ ≡ length f = ap length down ∙ length_splice f at later (omega arith) in
    let zeros : z ≡ replicate 16 0 = ez ∙ ap (λ (m : ℕ). replicate m 0) (ap (λ (m : ℕ). length (take m (drop last s₁))) width ∙ length_part 16 last s₁ (omega arith)) in
    let free : take last s₁ ++ (z ++ drop (64 + 16 * n - last) (drop last s₁)) ≡ splice s₁ last (replicate 16 0) =
    rw (width, zeros) (filled s₁ (replicate 16 0) last 16 refl) in
    let two = behind f at later (replicate 16 0) last (omega arith) (omega arith) down free in
    let next : at + 16 ≡ 64 + 16 * suc i = omega arith in
    let few : n - i - 1 ≡ count f - suc i = omega arith in
    e₃ ∙ (λ j. splice (two j) 12 (le 4 (n - 1)))
    ∙ (λ j. splice (splice f at (take (16 * few j) (drop (next j) f) ++ replicate 16 0)) 12 (le 4 (en j - 1)))
