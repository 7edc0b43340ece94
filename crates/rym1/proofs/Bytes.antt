-- Laws of little-endian numbers in a list of bytes, and of splices. Assumes nothing.
use Prim.Native.Nat.{ℕ, zero, suc, ◌+◌, ◌-◌, ◌*◌, ◌/◌, ◌%◌, ◌^◌, ◌≤◌, ◌<◌}
use mathlib.Core.Path.{◌≡◌, refl, sym, ap, ◌∙◌}
use mathlib.Core.List.{List, [], ◌∷◌, ◌++◌, append_assoc}
use native.Mathlib.Nat.{add-zero, zero-add, suc-add, add_assoc, mul_comm, mul_assoc, pow-suc, mod-eq_of_lt, one-le-pow, div-one, div-div-eq-div-mul}
use native.Mathlib.Numerals.{add-one}
use native.Mathlib.Omega.{arith}
use lib.ListN.{length, get_or, set, take, drop, length-append, length-drop, take-append-drop, get_or-append}
use lib.Seq.{sets, sets-eq, length-take-le, take_at, drop_at, take-append-le, drop-append-le, take-append-add, drop-append-add, drop-drop, take-add}
use lib.Seq.{take-suc, take-take, drop-cons, get_or-take, get_or-drop, get_or-append-add}
use lib.Arith.{digits_div, digits_mod, mod-mul}
use borrow.Rule.Slice.PartMut.{put_mid}
use Rattle.rym1.specs.Bytes.{word, le, words_bytes, splice}

-- every element is a byte
abbrev pub AllBytes : List ℕ → Type 0
AllBytes s = (i : ℕ) → get_or s i 0 < 256

-- ---- a number as bytes

pub length_le : (k n : ℕ) → length (le k n) ≡ k
unfolding le
length_le zero n = refl
length_le (suc k) n = ap suc (length_le k (n / 256))

pub le_bytes : (k n : ℕ) → AllBytes (le k n)
unfolding le
le_bytes zero n i = omega arith
le_bytes (suc k) n zero = omega arith
le_bytes (suc k) n (suc i) = le_bytes k (n / 256) i

-- one byte more: the low byte, and what the others hold
mod_pow : (k n : ℕ) → n % 256 ^ suc k ≡ (n / 256 % 256 ^ k) * 256 + n % 256
mod_pow k n = rw (pow-suc 256 k) (mod-mul n (one-le-pow k 256 (omega arith)) (omega arith))

pub le_mod : (k n : ℕ) → le k (n % 256 ^ k) ≡ le k n
unfolding le
le_mod zero n = refl
le_mod (suc k) n =
    let low : n % 256 < 256 = omega arith in
    let high : le k (n / 256 % 256 ^ k) ≡ le k (n / 256) = le_mod k (n / 256) in
    rw (mod_pow k n, digits_mod (n / 256 % 256 ^ k) low, digits_div (n / 256 % 256 ^ k) low, high)

-- a number in two parts
pub le_add : (j k n : ℕ) → le (j + k) n ≡ le j n ++ le k (n / 256 ^ j)
unfolding le
le_add zero k n = rw (zero-add k, div-one n)
le_add (suc j) k n =
    let e : n / 256 ^ suc j ≡ n / 256 / 256 ^ j = rw (pow-suc 256 j, mul_comm (256 ^ j) 256) (sym (div-div-eq-div-mul n 256 (256 ^ j))) in
    rw (suc-add j k, e, le_add j k (n / 256))

-- of a number made of two
pub le_digits : (j k q r : ℕ) → r < 256 ^ j → le (j + k) (q * 256 ^ j + r) ≡ le j r ++ le k q
le_digits j k q r low =
    let front : le j (q * 256 ^ j + r) ≡ le j r = sym (le_mod j (q * 256 ^ j + r)) ∙ ap (le j) (digits_mod q low) in
    le_add j k (q * 256 ^ j + r) ∙ rw (front, digits_div q low)

-- ---- a number in a list of bytes

-- the bytes that are read decide
pub word_same : (k : ℕ) (s t : List ℕ) (i j : ℕ) → ((m : ℕ) → m < k → get_or s (i + m) 0 ≡ get_or t (j + m) 0) → word k s i ≡ word k t j
unfolding word
word_same zero s t i j h = refl
word_same (suc k) s t i j h =
    let low : get_or s i 0 ≡ get_or t j 0 = rw (add-zero i, add-zero j) at (h 0 (omega arith)) in
    let high : word k s (i + 1) ≡ word k t (j + 1) =
    word_same k s t (i + 1) (j + 1) (λ m b. rw (add_assoc i 1 m, add_assoc j 1 m) (h (1 + m) (omega arith))) in
    rw (low, high)

pub word_take : (k n : ℕ) (s : List ℕ) (at : ℕ) → at + k ≤ n → word k (take n s) at ≡ word k s at
word_take k n s at h = word_same k (take n s) s at at (λ m b. get_or-take n s (at + m) 0 (omega arith))

pub word_append_left : (k : ℕ) (p q : List ℕ) (at : ℕ) → at + k ≤ length p → word k (p ++ q) at ≡ word k p at
word_append_left k p q at h = word_same k (p ++ q) p at at (λ m b. get_or-append p q 0 (at + m) (omega arith))

pub word_append_right : (k : ℕ) (p q : List ℕ) (at : ℕ) → word k (p ++ q) (length p + at) ≡ word k q at
word_append_right k p q at =
    word_same k (p ++ q) q (length p + at) at (λ m b. rw (add_assoc (length p) at m) (get_or-append-add p q (at + m) 0))

pub word_lt : (k : ℕ) (s : List ℕ) (at : ℕ) → AllBytes s → word k s at < 256 ^ k
unfolding word
word_lt zero s at h = omega arith
word_lt (suc k) s at h = rw (pow-suc 256 k) (omega (arith, h at, word_lt k s (at + 1) h))

-- a number in two parts
pub word_add : (j k : ℕ) (s : List ℕ) (at : ℕ) → word (j + k) s at ≡ word j s at + 256 ^ j * word k s (at + j)
unfolding word
word_add zero k s at = rw (zero-add k, add-zero at) (omega arith)
word_add (suc j) k s at =
    let e : at + suc j ≡ at + 1 + j = omega arith in
    let e1 : 256 ^ j * 256 * word k s (at + 1 + j) ≡ 256 * (256 ^ j * word k s (at + 1 + j)) =
    rw (mul_comm (256 ^ j) 256) (mul_assoc 256 (256 ^ j) (word k s (at + 1 + j))) in
    rw (suc-add j k, e, pow-suc 256 j, e1, word_add j k s (at + 1)) (omega arith)

-- as the code reads it
pub read2 : (s : List ℕ) (at : ℕ) → word 2 s at ≡ get_or s at 0 + 256 * get_or s (at + 1) 0
unfolding word
read2 s at = omega arith

pub read4 : (s : List ℕ) (at : ℕ) → word 4 s at ≡ get_or s at 0 + 256 * get_or s (at + 1) 0 + 65536 * get_or s (at + 2) 0 + 16777216 * get_or s (at + 3) 0
unfolding word
read4 s at = rw (add_assoc at 1 1, add_assoc at 2 1) (omega arith)

-- what was written is read
le_zero : (k n : ℕ) (q : List ℕ) → word k (le k n ++ q) 0 ≡ n % 256 ^ k
unfolding word le
le_zero zero n q = omega arith
le_zero (suc k) n q =
    let high : word k (n % 256 ∷ le k (n / 256) ++ q) 1 ≡ n / 256 % 256 ^ k =
    word_append_right k (n % 256 ∷ []) (le k (n / 256) ++ q) 0 ∙ le_zero k (n / 256) q in
    rw (high, mod_pow k n) (omega arith)

pub word_le : (k n : ℕ) (p q : List ℕ) (at : ℕ) → length p ≡ at → word k (p ++ (le k n ++ q)) at ≡ n % 256 ^ k
word_le k n p q at e =
    let e0 : at ≡ length p + 0 = omega arith in
    rw e0 (word_append_right k p (le k n ++ q) 0 ∙ le_zero k n q)

pub word_le_fits : (k n : ℕ) (p q : List ℕ) (at : ℕ) → length p ≡ at → n < 256 ^ k → word k (p ++ (le k n ++ q)) at ≡ n
word_le_fits k n p q at e h = word_le k n p q at e ∙ mod-eq_of_lt h

-- what was read is written
pub le_word : (k : ℕ) (s : List ℕ) (at : ℕ) → AllBytes s → at + k ≤ length s → le k (word k s at) ≡ take k (drop at s)
unfolding word le
le_word zero s at h b = refl
le_word (suc k) s at h b =
    let g : ℕ = get_or s at 0 in
    let w : ℕ = word k s (at + 1) in
    let low : (g + 256 * w) % 256 ≡ g = omega (arith, h at) in
    let high : (g + 256 * w) / 256 ≡ w = omega (arith, h at) in
    let tail : le k w ≡ take k (drop (at + 1) s) = le_word k s (at + 1) h (omega arith) in
    rw (low, high, tail, drop-cons s at 0 (omega arith), add-one at)

-- ---- splices

pub length_splice : (s : List ℕ) (at : ℕ) (new : List ℕ) → at + length new ≤ length s → length (splice s at new) ≡ length s
unfolding splice
length_splice s at new h =
    let front : length (take at s) ≡ at = length-take-le at s (omega arith) in
    simp (length-append, front, length-drop) (omega arith)

pub splice_none : (s : List ℕ) (at : ℕ) → splice s at [] ≡ s
unfolding splice
splice_none s at = rw (add-zero at) (take-append-drop at s)

-- a splice in one part of a list
pub splice_append_left : (p q : List ℕ) (at : ℕ) (new : List ℕ) → at + length new ≤ length p → splice (p ++ q) at new ≡ splice p at new ++ q
unfolding splice
splice_append_left p q at new h =
    let front : at ≤ length p = omega arith in
    rw (take-append-le at p q front, drop-append-le (at + length new) p q h) (simp append_assoc)

pub splice_append_right : (p q : List ℕ) (at : ℕ) (new : List ℕ) → splice (p ++ q) (length p + at) new ≡ p ++ splice q at new
unfolding splice
splice_append_right p q at new =
    rw (take-append-add p q at, add_assoc (length p) at (length new), drop-append-add p q (at + length new)) (simp append_assoc)

-- what a splice leaves
pub take_splice : (n : ℕ) (s : List ℕ) (at : ℕ) (new : List ℕ) → n ≤ at → at ≤ length s → take n (splice s at new) ≡ take n s
unfolding splice
take_splice n s at new h b =
    let front : length (take at s) ≡ at = length-take-le at s b in
    take-append-le n (take at s) (new ++ drop (at + length new) s) (omega arith) ∙ take-take n at s h

pub drop_splice : (n : ℕ) (s : List ℕ) (at : ℕ) (new : List ℕ) → at + length new ≤ n → at ≤ length s → drop n (splice s at new) ≡ drop n s
unfolding splice
drop_splice n s at new h b =
    let p : List ℕ = take at s ++ new in
    let back : List ℕ = drop (at + length new) s in
    let lp : length p ≡ at + length new = length-append (take at s) new ∙ ap (λ (m : ℕ). m + length new) (length-take-le at s b) in
    let en : n ≡ length p + (n - (at + length new)) = omega arith in
    let e : at + length new + (n - (at + length new)) ≡ n = omega arith in
    let e1 : drop n (p ++ back) ≡ drop (n - (at + length new)) back =
    ap (λ (m : ℕ). drop m (p ++ back)) en ∙ drop-append-add p back (n - (at + length new)) in
    ap (drop n) (sym (append_assoc (take at s) new back)) ∙ e1
    ∙ drop-drop (n - (at + length new)) (at + length new) s ∙ ap (λ (m : ℕ). drop m s) e

-- what a splice puts in
pub part_splice : (s : List ℕ) (at : ℕ) (new : List ℕ) → at ≤ length s → take (length new) (drop at (splice s at new)) ≡ new
unfolding splice
part_splice s at new b =
    let front : length (take at s) ≡ at = length-take-le at s b in
    rw (drop_at (take at s) (new ++ drop (at + length new) s) at front) (take_at new (drop (at + length new) s) (length new) refl)

-- the same of one element
pub splice_before : (s : List ℕ) (at : ℕ) (new : List ℕ) (i : ℕ) → i < at → at ≤ length s → get_or (splice s at new) i 0 ≡ get_or s i 0
splice_before s at new i h b =
    let part : take at (splice s at new) ≡ take at s = take_splice at s at new (omega arith) b in
    sym (get_or-take at (splice s at new) i 0 h) ∙ rw part (get_or-take at s i 0 h)

pub splice_behind : (s : List ℕ) (at : ℕ) (new : List ℕ) (i : ℕ) → at + length new ≤ i → at ≤ length s → get_or (splice s at new) i 0 ≡ get_or s i 0
splice_behind s at new i h b =
    let parts : get_or (splice s at new) (i + 0) 0 ≡ get_or s (i + 0) 0 =
    sym (get_or-drop i (splice s at new) 0 0) ∙ rw (drop_splice i s at new h b) (get_or-drop i s 0 0) in
    rw (add-zero i) at parts

pub splice_inside : (s : List ℕ) (at : ℕ) (new : List ℕ) (i : ℕ) → i < length new → at ≤ length s → get_or (splice s at new) (at + i) 0 ≡ get_or new i 0
splice_inside s at new i h b =
    sym (get_or-drop at (splice s at new) i 0) ∙ sym (get_or-take (length new) (drop at (splice s at new)) i 0 h) ∙ rw (part_splice s at new b)

-- and of a number
pub word_splice_before : (k : ℕ) (s : List ℕ) (at : ℕ) (new : List ℕ) (i : ℕ) → i + k ≤ at → at ≤ length s → word k (splice s at new) i ≡ word k s i
word_splice_before k s at new i h b = word_same k (splice s at new) s i i (λ m c. splice_before s at new (i + m) (omega arith) b)

pub word_splice_behind : (k : ℕ) (s : List ℕ) (at : ℕ) (new : List ℕ) (i : ℕ) → at + length new ≤ i → at ≤ length s → word k (splice s at new) i ≡ word k s i
word_splice_behind k s at new i h b = word_same k (splice s at new) s i i (λ m c. splice_behind s at new (i + m) (omega arith) b)

-- a number read where it was written
pub word_splice_same : (k n : ℕ) (s : List ℕ) (at : ℕ) → at + k ≤ length s → word k (splice s at (le k n)) at ≡ n % 256 ^ k
unfolding splice
word_splice_same k n s at h = word_le k n (take at s) (drop (at + length (le k n)) s) at (length-take-le at s (omega arith))

pub word_splice_fits : (k n : ℕ) (s : List ℕ) (at : ℕ) → at + k ≤ length s → n < 256 ^ k → word k (splice s at (le k n)) at ≡ n
word_splice_fits k n s at h b = word_splice_same k n s at h ∙ mod-eq_of_lt b

-- what was read, written again
pub splice_word : (k : ℕ) (s : List ℕ) (at : ℕ) → AllBytes s → at + k ≤ length s → splice s at (le k (word k s at)) ≡ s
unfolding splice
splice_word k s at h b =
    let parts : take at s ++ (take k (drop at s) ++ drop k (drop at s)) ≡ s =
    rw (take-append-drop k (drop at s)) (take-append-drop at s) in
    rw (length_le k (word k s at), le_word k s at h b, ← drop-drop k at s) parts

-- a write over another, one right behind it, and two apart
pub splice_over : (s : List ℕ) (at : ℕ) (u v : List ℕ) → length u ≡ length v → at ≤ length s → splice (splice s at u) at v ≡ splice s at v
splice_over s at u v e b =
    let front : take at (splice s at u) ≡ take at s = take_splice at s at u (omega arith) b in
    let back : drop (at + length v) (splice s at u) ≡ drop (at + length v) s = drop_splice (at + length v) s at u (omega arith) b in
    let split : (t : List ℕ) → splice t at v ≡ take at t ++ (v ++ drop (at + length v) t) = λ t. unfold splice in refl in
    rw (split (splice s at u), front, back, split s)

pub splice_splice : (s : List ℕ) (at : ℕ) (u v : List ℕ) (k : ℕ) → at + length u + length v ≤ length s → at + length u ≡ k → splice (splice s at u) k v ≡ splice s at (u ++ v)
unfolding splice
splice_splice s at u v k h e =
    let p : List ℕ = take at s ++ u in
    let back : List ℕ = drop (at + length u) s in
    let lp : length p ≡ k = length-append (take at s) u ∙ ap (λ (n : ℕ). n + length u) (length-take-le at s (omega arith)) ∙ e in
    let whole : take at s ++ (u ++ back) ≡ p ++ back = sym (append_assoc (take at s) u back) in
    let e1 : drop (k + length v) (p ++ back) ≡ drop (length v) back = rw (← lp) (drop-append-add p back (length v)) in
    let e2 : at + length u + length v ≡ at + length (u ++ v) = omega (arith, length-append u v) in
    let e3 : drop (length v) back ≡ drop (at + length (u ++ v)) s = rw e2 at (drop-drop (length v) (at + length u) s) in
    rw (whole, take_at p back k lp, e1, e3) (simp append_assoc)

splice_seam : (p q : List ℕ) (at : ℕ) (new : List ℕ) → length p ≡ at → splice (p ++ q) at new ≡ p ++ splice q 0 new
splice_seam p q at new e =
    let e0 : at ≡ length p + 0 = omega arith in
    rw e0 (splice_append_right p q 0 new)

pub splice_comm : (s : List ℕ) (i j : ℕ) (u v : List ℕ) → i + length u ≤ j → j + length v ≤ length s → splice (splice s i u) j v ≡ splice (splice s j v) i u
splice_comm s i j u v h b =
    let p : List ℕ = take j s in
    let q : List ℕ = drop j s in
    let lp : length p ≡ j = length-take-le j s (omega arith) in
    let low : (t : List ℕ) → splice (p ++ t) i u ≡ splice p i u ++ t = λ t. splice_append_left p t i u (omega arith) in
    let lu : length (splice p i u) ≡ j = length_splice p i u (omega arith) ∙ lp in
    rw (← take-append-drop j s, low q, splice_seam (splice p i u) q j v lu, splice_seam p q j v lp, low (splice q 0 v))

-- ---- bytes stay bytes

pub take_bytes : (n : ℕ) (s : List ℕ) → AllBytes s → AllBytes (take n s)
take_bytes zero s h i = omega arith
take_bytes (suc n) [] h i = omega arith
take_bytes (suc n) (x ∷ s) h zero = h 0
take_bytes (suc n) (x ∷ s) h (suc i) = take_bytes n s (λ j. h (suc j)) i

-- ---- stores

pub stores : (s : List ℕ) (at : ℕ) (new : List ℕ) → at + length new ≤ length s → sets s at new ≡ splice s at new
unfolding splice
stores s at new h = sets-eq new s at h ∙ append_assoc (take at s) new (drop (at + length new) s)

-- a part of a slice put back, with what was written into it
pub put_splice : (s new : List ℕ) (at k : ℕ) → length new ≡ k → put_mid at (at + k - at) s new ≡ splice s at new
unfolding splice
put_splice s new at k e =
    let n : at + k - at ≡ k = omega arith in
    rw (n, e, drop-drop k at s) refl

-- two splices on end: the second right behind the first
pub behind : (s : List ℕ) {s₁ s₂ : List ℕ} (at : ℕ) (u v : List ℕ) (k : ℕ) → at + length u + length v ≤ length s → at + length u ≡ k
    → s₁ ≡ splice s at u → s₂ ≡ splice s₁ k v → s₂ ≡ splice s at (u ++ v)
behind s at u v k h e e₁ e₂ = e₂ ∙ ap (λ (l : List ℕ). splice l k v) e₁ ∙ splice_splice s at u v k h e

-- a store right behind a splice
pub splice_snoc : (s : List ℕ) (at : ℕ) (new : List ℕ) (v k : ℕ) → at + length new < length s → at + length new ≡ k → set (splice s at new) k v ≡ splice s at (new ++ (v ∷ []))
splice_snoc s at new v k h e =
    let l : length (splice s at new) ≡ length s = length_splice s at new (omega arith) in
    let one : set (splice s at new) k v ≡ splice (splice s at new) k (v ∷ []) = stores (splice s at new) k (v ∷ []) (omega arith) in
    one ∙ splice_splice s at new (v ∷ []) k (omega arith) e

-- ---- parts

-- a part and the part behind it
pub part_part : (j k : ℕ) (s : List ℕ) (at : ℕ) → take j (drop at s) ++ take k (drop (at + j) s) ≡ take (j + k) (drop at s)
part_part j k s at = rw (← drop-drop j at s) (sym (take-add j k (drop at s)))

-- a number that is read and written again, in two parts
pub le_parts : (j k : ℕ) (s : List ℕ) (at : ℕ) → AllBytes s → at + (j + k) ≤ length s → le (j + k) (word (j + k) s at) ≡ le j (word j s at) ++ le k (word k s (at + j))
le_parts j k s at all h =
    rw (le_word (j + k) s at all h, le_word j s at all (omega arith), le_word k s (at + j) all (omega arith)) (sym (part_part j k s at))

-- a splice within what a splice brought
pub splice_in : (s : List ℕ) (at : ℕ) (u : List ℕ) (k : ℕ) (v : List ℕ) → at ≤ length s → k + length v ≤ length u → splice (splice s at u) (at + k) v ≡ splice s at (splice u k v)
unfolding splice
splice_in s at u k v h b =
    let p = take at s in
    let long : length p ≡ at = length-take-le at s h in
    let d = drop (at + length u) s in
    let right = rw long at (splice_append_right p (u ++ d) k v) in
    right ∙ ap (λ (l : List ℕ). p ++ l) (splice_append_left u d k v b) ∙ rw (length_splice u k v b)

-- ---- words

pub length_words : (ws : List ℕ) → length (words_bytes ws) ≡ 4 * length ws
unfolding words_bytes
length_words [] = refl
length_words (w ∷ ws) = let rest = length_words ws in omega (arith, length-append (le 4 w) (words_bytes ws), length_le 4 w)

pub words_append : (a b : List ℕ) → words_bytes (a ++ b) ≡ words_bytes a ++ words_bytes b
unfolding words_bytes
words_append [] b = refl
words_append (w ∷ a) b = rw (words_append a b) (sym (append_assoc (le 4 w) (words_bytes a) (words_bytes b)))

-- a word that was written is read
pub word_at : (ws q : List ℕ) (i : ℕ) → i < length ws → get_or ws i 0 < 4294967296 → word 4 (words_bytes ws ++ q) (4 * i) ≡ get_or ws i 0
unfolding words_bytes
word_at [] q i h low = absurd (omega arith)
word_at (w ∷ ws) q zero h low = rw (append_assoc (le 4 w) (words_bytes ws) q) (word_le_fits 4 w [] (words_bytes ws ++ q) 0 refl low)
word_at (w ∷ ws) q (suc i) h low =
    let there : 4 * suc i ≡ length (le 4 w) + 4 * i = omega (arith, length_le 4 w) in
    rw (append_assoc (le 4 w) (words_bytes ws) q, there)
    (word_append_right 4 (le 4 w) (words_bytes ws ++ q) (4 * i) ∙ word_at ws q i (omega arith) low)

-- one word
one_word : (w : ℕ) → words_bytes (w ∷ []) ≡ le 4 w
unfolding words_bytes le
one_word w = refl

-- a loop that writes the words of a list one by one
pub words_more : (s : List ℕ) (at : ℕ) (ws : List ℕ) (i k : ℕ) → i < length ws → at + 4 * length ws ≤ length s → k ≡ at + 4 * i
    → splice (splice s at (words_bytes (take i ws))) k (le 4 (get_or ws i 0)) ≡ splice s at (words_bytes (take (i + 1) ws))
words_more s at ws i k h room e =
    let long : length (words_bytes (take i ws)) ≡ 4 * i = length_words (take i ws) ∙ ap (λ (n : ℕ). 4 * n) (length-take-le i ws (omega arith)) in
    let more : take (i + 1) ws ≡ take i ws ++ (get_or ws i 0 ∷ []) = rw (add-one i) (take-suc ws i 0 h) in
    let bytes : words_bytes (take (i + 1) ws) ≡ words_bytes (take i ws) ++ le 4 (get_or ws i 0) =
    ap words_bytes more ∙ words_append (take i ws) (get_or ws i 0 ∷ []) ∙ ap (λ (l : List ℕ). words_bytes (take i ws) ++ l) (one_word (get_or ws i 0)) in
    rw bytes
    (splice_splice s at (words_bytes (take i ws)) (le 4 (get_or ws i 0)) k (omega (arith, length_le 4 (get_or ws i 0))) (omega arith))
