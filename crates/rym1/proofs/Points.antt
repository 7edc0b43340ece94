-- Laws of records as bytes: what is read of records that were written, and what reading and writing leaves. Assumes nothing.
use Prim.Native.Nat.{ℕ, zero, suc, ◌+◌, ◌*◌, ◌%◌, ◌≤◌, ◌<◌}
use mathlib.Core.Path.{◌≡◌, refl, sym, ap, ◌∙◌}
use mathlib.Core.List.{List, [], ◌∷◌, ◌++◌, append_assoc}
use native.Mathlib.Nat.{add-zero, add_assoc}
use native.Mathlib.Omega.{arith}
use lib.ListN.{length, take, drop, length-append}
use Rattle.rym1.specs.declared.Point.{Point}
use Rattle.rym1.specs.Bytes.{word, le, splice}
use Rattle.rym1.specs.File.{point_at, points_at, point_bytes, points_bytes}
use Rattle.rym1.proofs.Bytes.{AllBytes, le_mod, le_digits, le_word, word_append_left, word_append_right, word_le_fits, behind, part_part}

-- each number fits its bytes
pub record Fits (p : Point) : Type 0 where
  pub x : p.x < 65536
  pub y : p.y < 65536
  pub z : p.z < 65536
  pub pad : p.pad < 65536
  pub cauchy : p.cauchy < 4294967296
  pub elliptic : p.elliptic < 4294967296

abbrev pub AllFit : List Point → Type 0
AllFit [] = Unit {0}
AllFit (p ∷ ps) = Fits p × AllFit ps

pub same_point : (p q : Point) → p.x ≡ q.x → p.y ≡ q.y → p.z ≡ q.z → p.pad ≡ q.pad → p.cauchy ≡ q.cauchy → p.elliptic ≡ q.elliptic → p ≡ q
same_point p q x y z pad a b = λ i. record { x = x i; y = y i; z = z i; pad = pad i; cauchy = a i; elliptic = b i }

-- ---- one record

pub length_point : (p : Point) → length (point_bytes p) ≡ 16
unfolding point_bytes le
length_point p = refl

-- sixteen bytes stand wherever they are read
pub point_behind : (p b q : List ℕ) (at : ℕ) → length p ≡ at → length b ≡ 16 → point_at (p ++ (b ++ q)) at ≡ point_at b 0
unfolding point_at
point_behind p b q at e l =
    same_point _ _ (field0 2 (omega arith)) (field 2 2 (omega arith)) (field 2 4 (omega arith)) (field 2 6 (omega arith)) (field 4 8 (omega arith)) (field 4 12 (omega arith))
  where
    field : (k off : ℕ) → off + k ≤ 16 → word k (p ++ (b ++ q)) (at + off) ≡ word k b off
    field k off h = rw (← e) (word_append_right k p (b ++ q) off ∙ word_append_left k b q off (omega arith))

    field0 : (k : ℕ) → k ≤ 16 → word k (p ++ (b ++ q)) at ≡ word k b 0
    field0 k h = rw (add-zero at) at (field k 0 (omega arith))

point_zero : (p : Point) → Fits p → point_at (point_bytes p) 0 ≡ p
unfolding point_at point_bytes le
point_zero p h =
    let x = p.x in
    let y = p.y in
    let z = p.z in
    let pad = p.pad in
    let a = p.cauchy in
    let b = p.elliptic in
    same_point _ p
    (word_le_fits 2 x [] (le 2 y ++ (le 2 z ++ (le 2 pad ++ (le 4 a ++ le 4 b)))) 0 refl h.x)
    (word_le_fits 2 y (le 2 x) (le 2 z ++ (le 2 pad ++ (le 4 a ++ le 4 b))) 2 refl h.y)
    (word_le_fits 2 z (le 2 x ++ le 2 y) (le 2 pad ++ (le 4 a ++ le 4 b)) 4 refl h.z)
    (word_le_fits 2 pad (le 2 x ++ (le 2 y ++ le 2 z)) (le 4 a ++ le 4 b) 6 refl h.pad)
    (word_le_fits 4 a (le 2 x ++ (le 2 y ++ (le 2 z ++ le 2 pad))) (le 4 b) 8 refl h.cauchy)
    (word_le_fits 4 b (le 2 x ++ (le 2 y ++ (le 2 z ++ (le 2 pad ++ le 4 a)))) [] 12 refl h.elliptic)

-- what was written is read
pub point_at_law : (p : List ℕ) (r : Point) (q : List ℕ) (at : ℕ) → length p ≡ at → Fits r → point_at (p ++ (point_bytes r ++ q)) at ≡ r
point_at_law p r q at e h = point_behind p (point_bytes r) q at e (length_point r) ∙ point_zero r h

-- what is read and written again is what stood there
pub point_bytes_law : (f : List ℕ) (at : ℕ) → AllBytes f → at + 16 ≤ length f → point_bytes (point_at f at) ≡ take 16 (drop at f)
unfolding point_at point_bytes
point_bytes_law f at all h =
    rw (
      le_word 2 f at all (omega arith),
      le_word 2 f (at + 2) all (omega arith),
      le_word 2 f (at + 4) all (omega arith),
      le_word 2 f (at + 6) all (omega arith),
      le_word 4 f (at + 8) all (omega arith),
      le_word 4 f (at + 12) all (omega arith),
    )
    (rw (add-zero at) at (joined 2 14 0 (joined 2 12 2 (joined 2 10 4 (joined 2 8 6 (joined 4 4 8 refl))))))
  where
    joined : (j k off : ℕ) {t : List ℕ} → t ≡ take k (drop (at + (off + j)) f) → take j (drop (at + off) f) ++ t ≡ take (j + k) (drop (at + off) f)
    joined j k off e = rw (e, ← add_assoc at off j) (part_part j k f (at + off))

-- ---- records on end

pub length_points : (ps : List Point) → length (points_bytes ps) ≡ 16 * length ps
unfolding points_bytes
length_points [] = refl
length_points (p ∷ ps) = length-append (point_bytes p) (points_bytes ps) ∙ omega (arith, length_point p, length_points ps)

pub points_append : (ps qs : List Point) → points_bytes (ps ++ qs) ≡ points_bytes ps ++ points_bytes qs
unfolding points_bytes
points_append [] qs = refl
points_append (p ∷ ps) qs = rw (points_append ps qs) (sym (append_assoc (point_bytes p) (points_bytes ps) (points_bytes qs)))

pub length_points_at : (f : List ℕ) (at n : ℕ) → length (points_at f at n) ≡ n
unfolding points_at
length_points_at f at zero = refl
length_points_at f at (suc n) = ap suc (length_points_at f (at + 16) n)

pub points_at_law : (p : List ℕ) (rs : List Point) (q : List ℕ) (at : ℕ) → length p ≡ at → AllFit rs → points_at (p ++ (points_bytes rs ++ q)) at (length rs) ≡ rs
unfolding points_at points_bytes
points_at_law p [] q at e h = refl
points_at_law p (r ∷ rs) q at e h =
    let e2 : length (p ++ point_bytes r) ≡ at + 16 = length-append p (point_bytes r) ∙ omega (arith, length_point r) in
    let split : p ++ ((point_bytes r ++ points_bytes rs) ++ q) ≡ (p ++ point_bytes r) ++ (points_bytes rs ++ q) = simp append_assoc in
    let head : point_at (p ++ ((point_bytes r ++ points_bytes rs) ++ q)) at ≡ r =
    rw (append_assoc (point_bytes r) (points_bytes rs) q) (point_at_law p r (points_bytes rs ++ q) at e h.0) in
    let tail : points_at (p ++ ((point_bytes r ++ points_bytes rs) ++ q)) (at + 16) (length rs) ≡ rs =
    rw split (points_at_law (p ++ point_bytes r) rs q (at + 16) e2 h.1) in
    λ i. head i ∷ tail i

pub points_bytes_law : (f : List ℕ) (at n : ℕ) → AllBytes f → at + 16 * n ≤ length f → points_bytes (points_at f at n) ≡ take (16 * n) (drop at f)
unfolding points_at points_bytes
points_bytes_law f at zero all h = refl
points_bytes_law f at (suc n) all h =
    let more : 16 * suc n ≡ 16 + 16 * n = omega arith in
    rw (point_bytes_law f at all (omega arith), points_bytes_law f (at + 16) n all (omega arith), more) (part_part 16 (16 * n) f at)

-- ---- a record written

-- its first eight bytes, as the number that is written there
pub place_bytes : (p : Point) → le 8 (((p.pad % 65536 * 65536 + p.z % 65536) * 65536 + p.y % 65536) * 65536 + p.x % 65536) ≡ le 2 p.x ++ (le 2 p.y ++ (le 2 p.z ++ le 2 p.pad))
place_bytes p =
    let low : (n : ℕ) → n % 65536 < 65536 = λ n. omega arith in
    let part : (k q n : ℕ) → le (2 + k) (q * 65536 + n % 65536) ≡ le 2 n ++ le k q = λ k q n. le_digits 2 k q (n % 65536) (low n) ∙ ap (λ (l : List ℕ). l ++ le k q) (le_mod 2 n) in
    part 6 ((p.pad % 65536 * 65536 + p.z % 65536) * 65536 + p.y % 65536) p.x
    ∙ ap (λ (l : List ℕ). le 2 p.x ++ l) (part 4 (p.pad % 65536 * 65536 + p.z % 65536) p.y
    ∙ ap (λ (l : List ℕ). le 2 p.y ++ l) (part 2 (p.pad % 65536) p.z
    ∙ ap (λ (l : List ℕ). le 2 p.z ++ l) (le_mod 2 p.pad)))

pub point_stores : (s s₁ s₂ s₃ : List ℕ) (at n : ℕ) (p : Point) → at + 16 ≤ length s → le 8 n ≡ le 2 p.x ++ (le 2 p.y ++ (le 2 p.z ++ le 2 p.pad))
    → s₁ ≡ splice s at (le 8 n) → s₂ ≡ splice s₁ (at + 8) (le 4 p.cauchy) → s₃ ≡ splice s₂ (at + 12) (le 4 p.elliptic) → s₃ ≡ splice s at (point_bytes p)
unfolding point_bytes le
point_stores s s₁ s₂ s₃ at n p h is e₁ e₂ e₃ =
    let place = le 2 p.x ++ (le 2 p.y ++ (le 2 p.z ++ le 2 p.pad)) in
    let d₁ : s₁ ≡ splice s at place = e₁ ∙ ap (splice s at) is in
    let d₂ = behind s at place (le 4 p.cauchy) (at + 8) (omega arith) refl d₁ e₂ in
    behind s at (place ++ le 4 p.cauchy) (le 4 p.elliptic) (at + 12) (omega arith) refl d₂ e₃
