-- Laws of order words on end: those of a loop's places, one after the other, are all of it. Assumes nothing.
use Prim.Native.Nat.{ℕ, zero, suc, ◌+◌, ◌-◌, ◌*◌, ◌≤◌, ◌<◌}
use mathlib.Core.Path.{◌≡◌, refl, sym, ap, ◌∙◌}
use mathlib.Core.List.{List, [], ◌∷◌, ◌++◌, map-append}
use native.Mathlib.Numerals.{add-one}
use native.Mathlib.Omega.{arith}
use lib.ListN.{length, length-map, length-append}
use Rattle.rym1.specs.Bytes.{le, splice, words_bytes}
use Rattle.rym1.proofs.Bytes.{length_le, length_splice, splice_none, splice_splice, length_words, words_append}
use Rattle.rtm1.specs.Visit.{Placed}
use Rattle.rtm1.specs.Tree.{indices}
use Rattle.runs.specs.Runs.{placed}
use Rattle.runs.proofs.Runs.{length_placed}
use Rattle.sums.specs.Ordered.{upward, Room, Ordered}

-- ---- words as bytes

-- the order words of points, as bytes
abbrev order_bytes : List Placed → List ℕ
order_bytes ps = words_bytes (indices ps)

order_append : (ps qs : List Placed) → order_bytes (ps ++ qs) ≡ order_bytes ps ++ order_bytes qs
order_append ps qs = ap words_bytes (map-append (λ (p : Placed). p.index) ps qs) ∙ words_append (indices ps) (indices qs)

length_order : (ps : List Placed) → length (order_bytes ps) ≡ 4 * length ps
length_order ps = length_words (indices ps) ∙ ap (λ (n : ℕ). 4 * n) (length-map ps (λ (p : Placed). p.index))

-- ---- records on end

indices_placed : (f : List ℕ) (z y i k : ℕ) → indices (placed f z y i k) ≡ upward i k
unfolding placed upward
indices_placed f z y i zero = refl
indices_placed f z y i (suc k) = ap (λ (l : List ℕ). i ∷ l) (indices_placed f z y (suc i) k)

pub records_ordered : (f : List ℕ) (z y i k : ℕ) (s s' : List ℕ) (at next : ℕ) → s' ≡ splice s at (words_bytes (upward i k)) → next ≡ at + 4 * k → Ordered s at (placed f z y i k) s' next
records_ordered f z y i k s s' at next d e =
    record {
      bytes = d ∙ ap (λ (l : List ℕ). splice s at (words_bytes l)) (sym (indices_placed f z y i k));
      behind = rw (length_placed f z y i k) e;
    }

-- the numbers from i up to n, word after word: what stands, with what is to come, is all of it
pub record Counting (n : ℕ) (s₀ : List ℕ) (p₀ i₀ : ℕ) (s : List ℕ) (p i : ℕ) : Type 0 where
  pub long : length s ≡ length s₀
  pub next : p + 4 * (n - i) ≡ p₀ + 4 * (n - i₀)
  pub bytes : splice s p (words_bytes (upward i (n - i))) ≡ splice s₀ p₀ (words_bytes (upward i₀ (n - i₀)))

length_upward : (i k : ℕ) → length (upward i k) ≡ k
unfolding upward
length_upward i zero = refl
length_upward i (suc k) = ap suc (length_upward (suc i) k)

upward_first : (n i : ℕ) → i < n → words_bytes (upward i (n - i)) ≡ le 4 i ++ words_bytes (upward (i + 1) (n - (i + 1)))
unfolding upward words_bytes
upward_first n i h =
    let more : n - i ≡ suc (n - (i + 1)) = omega arith in
    ap (λ (k : ℕ). words_bytes (upward i k)) more ∙ ap (λ (j : ℕ). le 4 i ++ words_bytes (upward j (n - (i + 1)))) (sym (add-one i))

module _ (n : ℕ) (s₀ : List ℕ) (p₀ i₀ : ℕ) (room : p₀ + 4 * (n - i₀) ≤ length s₀) where
  pub counting_turn : (s s' : List ℕ) (p i : ℕ) → i < n → s' ≡ splice s p (le 4 i) → Counting n s₀ p₀ i₀ s p i → Counting n s₀ p₀ i₀ s' (p + 4) (i + 1)
  counting_turn s s' p i h e g =
      let rest = words_bytes (upward (i + 1) (n - (i + 1))) in
      let four : length (le 4 i) ≡ 4 = length_le 4 i in
      let few : length rest ≡ 4 * (n - (i + 1)) = length_words (upward (i + 1) (n - (i + 1))) ∙ ap (λ (k : ℕ). 4 * k) (length_upward (i + 1) (n - (i + 1))) in
      let fits : p + length (le 4 i) + length rest ≤ length s = omega (arith, four, few, g.long, g.next) in
      record {
        long = ap length e ∙ length_splice s p (le 4 i) (omega (arith, fits)) ∙ g.long;
        next = omega (arith, g.next);
        bytes =
            ap (λ (l : List ℕ). splice l (p + 4) rest) e
            ∙ splice_splice s p (le 4 i) rest (p + 4) fits (omega (arith, four))
            ∙ ap (splice s p) (sym (upward_first n i h))
            ∙ g.bytes;
      }

pub counting_end : (n : ℕ) (s₀ : List ℕ) (p₀ i₀ k : ℕ) (s : List ℕ) (p i : ℕ) → n ≡ i₀ + k → n ≤ i → Counting n s₀ p₀ i₀ s p i
    → (s ≡ splice s₀ p₀ (words_bytes (upward i₀ k))) × (p ≡ p₀ + 4 * k)
unfolding words_bytes upward
counting_end n s₀ p₀ i₀ k s p i en h g =
    let none : n - i ≡ 0 = omega arith in
    let all : n - i₀ ≡ k = omega arith in (
      sym (splice_none s p) ∙ ap (λ (j : ℕ). splice s p (words_bytes (upward i j))) (sym none) ∙ g.bytes ∙ ap (λ (j : ℕ). splice s₀ p₀ (words_bytes (upward i₀ j))) all,
      omega (arith, g.next),
    )

-- ---- a loop

-- from s₀, p₀ to s, p: what stands, with the points to come, is all of them
pub record Storing (all : List Placed) (s₀ : List ℕ) (p₀ : ℕ) (rest : List Placed) (s : List ℕ) (p : ℕ) : Type 0 where
  pub long : length s ≡ length s₀
  pub next : p + 4 * length rest ≡ p₀ + 4 * length all
  pub bytes : splice s p (order_bytes rest) ≡ splice s₀ p₀ (order_bytes all)

-- a turn stores the points ps, and leaves the rest
module _ (all : List Placed) (s₀ : List ℕ) (p₀ : ℕ) (room : Room s₀ p₀ all) (s : List ℕ) (p : ℕ) (before ps rest : List Placed) (first : before ≡ ps ++ rest) (g : Storing all s₀ p₀ before s p) where
  all_long : length before ≡ length ps + length rest
  all_long = ap length first ∙ length-append ps rest

  pub room_on : Room s p ps
  room_on = omega (arith, all_long, g.long, g.next, room)

  pub storing_on : (s' : List ℕ) (p' : ℕ) → Ordered s p ps s' p' → Storing all s₀ p₀ rest s' p'
  storing_on s' p' d =
      let fits : p + length (order_bytes ps) + length (order_bytes rest) ≤ length s = omega (arith, all_long, length_order ps, length_order rest, g.long, g.next, room) in
      record {
        long = ap length d.bytes ∙ length_splice s p (order_bytes ps) (omega (arith, fits)) ∙ g.long;
        next = omega (arith, all_long, d.behind, g.next);
        bytes =
            ap (λ (l : List ℕ). splice l p' (order_bytes rest)) d.bytes
            ∙ splice_splice s p (order_bytes ps) (order_bytes rest) p' fits (omega (arith, d.behind, length_order ps))
            ∙ ap (splice s p) (sym (order_append ps rest))
            ∙ ap (λ (ps : List Placed). splice s p (order_bytes ps)) (sym first)
            ∙ g.bytes;
      }

pub storing_end : (all : List Placed) (s₀ : List ℕ) (p₀ : ℕ) (rest : List Placed) (s : List ℕ) (p : ℕ) → rest ≡ [] → Storing all s₀ p₀ rest s p → Ordered s₀ p₀ all s p
unfolding words_bytes
storing_end all s₀ p₀ rest s p none g =
    record {
      bytes = sym (ap (λ (ps : List Placed). splice s p (order_bytes ps)) none ∙ splice_none s p) ∙ g.bytes;
      behind = omega (arith, ap length none, g.next);
    }
