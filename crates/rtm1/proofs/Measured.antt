-- The fifteen floats of a record: each has 32 bits as it is written, is read back, and is finite where none is too large. Assumes nothing.
use Prim.Native.Nat.{ℕ, ◌+◌, ◌*◌, ◌<◌, ◌≤◌}
use mathlib.Core.Path.{◌≡◌, refl, sym, ap, ◌∙◌, subst}
use mathlib.Core.Bool.{Bool, true, false, not, ◌||◌}
use mathlib.Core.Logic.{inl, inr}
use mathlib.Core.List.{List, [], ◌∷◌, ◌++◌}
use native.Mathlib.Nat.{eq-or-lt_of_le}
use native.Mathlib.Omega.{arith}
use lib.Dec.{T, ltb}
use lib.ListN.{length, get_or}
use lib.Ieee.{Float, binary64, nan, lt, fits, add}
use lib.Ieee.Bits.{of_bits-fits}
use lib.Ieee.Fits.{add-fits, mul-fits, cond-fits}
use Rattle.float.specs.Narrow.{narrowing, is_large, float_word, float_words, any_large}
use Rattle.float.specs.Number.{scalar_max}
use Rattle.float.proofs.Large.{float_small, told}
use borrow.Author.Tests.{ltb-true, ltb-false}
use Rattle.rym1.specs.File.{finite, all_finite}
use Rattle.rym1.specs.Cells.{Slot}
use Rattle.rym1.proofs.Causes.{or_false_l, or_false_r}
use Rattle.rtm1.specs.declared.Cells.{Cells}
use Rattle.rtm1.specs.declared.Frame.{Frame}
use Rattle.rtm1.specs.declared.Sums.{Sums}
use Rattle.rtm1.specs.declared.Numbers.{Numbers}
use Rattle.rtm1.specs.Boxes.{Within}
use Rattle.rtm1.specs.Visit.{Placed, nothing, visit, with, total}
use Rattle.rtm1.specs.Tree.{Tree, empty, leaf, split, tree_of, node_count, order}
use Rattle.rtm1.specs.Node.{centre_on, centre_of, half_on, half_of, metric_on, metric_com, node_floats, node_words, node_bytes, nodes_floats, some_large, nodes_bytes}
use Rattle.rtm1.specs.Read.{field, floats_at, Measures}
use Rattle.rtm1.proofs.Growth.{by_boxes}
use Rattle.rtm1.proofs.Node.{length_node_words, length_node_bytes}
use Rattle.rtm1.proofs.Large.{large_empty, large_leaf, large_split, nodes_empty, nodes_leaf, nodes_split}
use Rattle.rtm1.proofs.Bytes.{length_nodes}
use Rattle.rtm1.proofs.Parts.{Part, part_left, part_right, words_word_fits}

-- ---- 32 bits

added_small : (x y : Float) → float_word (add binary64 x y) < 4294967296
added_small x y = float_small (add binary64 x y) (add-fits binary64 x y)

max_fits : (x y : Float) → T (fits binary64 x) → T (fits binary64 y) → T (fits binary64 (scalar_max x y))
unfolding scalar_max
max_fits x y F G = cond-fits binary64 (lt x y) y x G F

on_fits : (cell : Float) (low high : ℕ) → T (fits binary64 (half_on cell low high))
unfolding half_on
on_fits cell low high = mul-fits binary64 _ _

half_fits : (r : Frame) (b : Cells) → T (fits binary64 (half_of r b))
unfolding half_of
half_fits r b =
    max_fits _ _ (max_fits _ _ (on_fits (get_or r.cell 0 nan) b.x0 b.x1) (on_fits (get_or r.cell 1 nan) b.y0 b.y1)) (on_fits (get_or r.cell 2 nan) b.z0 b.z1)

-- both sums are binary64s
abbrev SumsFit : Sums → Type 0
SumsFit s = T (fits binary64 s.cauchy) × T (fits binary64 s.elliptic)

total_fits : (s : Sums) (ps : List Placed) → SumsFit s → SumsFit (total s ps)
unfolding total
total_fits s [] F = F
total_fits s (p ∷ ps) F = total_fits (with s p) ps (add-fits binary64 _ _, add-fits binary64 _ _)

nothing_fits : SumsFit nothing
nothing_fits = (of_bits-fits binary64 0, of_bits-fits binary64 0)

-- ---- read back

module _ (f : List ℕ) (n : ℕ) (r : Frame) (b : Cells) (s : Sums) (q : Numbers) (F : SumsFit s) (h : Part f (64 + 80 * n) (node_bytes (node_floats r b s) q)) where
  word_is : (k : ℕ) → k < 20 → get_or (node_words (float_words (node_floats r b s)) q) k 0 < 4294967296 → field f n k ≡ get_or (node_words (float_words (node_floats r b s)) q) k 0
  unfolding node_bytes
  word_is k l small = words_word_fits f (node_words (float_words (node_floats r b s)) q) (64 + 80 * n) k h (omega (arith, length_node_words (float_words (node_floats r b s)) q)) small

  floats_back : floats_at f n ≡ float_words (node_floats r b s)
  unfolding floats_at node_words float_words node_floats centre_of metric_com centre_on metric_on
  floats_back =
      λ i. word_is 0 (omega arith) (added_small _ _) i
      ∷ word_is 1 (omega arith) (added_small _ _) i
      ∷ word_is 2 (omega arith) (added_small _ _) i
      ∷ word_is 3 (omega arith) (float_small _ (half_fits r b)) i
      ∷ word_is 4 (omega arith) (float_small _ F.0) i
      ∷ word_is 5 (omega arith) (float_small _ F.1) i
      ∷ word_is 8 (omega arith) (added_small _ _) i
      ∷ word_is 9 (omega arith) (added_small _ _) i
      ∷ word_is 10 (omega arith) (added_small _ _) i
      ∷ word_is 12 (omega arith) (added_small _ _) i
      ∷ word_is 13 (omega arith) (added_small _ _) i
      ∷ word_is 14 (omega arith) (added_small _ _) i
      ∷ word_is 16 (omega arith) (added_small _ _) i
      ∷ word_is 17 (omega arith) (added_small _ _) i
      ∷ word_is 18 (omega arith) (added_small _ _) i
      ∷ []

-- every node's sums are binary64s
unfoldable pub Fit : Tree → Type 0
Fit (empty b) = Unit {0}
Fit (leaf b s is) = SumsFit s
Fit (split b s l r) = SumsFit s × Fit l × Fit r

pub fit : (look : ℕ → Slot) (g : ℕ) (b : Cells) → Within g b → Fit (tree_of look g b)
unfolding Fit
fit look g = by_boxes look g (λ b t. Fit t)
    (λ b w e. tt)
    (λ b w e. total_fits nothing (visit look g b) nothing_fits)
    (λ b w e two below above. (total_fits nothing (visit look g b) nothing_fits, below, above))

pub behind : (f : List ℕ) (n : ℕ) (r : Frame) (b : Cells) (s : Sums) (q : Numbers) (rest : List ℕ) → Part f (64 + 80 * n) (node_bytes (node_floats r b s) q ++ rest) → Part f (64 + 80 * (n + 1)) rest
behind f n r b s q rest p = part_right f (node_bytes (node_floats r b s) q) rest (64 + 80 * n) (64 + 80 * (n + 1)) (omega (arith, length_node_bytes r b s q)) p

in_front : (f : List ℕ) (n : ℕ) (r : Frame) (b : Cells) (s : Sums) (q : Numbers) (rest : List ℕ) → SumsFit s → Part f (64 + 80 * n) (node_bytes (node_floats r b s) q ++ rest) → floats_at f n ≡ float_words (node_floats r b s)
in_front f n r b s q rest F p = floats_back f n r b s q F (part_left f (node_bytes (node_floats r b s) q) rest (64 + 80 * n) p)

pub measures : (f : List ℕ) (r : Frame) (t : Tree) (n o : ℕ) → Fit t → Part f (64 + 80 * n) (nodes_bytes r t n o) → Measures f r t n
unfolding Fit Measures
measures f r (empty b) n o F p = floats_back f n r b nothing _ nothing_fits (subst (λ (v : List ℕ). Part f (64 + 80 * n) v) (nodes_empty r b n o) p)
measures f r (leaf b s is) n o F p = floats_back f n r b s _ F (subst (λ (v : List ℕ). Part f (64 + 80 * n) v) (nodes_leaf r b n o s is) p)
measures f r (split b s l h) n o F p =
    let a = n + 1 in
    let z = n + 1 + node_count l in
    let low = nodes_bytes r l a o in
    let high = nodes_bytes r h z (o + length (order l)) in
    let all = subst (λ (v : List ℕ). Part f (64 + 80 * n) v) (nodes_split r b n o s l h) p in
    let children : Part f (64 + 80 * a) (low ++ high) = behind f n r b s _ (low ++ high) all in (
      in_front f n r b s _ (low ++ high) F.0 all,
      measures f r l a o F.1 (part_left f low high (64 + 80 * a) children),
      measures f r h z (o + length (order l)) F.2 (part_right f low high (64 + 80 * a) (64 + 80 * z) (omega (arith, length_nodes r l a o)) children),
    )

-- ---- finite

-- each is a binary64
Held : List Float → Type 0
Held [] = Unit {0}
Held (x ∷ xs) = T (fits binary64 x) × Held xs

words_fine : (xs : List Float) → Held xs → any_large xs ≡ false → all_finite (float_words xs) ≡ true
unfolding Held any_large all_finite float_words finite
words_fine [] F e = refl
words_fine (x ∷ xs) F e =
    let one : finite (float_word x) ≡ true = (told x F.0 (narrowing x) refl).tells ∙ ap not (or_false_l (is_large (narrowing x)) (any_large xs) e) in
    rw one (words_fine xs F.1 (or_false_r (is_large (narrowing x)) (any_large xs) e))

floats_held : (r : Frame) (b : Cells) (s : Sums) → SumsFit s → Held (node_floats r b s)
unfolding Held node_floats centre_of metric_com centre_on metric_on
floats_held r b s F =
    (add-fits binary64 _ _, (add-fits binary64 _ _, (add-fits binary64 _ _, (half_fits r b, (F.0, (F.1, (add-fits binary64 _ _, (add-fits binary64 _ _, (add-fits binary64 _ _, (add-fits binary64 _ _, (add-fits binary64 _ _, (add-fits binary64 _ _, (add-fits binary64 _ _, (add-fits binary64 _ _, (add-fits binary64 _ _, tt)))))))))))))))

-- a place of a tree of 1 + a + c nodes from n on: the root's, or one of the a or the c behind it
by_place : (n a c k : ℕ) (P : Type 0) → n ≤ k → k < n + (1 + a + c) → (n ≡ k → P) → (n + 1 ≤ k → k < n + 1 + a → P) → (n + 1 + a ≤ k → k < n + 1 + a + c → P) → P
by_place n a c k P low high root lower upper = elim (eq-or-lt_of_le low) [ inl here ↦ root here | inr past ↦ go past (ltb k (n + 1 + a)) refl ]
  where
    go : n < k → (t : Bool) → ltb k (n + 1 + a) ≡ t → P
    go past true e = lower (omega arith) (ltb-true k (n + 1 + a) e)
    go past false e = upper (ltb-false k (n + 1 + a) e) (omega arith)

module _ (f : List ℕ) (r : Frame) where
  record_fine : (n : ℕ) (b : Cells) (s : Sums) → SumsFit s → floats_at f n ≡ float_words (node_floats r b s) → any_large (node_floats r b s) ≡ false → all_finite (floats_at f n) ≡ true
  record_fine n b s F e small = ap all_finite e ∙ words_fine (node_floats r b s) (floats_held r b s F) small

  -- of a tree none of whose floats is too large, every record's are finite
  pub nodes_fine : (t : Tree) (n : ℕ) → Fit t → Measures f r t n → some_large (nodes_floats r t) ≡ false → (k : ℕ) → n ≤ k → k < n + node_count t → all_finite (floats_at f k) ≡ true
  unfolding Fit Measures node_count
  nodes_fine (empty b) n F m small k low high =
      let here : n ≡ k = omega arith in
      subst (λ (j : ℕ). all_finite (floats_at f j) ≡ true) here (record_fine n b nothing nothing_fits m (sym (large_empty r b) ∙ small))
  nodes_fine (leaf b s is) n F m small k low high =
      let here : n ≡ k = omega arith in
      subst (λ (j : ℕ). all_finite (floats_at f j) ≡ true) here (record_fine n b s F m (sym (large_leaf r b s is) ∙ small))
  nodes_fine (split b s l h) n F m small k low high =
      let root = any_large (node_floats r b s) in
      let lower = some_large (nodes_floats r l) in
      let upper = some_large (nodes_floats r h) in
      let all : (root || (lower || upper)) ≡ false = sym (large_split r b s l h) ∙ small in
      let both = or_false_r root (lower || upper) all in
      by_place n (node_count l) (node_count h) k (all_finite (floats_at f k) ≡ true) low high
      (λ here. subst (λ (j : ℕ). all_finite (floats_at f j) ≡ true) here (record_fine n b s F.0 m.0 (or_false_l root (lower || upper) all)))
      (λ from to. nodes_fine l (n + 1) F.1 m.1 (or_false_l lower upper both) k from to)
      (λ from to. nodes_fine h (n + 1 + node_count l) F.2 m.2 (or_false_r lower upper both) k from to)
