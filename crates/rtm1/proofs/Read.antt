-- What is read off a tree's bytes is the tree: its records with their links, counts and floats, and its order words. Assumes nothing.
use Prim.Native.Nat.{ℕ, ◌+◌, ◌*◌, ◌≤◌, ◌<◌}
use mathlib.Core.Path.{◌≡◌, sym, ap, ap₂, ◌∙◌, subst}
use mathlib.Core.Bool.{Bool, cond}
use mathlib.Core.Option.{Option, none, some}
use mathlib.Core.List.Memᴰ
use mathlib.Core.List.{List, ◌++◌}
use native.Mathlib.Nat.{add-zero, mod-eq_of_lt}
use native.Mathlib.Omega.{arith}
use lib.ListN.{length, length-append, get_or}
use Rattle.float.specs.Narrow.{float_words}
use Rattle.rym1.specs.Bytes.{words_bytes}
use Rattle.rym1.proofs.Bytes.{words_append, length_words}
use Rattle.rtm1.specs.declared.Cells.{Cells}
use Rattle.rtm1.specs.declared.Frame.{Frame}
use Rattle.rtm1.specs.declared.Sums.{Sums}
use Rattle.rtm1.specs.declared.Numbers.{Numbers}
use Rattle.rtm1.specs.Visit.{nothing}
use Rattle.rtm1.specs.Tree.{Tree, empty, leaf, split, node_count, order}
use Rattle.rtm1.specs.Node.{frame_of, node_floats, node_words, node_bytes, number_word, empty_numbers, leaf_numbers, split_numbers, root_numbers, nodes_bytes}
use Rattle.rtm1.specs.Build.{header_words, tree_bytes}
use Rattle.rtm1.specs.Read.{nodes_in, field, numbers_at, number_of, link_of, left_link, right_link, leaf_start, leaf_count, count_at, order_at, order_words, leaf_words, words_at, Says, link_to, Reads, Measures}
use Rattle.rtm1.proofs.Node.{length_node_words}
use Rattle.rtm1.proofs.Large.{nodes_empty, nodes_leaf, nodes_split}
use Rattle.rtm1.proofs.Bytes.{length_nodes, header_long}
use Rattle.rtm1.proofs.Order.{Counted}
use Rattle.rtm1.proofs.Number.{number_small, number_back, zero_back, link_small, link_none, link_back}
use Rattle.rtm1.proofs.Measured.{Fit, behind, measures}
use Rattle.rtm1.proofs.Parts.{Part, AllWords, part_left, part_right, part_front, words_word, words_word_fits, words_back}

pub record Small (q : Numbers) : Type 0 where
  pub left : q.left < 4294967296
  pub right : q.right < 4294967296
  pub start : q.start < 4294967296
  pub points : q.points < 4294967296
  pub count : q.count < 4294967296

module _ (s : List ℕ) (n : ℕ) (w : List ℕ) (q : Numbers) (h : Part s (64 + 80 * n) (words_bytes (node_words w q))) where
  word_is : (k : ℕ) → k < 20 → get_or (node_words w q) k 0 < 4294967296 → field s n k ≡ get_or (node_words w q) k 0
  word_is k l b = words_word_fits s (node_words w q) (64 + 80 * n) k h (omega (arith, length_node_words w q)) b

  -- the five numbers of a record
  pub numbers_back : Small q → numbers_at s n ≡ q
  unfolding numbers_at node_words
  numbers_back b =
      λ i. record {
        left = word_is 6 (omega arith) b.left i;
        right = word_is 7 (omega arith) b.right i;
        start = word_is 11 (omega arith) b.start i;
        points = word_is 15 (omega arith) b.points i;
        count = word_is 19 (omega arith) b.count i;
      }

-- ---- the five numbers of a record, read back

module _ (f : List ℕ) (n : ℕ) (r : Frame) (b : Cells) (s : Sums) where
  record_numbers : (q : Numbers) → Small q → Part f (64 + 80 * n) (node_bytes (node_floats r b s) q) → numbers_at f n ≡ q
  unfolding node_bytes
  record_numbers q k h = numbers_back f n (float_words (node_floats r b s)) q h k

-- what a record says that has these numbers
says : (f : List ℕ) (n : ℕ) (q : Numbers) (l r : Option ℕ) (start points count : ℕ) → numbers_at f n ≡ q → link_of q.left ≡ l → link_of q.right ≡ r
    → number_of q.start ≡ start → number_of q.points ≡ points → number_of q.count ≡ count → Says f n l r start points count
unfolding left_link right_link leaf_start leaf_count count_at
says f n q l r start points count e el er es ep ec =
    record {
      left_is = ap (λ (v : Numbers). link_of v.left) e ∙ el;
      right_is = ap (λ (v : Numbers). link_of v.right) e ∙ er;
      start_is = ap (λ (v : Numbers). number_of v.start) e ∙ es;
      points_are = ap (λ (v : Numbers). number_of v.points) e ∙ ep;
      count_is = ap (λ (v : Numbers). number_of v.count) e ∙ ec;
    }

empty_small : Small empty_numbers
unfolding empty_numbers
empty_small = omega arith

leaf_small : (start n count : ℕ) → Small (leaf_numbers start n count)
unfolding leaf_numbers
leaf_small start n count =
    omega (arith, number_small start, number_small n, number_small count)

split_small : (lo : Bool) (l : ℕ) (hi : Bool) (r count : ℕ) → Small (split_numbers lo l hi r count)
unfolding split_numbers
split_small lo l hi r count =
    omega (arith, link_small lo l, link_small hi r, number_small count)

-- what each kind of record says, whatever its numbers are
module _ (f : List ℕ) (n : ℕ) (r : Frame) (b : Cells) (s : Sums) where
  empty_says : Part f (64 + 80 * n) (node_bytes (node_floats r b s) empty_numbers) → Says f n none none 0 0 0
  unfolding empty_numbers
  empty_says p = says f n empty_numbers none none 0 0 0 (record_numbers f n r b s empty_numbers empty_small p) link_none link_none zero_back zero_back zero_back

  leaf_says : (start points count k : ℕ) → Part f (64 + 80 * n) (node_bytes (node_floats r b s) (leaf_numbers start points count)) → start ≤ 16777216 → points ≤ 16777216
      → count ≡ k → k ≤ 16777216 → Says f n none none start points k
  unfolding leaf_numbers
  leaf_says start points count k p hs hp e hk =
      says f n (leaf_numbers start points count) none none start points k (record_numbers f n r b s (leaf_numbers start points count) (leaf_small start points count) p)
      link_none link_none (number_back start hs) (number_back points hp) (ap (λ (m : ℕ). number_of (number_word m)) e ∙ number_back k hk)

  split_says : (lo : Bool) (left : ℕ) (hi : Bool) (right count k : ℕ) (rest : List ℕ)
      → Part f (64 + 80 * n) (node_bytes (node_floats r b s) (split_numbers lo left hi right count) ++ rest) → left ≤ 16777216 → right ≤ 16777216 → count ≡ k → k ≤ 16777216
      → Says f n (cond lo (some left) none) (cond hi (some right) none) 0 0 k
  unfolding split_numbers
  split_says lo left hi right count k rest p hl hr e hk =
      let q = split_numbers lo left hi right count in
      says f n q (cond lo (some left) none) (cond hi (some right) none) 0 0 k
      (record_numbers f n r b s q (split_small lo left hi right count) (part_left f (node_bytes (node_floats r b s) q) rest (64 + 80 * n) p))
      (link_back lo left hl) (link_back hi right hr) zero_back zero_back (ap (λ (m : ℕ). number_of (number_word m)) e ∙ number_back k hk)

-- ---- a tree whose records and order words stand in f is read there

module _ (f : List ℕ) (r : Frame) where
  pub reads : (t : Tree) (n o : ℕ) → Counted t → n + node_count t ≤ 16777216 → o + length (order t) ≤ 16777216 → AllWords (order t)
      → Part f (64 + 80 * n) (nodes_bytes r t n o) → Part f (order_at f + 4 * o) (words_bytes (order t)) → Reads f t n o
  unfolding Reads Counted node_count order leaf_words root_numbers
  reads (empty b) n o c hn ho small p w = empty_says f n r b nothing (subst (λ (v : List ℕ). Part f (64 + 80 * n) v) (nodes_empty r b n o) p)
  reads (leaf b s is) n o c hn ho small p w =
      let k = length is in
      let said : Says f n none none o k k = leaf_says f n r b s _ _ _ k (subst (λ (v : List ℕ). Part f (64 + 80 * n) v) (nodes_leaf r b n o s is) p) (omega arith) (omega arith) c (omega arith) in
      (said, ap₂ (λ (i m : ℕ). words_at f (order_at f + 4 * i) m) said.start_is said.points_are ∙ words_back f is (order_at f + 4 * o) w small)
  reads (split b s l h) n o c hn ho small p w =
      let a = n + 1 in
      let z = n + 1 + node_count l in
      let i = length (order l) in
      let j = length (order h) in
      let low = nodes_bytes r l a o in
      let high = nodes_bytes r h z (o + i) in
      let nodes : length low ≡ 80 * node_count l = length_nodes r l a o in
      let both : length (order l ++ order h) ≡ i + j = length-append (order l) (order h) in
      let all = subst (λ (v : List ℕ). Part f (64 + 80 * n) v) (nodes_split r b n o s l h) p in
      let said : Says f n (link_to l a) (link_to h z) 0 0 (i + j) = split_says f n r b s _ _ _ _ _ (i + j) (low ++ high) all (omega arith) (omega arith) c.0 (omega arith) in
      let children : Part f (64 + 80 * a) (low ++ high) = behind f n r b s _ (low ++ high) all in
      let words : Part f (order_at f + 4 * o) (words_bytes (order l) ++ words_bytes (order h)) =
      subst (λ (v : List ℕ). Part f (order_at f + 4 * o) v) (words_append (order l) (order h)) w in (
        said,
        reads l a o c.1 (omega arith) (omega arith) (λ v m. small v (Memᴰ.append_left (order h) m))
            (part_left f low high (64 + 80 * a) children) (part_left f (words_bytes (order l)) (words_bytes (order h)) (order_at f + 4 * o) words),
        reads h z (o + i) c.2 (omega arith) (omega arith) (λ v m. small v (Memᴰ.append_right (order l) m))
            (part_right f low high (64 + 80 * a) (64 + 80 * z) (omega arith) children)
            (part_right f (words_bytes (order l)) (words_bytes (order h)) (order_at f + 4 * o) (order_at f + 4 * (o + i)) (omega (arith, length_words (order l))) words),
      )

-- ---- a tree's bytes, with anything behind them

pub root_count : (f : List ℕ) (t : Tree) (n o : ℕ) → Reads f t n o → count_at f n ≡ length (order t)
unfolding Reads order
root_count f (empty b) n o d = d.count_is
root_count f (leaf b s is) n o d = d.0.count_is
root_count f (split b s l r) n o d = d.0.count_is ∙ sym (length-append (order l) (order r))

module _ (h : List ℕ) (t : Tree) (rest : List ℕ) (counted : Counted t) (few : node_count t ≤ 16777216) (short : length (order t) ≤ 16777216) (small : AllWords (order t)) where
  abbrev file : List ℕ
  file = tree_bytes h t ++ rest

  header : List ℕ
  header = words_bytes (header_words h (node_count t))

  nodes : List ℕ
  nodes = nodes_bytes (frame_of h) t 0 0

  words : List ℕ
  words = words_bytes (order t)

  all_part : Part file 0 (header ++ (nodes ++ words))
  unfolding header nodes words tree_bytes
  all_part = part_front (tree_bytes h t) rest

  long : length header ≡ 64
  unfolding header
  long = header_long h (node_count t)

  body_part : Part file 64 (nodes ++ words)
  body_part = part_right file header (nodes ++ words) 0 64 (omega (arith, long)) all_part

  pub nodes_read : nodes_in file ≡ node_count t
  unfolding nodes_in header_words header
  nodes_read =
      words_word file (header_words h (node_count t)) 0 14 (part_left file header (nodes ++ words) 0 all_part) (omega arith) ∙ mod-eq_of_lt (omega arith)

  words_part : Part file (order_at file + 4 * 0) words
  unfolding nodes
  words_part = part_right file nodes words 64 (order_at file + 4 * 0) (omega (arith, nodes_read, length_nodes (frame_of h) t 0 0)) body_part

  pub tree_read : Reads file t 0 0
  unfolding nodes words
  tree_read = reads file (frame_of h) t 0 0 counted (omega arith) (omega arith) small (part_left file nodes words 64 body_part) words_part

  pub order_read : order_words file ≡ order t
  unfolding order_words words
  order_read =
      ap₂ (λ (at n : ℕ). words_at file at n) (sym (add-zero (order_at file))) (root_count file t 0 0 tree_read) ∙ words_back file (order t) (order_at file + 4 * 0) words_part small

  pub floats_read : Fit t → Measures file (frame_of h) t 0
  unfolding nodes words
  floats_read fit = measures file (frame_of h) t 0 0 fit (part_left file nodes words 64 body_part)
