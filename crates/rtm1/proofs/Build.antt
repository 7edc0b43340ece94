-- Where build answers a length, the tree's bytes stand in front of the output. Assumes nothing.
use Prim.Native.Nat.{ℕ, ◌*◌, ◌≤◌}
use mathlib.Core.Path.{◌≡◌, refl, ap, ◌∙◌, subst}
use mathlib.Core.Bool.{Bool, true, false}
use mathlib.Core.List.{List, ◌++◌}
use native.Mathlib.Nat.{zero-add}
use native.Mathlib.Omega.{arith}
use lib.ListN.{length, drop}
use lib.Dec.{ltb}
use borrow.Author.Tests.{ne_eqb}
use Rattle.rym1.specs.Bytes.{splice}
use Rattle.rym1.specs.Causes.{when, first, Outcome, outcome, refuse}
use Rattle.rym1.specs.File.{grid, points, cube, groups, file_cause, work_cause, repeated, repeat_cause}
use Rattle.rtm1.specs.Tree.{node_count, order}
use Rattle.rtm1.specs.Build.{tree_bytes, tree_length, tree_large, file_tree, Output, output, scratch_words, source_cause, build_cause, build}

-- the scratch of a file in working form, and of any other
pub scratch_marks : (f : List ℕ) → work_cause f ≡ 0 → scratch_words f ≡ 2 * groups (cube (grid f))
unfolding scratch_words
scratch_marks f works = rw works

pub scratch_cells : (f : List ℕ) → (work_cause f ≡ 0 → ⊥) → scratch_words f ≡ cube (grid f)
unfolding scratch_words
scratch_cells f other = rw (ne_eqb (work_cause f) 0 other)

-- the causes behind 21: 22 and 9
abbrev pub late : Bool → Bool → ℕ
late large full = first (when large 22) (when full 9)

-- an answer of 64 or more is none of 8, 22 and 9
pub done_out : (a c b : Bool) (out bytes : List ℕ) (len n k : ℕ)
    → 64 ≤ (refuse (first (when a 8) (late c b)) (output 0 0 out) (outcome len (output n k (splice out 0 bytes)))).answer
    → (refuse (first (when a 8) (late c b)) (output 0 0 out) (outcome len (output n k (splice out 0 bytes)))).left.out ≡ bytes ++ drop (length bytes) out
unfolding first when refuse outcome output splice
done_out true c b out bytes len n k h = absurd (omega arith)
done_out false true b out bytes len n k h = absurd (omega arith)
done_out false false true out bytes len n k h = absurd (omega arith)
done_out false false false out bytes len n k h = ap (λ (m : ℕ). bytes ++ drop m out) (zero-add (length bytes))

-- nor 21
pub never_twice : (a t : Bool) (rest : ℕ) (s : Output) (o : Outcome Output) → 64 ≤ (refuse (first (first (when a 8) (when t 21)) rest) s o).answer → t ≡ false
unfolding first when refuse outcome
never_twice a false rest s o h = refl
never_twice true true rest s o h = absurd (omega arith)
never_twice false true rest s o h = absurd (omega arith)

-- nor 22
never_large : (a c : Bool) (rest : ℕ) (s : Output) (o : Outcome Output) → 64 ≤ (refuse (first (when a 8) (first (when c 22) rest)) s o).answer → c ≡ false
unfolding first when refuse outcome
never_large a false rest s o h = refl
never_large true true rest s o h = absurd (omega arith)
never_large false true rest s o h = absurd (omega arith)

-- without 21 there are 8 and the rest
pub one_cause : (a : Bool) (rest : ℕ) → first (first (when a 8) 0) rest ≡ first (when a 8) rest
unfolding first when
one_cause true rest = refl
one_cause false rest = refl

module _ (f : List ℕ) (words : ℕ) (out : List ℕ) (ok : file_cause f ≡ 0) where
  abbrev done : Outcome Output
  done = outcome (tree_length (file_tree f)) (output (node_count (file_tree f)) (length (order (file_tree f))) (splice out 0 (tree_bytes f (file_tree f))))

  abbrev rest : ℕ
  rest = late (tree_large f (file_tree f)) (ltb (length out) (tree_length (file_tree f)))

  -- what is left of build once 1 to 7 are passed
  pub build_passed : build f words out ≡ refuse (first (first (when (ltb words (scratch_words f)) 8) (repeat_cause f)) rest) (output 0 0 out) done
  unfolding build build_cause source_cause first
  build_passed = λ i. refuse (first (first (ok i) (first (when (ltb words (scratch_words f)) 8) (repeat_cause f))) rest) (output 0 0 out) done

  -- and 21
  pub build_is : repeat_cause f ≡ 0 → build f words out ≡ refuse (first (when (ltb words (scratch_words f)) 8) rest) (output 0 0 out) done
  build_is once =
      let short = ltb words (scratch_words f) in
      build_passed ∙ (λ i. refuse (first (first (when short 8) (once i)) rest) (output 0 0 out) done) ∙ ap (λ (k : ℕ). refuse k (output 0 0 out) done) (one_cause short rest)

  -- where build answers a length, no cell is named twice
  pub answered_once : 64 ≤ (build f words out).answer → repeat_cause f ≡ 0
  unfolding repeat_cause when
  answered_once h =
      rw (never_twice (ltb words (scratch_words f)) (repeated (grid f) (points f)) rest (output 0 0 out) done
      (subst (λ (o : Outcome Output). 64 ≤ o.answer) build_passed h))

  pub build_out : 64 ≤ (build f words out).answer → (build f words out).left.out ≡ tree_bytes f (file_tree f) ++ drop (length (tree_bytes f (file_tree f))) out
  build_out h =
      let t = file_tree f in
      let same = build_is (answered_once h) in
      ap (λ (o : Outcome Output). o.left.out) same
      ∙ done_out (ltb words (scratch_words f)) (tree_large f t) (ltb (length out) (tree_length t)) out (tree_bytes f t) (tree_length t) (node_count t) (length (order t))
      (subst (λ (o : Outcome Output). 64 ≤ o.answer) same h)

  -- nor is a float too large
  pub answered_small : 64 ≤ (build f words out).answer → tree_large f (file_tree f) ≡ false
  answered_small h =
      never_large (ltb words (scratch_words f)) (tree_large f (file_tree f)) _ (output 0 0 out) done (subst (λ (o : Outcome Output). 64 ≤ o.answer) (build_is (answered_once h)) h)
