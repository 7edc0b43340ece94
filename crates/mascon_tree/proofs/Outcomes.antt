-- What build answers and leaves, way by way. Assumes nothing.
use Rattle.std.specs.Prelude.{Option, None, Some, Result, Ok, Err}
use Rattle.rtm1.specs.declared.Counts.{Counts}
use Prim.Native.Nat.{ℕ, ◌+◌, ◌*◌, ◌≤◌, ◌<◌}
use mathlib.Core.Path.{◌≡◌, sym, ap, ◌∙◌, subst}
use mathlib.Core.Bool.{true, false, true≢false}
use mathlib.Core.List.{List, ◌++◌}
use native.Mathlib.Nat.{zero-add}
use native.Mathlib.Omega.{arith}
use lib.ListN.{length, length-append}
use lib.Dec.{ltb}
use borrow.Author.Tests.{lt-ltb, le-ltb}
use Rattle.rym1.specs.declared.Cause.{Cause}
use Rattle.rym1.specs.declared.Cause.TheVariants.{OutputShort, FloatTooLarge}
use Rattle.rym1.specs.Bytes.{splice, words_bytes}
use Rattle.rym1.specs.Causes.{number, when, first, outcome, refuse}
use Rattle.rym1.proofs.Bytes.{length_splice, splice_splice, length_words}
use Rattle.rym1.proofs.Causes.{first_found, refuse_found}
use Rattle.rtm1.specs.Tree.{node_count, order}
use Rattle.rtm1.specs.declared.Frame.{Frame}
use Rattle.rtm1.specs.Node.{frame_of, nodes_floats, some_large, nodes_bytes}
use Rattle.rtm1.specs.Build.{header_words, tree_bytes, tree_length, tree_large, file_tree, output, source_cause, build_cause, build, answer_of, nodes_of, order_of, told}
use Rattle.rtm1.proofs.Bytes.{header_long, length_nodes}
use Rattle.runs.specs.declared.Form.{Form}
use Rattle.source.specs.Source.{cause_of, Sourced}
use Rattle.mascon_tree.specs.declared.Next.{Next}
use Rattle.mascon_tree.specs.Written.{Space, Written, Building}
use Rattle.mascon_tree.proofs.Judging.{fits_is, large_is}
use Rattle.mascon_tree.proofs.Counted.{Fit}

module _ (f : List ℕ) (words : ℕ) (out : List ℕ) where
  -- 1 to 8 and 21
  build_source : 0 < source_cause f words → outcome (source_cause f words) (output 0 0 out) ≡ build f words out
  unfolding build build_cause
  build_source h =
      rw (first_found (source_cause f words) (first (when (tree_large f (file_tree f)) 22) (when (ltb (length out) (tree_length (file_tree f))) 9)) h)
      (sym (refuse_found (source_cause f words) (output 0 0 out) _ h))

  module _ (ok : source_cause f words ≡ 0) where
    build_22 : tree_large f (file_tree f) ≡ true → outcome 22 (output 0 0 out) ≡ build f words out
    unfolding build build_cause first when refuse outcome
    build_22 h = rw (ok, h)

    module _ (small : tree_large f (file_tree f) ≡ false) where
      build_9 : length out < tree_length (file_tree f) → outcome 9 (output 0 0 out) ≡ build f words out
      unfolding build build_cause first when refuse outcome
      build_9 h = rw (ok, small, lt-ltb (length out) (tree_length (file_tree f)) h)

      build_done : tree_length (file_tree f) ≤ length out
          → outcome (tree_length (file_tree f)) (output (node_count (file_tree f)) (length (order (file_tree f))) (splice out 0 (tree_bytes f (file_tree f)))) ≡ build f words out
      unfolding build build_cause first when refuse
      build_done h = rw (ok, small, le-ltb (length out) (tree_length (file_tree f)) h)

-- ---- once 1 to 8 and 21 are passed

pub way_22 : (f out : List ℕ) → tree_large f (file_tree f) ≡ true → Building f out (Err FloatTooLarge) out
unfolding told answer_of nodes_of order_of number outcome
way_22 f out h = record { is = λ words ok. build_22 f words out ok h; past = omega arith }

-- no float is too large, and the tree is counted
module _ (f out : List ℕ) (all : Next) (fit : Fit f all) where
  abbrev n : ℕ
  n = all.node

  abbrev k : ℕ
  k = all.order

  length_is : 64 + 80 * n + 4 * k ≡ tree_length (file_tree f)
  unfolding tree_length
  length_is = λ i. 64 + 80 * fit.nodes i + 4 * fit.ordered i

  pub way_9 : length out < 64 + 80 * n + 4 * k → Building f out (Err OutputShort) out
  unfolding told answer_of nodes_of order_of number outcome
  way_9 h = record { is = λ words ok. build_9 f words out ok fit.small (omega (arith, length_is)); past = omega arith }

  module _ (room : 64 + 80 * n + 4 * k ≤ length out) (q : Frame) (eq : q ≡ frame_of f) where
    -- the room that the recursion asks for at the root, once the header is written
    pub root_room : node_count (file_tree f) ≤ 16777216 → length (order (file_tree f)) ≤ 16777216 → (out₁ : List ℕ) → length out₁ ≡ length out → Space true out₁ (64 + 80 * n) 0 0 q (file_tree f)
    unfolding tree_large
    root_room hn hk out₁ same =
        record {
          few = omega (arith, fit.nodes);
          short = omega (arith, fit.ordered);
          room = λ w. record {
            below = omega (arith, fit.nodes);
            inside = omega (arith, fit.ordered, same);
            small = subst (λ (r : Frame). some_large (nodes_floats r (file_tree f)) ≡ false) (sym eq) fit.small;
          };
        }

    -- header, records and order words stand on end
    all_written : (out₁ out₂ : List ℕ) (answer : Option Next) → out₁ ≡ splice out 0 (words_bytes (header_words f n))
        → Written true out₁ (64 + 80 * n) 0 0 q (file_tree f) out₂ answer → out₂ ≡ splice out 0 (tree_bytes f (file_tree f))
    unfolding tree_bytes
    all_written out₁ out₂ answer e₁ wrote =
        let t = file_tree f in
        let H = words_bytes (header_words f (node_count t)) in
        let N = nodes_bytes (frame_of f) t 0 0 in
        let W = words_bytes (order t) in
        let kH = header_long f (node_count t) in
        let kN = length_nodes (frame_of f) t 0 0 in
        let kW = length_words (order t) in
        let e : out₁ ≡ splice out 0 H = e₁ ∙ ap (λ (m : ℕ). splice out 0 (words_bytes (header_words f m))) fit.nodes in
        let same : length out₁ ≡ length out = ap length e ∙ length_splice out 0 H (omega arith) in
        wrote.bytes
        ∙ ap (λ (r : Frame). splice (splice out₁ (64 + 80 * 0) (nodes_bytes r t 0 0)) (64 + 80 * n + 4 * 0) W) eq
        ∙ splice_splice out₁ 64 N W (64 + 80 * n + 4 * 0) (omega (arith, fit.nodes, fit.ordered)) (omega (arith, fit.nodes))
        ∙ ap (λ (l : List ℕ). splice l 64 (N ++ W)) e
        ∙ splice_splice out 0 H (N ++ W) 64 (omega (arith, length-append N W, fit.nodes, fit.ordered)) (omega arith)

    -- the writing comes to what the judging did
    pub never_large : (out₁ out₂ : List ℕ) → Written true out₁ (64 + 80 * n) 0 0 q (file_tree f) out₂ None → ⊥
    unfolding tree_large
    never_large out₁ out₂ wrote =
        true≢false (sym (large_is q (file_tree f) 0 0 (sym wrote.judged)) ∙ subst (λ (r : Frame). some_large (nodes_floats r (file_tree f)) ≡ false) (sym eq) fit.small)

    pub way_done : (out₁ out₂ : List ℕ) (last : Next) → out₁ ≡ splice out 0 (words_bytes (header_words f n))
        → Written true out₁ (64 + 80 * n) 0 0 q (file_tree f) out₂ (Some last)
        → Building f out (Ok (record { length = 64 + 80 * n + 4 * k; nodes = last.node; order = last.order })) out₂
    unfolding told answer_of nodes_of order_of outcome
    way_done out₁ out₂ last e₁ wrote =
        let behind = (fits_is q (file_tree f) 0 0 last (sym wrote.judged)).1 in
        let nodes : last.node ≡ node_count (file_tree f) = ap (λ (v : Next). v.node) behind ∙ zero-add (node_count (file_tree f)) in
        let ordered : last.order ≡ length (order (file_tree f)) = ap (λ (v : Next). v.order) behind ∙ zero-add (length (order (file_tree f))) in
        let answer : outcome (64 + 80 * n + 4 * k) (output last.node last.order out₂)
        ≡ outcome (tree_length (file_tree f)) (output (node_count (file_tree f)) (length (order (file_tree f))) (splice out 0 (tree_bytes f (file_tree f)))) =
        λ i. outcome (length_is i) (output (nodes i) (ordered i) (all_written out₁ out₂ (Some last) e₁ wrote i)) in
        record { is = λ words ok. answer ∙ build_done f words out ok fit.small (omega (arith, length_is)); past = omega arith }

-- ---- the whole call, s and s' the words of scratch before and after

pub way_refused : (f s out s' : List ℕ) (cause : Cause) → Sourced f s (Err cause) s' → (told (Err cause) out ≡ build f (length s) out) × (answer_of (Err cause) ≤ 8 → s' ≡ s)
unfolding told answer_of nodes_of order_of cause_of
way_refused f s out s' cause read =
    (ap (λ (n : ℕ). outcome n (output 0 0 out)) read.cause ∙ build_source f (length s) out (rw (← read.cause) read.some), read.kept)

pub way_built : (f s out s' : List ℕ) (form : Form) → Sourced f s (Ok form) s' → (out' : List ℕ) (answer : Result Counts Cause) → Building f out answer out'
    → (told answer out' ≡ build f (length s) out) × (answer_of answer ≤ 8 → s' ≡ s)
unfolding cause_of
way_built f s out s' form read out' answer b = (b.is (length s) (sym read.cause), λ low. absurd (let p = b.past in omega arith))
