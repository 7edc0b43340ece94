-- Laws of a node's record: how many floats it has, and how many bytes. Assumes nothing.
use Prim.Native.Nat.{ℕ, ◌*◌}
use mathlib.Core.Path.{◌≡◌, refl, ap, ◌∙◌}
use mathlib.Core.List.{List}
use lib.ListN.{length}
use Rattle.float.specs.Narrow.{float_words}
use Rattle.rym1.proofs.Bytes.{length_words}
use Rattle.rtm1.specs.declared.Cells.{Cells}
use Rattle.rtm1.specs.declared.Frame.{Frame}
use Rattle.rtm1.specs.declared.Sums.{Sums}
use Rattle.rtm1.specs.declared.Numbers.{Numbers}
use Rattle.rtm1.specs.Node.{centre_of, metric_com, node_floats, node_words, node_bytes}

pub length_node : (r : Frame) (b : Cells) (s : Sums) → length (node_floats r b s) ≡ 15
unfolding node_floats centre_of metric_com
length_node r b s = refl

pub length_node_words : (w : List ℕ) (q : Numbers) → length (node_words w q) ≡ 20
unfolding node_words
length_node_words w q = refl

pub length_node_bytes : (r : Frame) (b : Cells) (s : Sums) (q : Numbers) → length (node_bytes (node_floats r b s) q) ≡ 80
unfolding node_bytes
length_node_bytes r b s q =
    let w = float_words (node_floats r b s) in
    length_words (node_words w q) ∙ ap (λ (k : ℕ). 4 * k) (length_node_words w q)
