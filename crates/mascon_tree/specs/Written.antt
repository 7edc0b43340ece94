-- What the recursion answers and leaves in the output, and what build still has to say once 1 to 8 and 21 are passed. Definitions only.
use Rattle.std.specs.Prelude.{ℕ, ◌+◌, ◌*◌, ◌≤◌, ◌<◌, ◌≡◌, Bool, true, false, not, cond, ◌&&◌, List, length, Option, None, Some, Result}
use Rattle.rym1.specs.declared.Cause.{Cause}
use Rattle.rtm1.specs.declared.Counts.{Counts}
use Rattle.float.specs.Narrow.{any_large}
use Rattle.rym1.specs.Bytes.{splice, words_bytes}
use Rattle.rtm1.specs.declared.Cells.{Cells}
use Rattle.rtm1.specs.declared.Frame.{Frame}
use Rattle.rtm1.specs.declared.Sums.{Sums}
use Rattle.rtm1.specs.declared.Numbers.{Numbers}
use Rattle.rtm1.specs.Tree.{Tree, node_count, order, occupied}
use Rattle.rtm1.specs.Node.{node_floats, node_bytes, nodes_floats, some_large, nodes_bytes}
use Rattle.rtm1.specs.Build.{source_cause, build, answer_of, told}
use Rattle.mascon_tree.specs.declared.Next.{Next}

-- the byte at which the order words start, which nothing reads where none are written
abbrev pub start : Option ℕ → ℕ
start None = 0
start (Some at) = at

-- what a tree comes to whose root has place n, o points being ordered before it
unfoldable pub judged_of : Frame → Tree → ℕ → ℕ → Option Next
judged_of r t n o = cond (some_large (nodes_floats r t)) None (Some (record { node = n + node_count t; order = o + length (order t); occupied = occupied t }))

-- room for it, order words from the byte `at` on; and no float is too large
pub record Room (s : List ℕ) (at node before : ℕ) (r : Frame) (t : Tree) : Type 0 where
  pub below : 64 + 80 * (node + node_count t) ≤ at
  pub inside : at + 4 * (before + length (order t)) ≤ length s
  pub small : some_large (nodes_floats r t) ≡ false

-- room for the record at a place, where it is written
abbrev pub RecordRoom : Bool → List ℕ → ℕ → Type 0
RecordRoom write s node = write ≡ true → 64 + 80 * (node + 1) ≤ length s

-- what the recursion asks: numbers that fit and, where it writes, room
pub record Space (write : Bool) (s : List ℕ) (at node before : ℕ) (r : Frame) (t : Tree) : Type 0 where
  pub few : node + node_count t ≤ 4294967295
  pub short : before + length (order t) ≤ 4294967295
  pub room : write ≡ true → Room s at node before r t

-- what it gives: the answer and, where it writes, the tree's records and order words; nothing else has changed
pub record Written (write : Bool) (s : List ℕ) (at node before : ℕ) (r : Frame) (t : Tree) (s' : List ℕ) (answer : Option Next) : Type 0 where
  pub judged : answer ≡ judged_of r t node before
  pub bytes : s' ≡ cond write (splice (splice s (64 + 80 * node) (nodes_bytes r t node before)) (at + 4 * before) (words_bytes (order t))) s

-- the same of the root's record alone, with these numbers, the next tree being `next`
pub record Rooted (write : Bool) (s : List ℕ) (node : ℕ) (r : Frame) (b : Cells) (x : Sums) (q : Numbers) (next : Next) (s' : List ℕ) (answer : Option Next) : Type 0 where
  pub judged : answer ≡ cond (any_large (node_floats r b x)) None (Some next)
  pub bytes : s' ≡ cond (write && not (any_large (node_floats r b x))) (splice s (64 + 80 * node) (node_bytes (node_floats r b x) q)) s

-- the outcome, however many words of scratch there are, if they are enough; and the answer is none of 1 to 8
pub record Building (f out : List ℕ) (answer : Result Counts Cause) (out' : List ℕ) : Type 0 where
  pub is : (words : ℕ) → source_cause f words ≡ 0 → told answer out' ≡ build f words out
  pub past : 8 < answer_of answer
