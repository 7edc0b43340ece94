-- Demand 3: any list of puts, removes and undos, from any accepted open. specs/Demand.antt is the statement. Assumes nothing.
use Prim.Native.Nat.{ℕ, ◌<◌, ◌≤◌}
use mathlib.Core.Path.{◌≡◌, sym, ◌∙◌, subst}
use mathlib.Core.Option.{some}
use mathlib.Core.List.{List}
use lib.ListN.{length, drop}
use Rattle.rym1.specs.File.{grid}
use Rattle.rym1.specs.Cells.{Masses}
use Rattle.rym1.specs.Open.{Buffers, open_cause, open_file}
use Rattle.rym1.proofs.Changes.{Laid, laid_small, relaid}
use Rattle.rtm1.specs.Build.{tree_bytes, build}
use Rattle.tree_laws.specs.Said.{OneLeaf}
use Rattle.register.specs.Register.{Register, Call, start, after, cell_at, rank, header_of, tree_of}
use Rattle.register.specs.Demand.{Demand, Carried, left}
use Rattle.register.proofs.Plain.{file_of_law}
use Rattle.register.proofs.Simulation.{working_is, height, builds}
use Rattle.register.proofs.Simulated.{Simulated, simulated}
use Rattle.register.proofs.Built.{build_laid, distinct_laid, large_told, written_laid}
use Rattle.register.proofs.Leaves.{one_leaf, point_laid}

-- one of the statement's fields, of a file, a register and a header that its header equals
abbrev Leaves : List ℕ → Register → List ℕ → Type 0
Leaves f r h =
    (words : ℕ) (out : List ℕ) → 64 ≤ (build f words out).answer
    → (x y z : ℕ) (m : Masses) → x < grid h → y < grid h → z < grid h → r.cells (cell_at (grid h) x y z) ≡ some m
    → Carried f (build f words out).left.out (rank r.cells (cell_at (grid h) x y z)) x y z m

leaves_laid : (r : Register) (f : List ℕ) → Laid r.header r.cells f → Leaves f r r.header
leaves_laid r f l words out done x y z m hx hy hz there =
    let t = tree_of r in
    let i = rank r.cells (cell_at (grid r.header) x y z) in
    let few = laid_small r.header r.cells f l in
    record {
      stands =
          subst (λ (s : List ℕ). OneLeaf s i) (sym (written_laid r f l words out done))
          (one_leaf (header_of r) (drop (length (tree_bytes (header_of r) t)) out) (grid r.header) few r.cells x y z m hx hy hz there);
      carries = point_laid r.header r.cells f l x y z m hx hy hz there;
    }

-- from the simulation, field by field
from : (s : Buffers) (r : Register) (ks : List Call) → Simulated s r ks → Demand s r ks
from s r ks all =
    let f = (left s ks).file in
    let r' = after r ks in
    let l : Laid r'.header r'.cells f = all.rel.laid in
    record {
      answers_are = all.told_is;
      file_is = working_is (left s ks) r' all.rel ∙ sym (file_of_law r');
      height = height (left s ks) r' all.rel;
      counts = all.counts;
      empty = all.empty;
      restored = all.restored;
      builds = builds (left s ks) r' all.rel;
      distinct = distinct_laid r' f l;
      tree_is = λ words out. build_laid r' f l words out;
      too_large = λ words out enough. rw (build_laid r' f l words out) (large_told r' words out enough);
      tree_alone = λ rest words out. rw (file_of_law r') (build_laid r' _ (relaid r'.header r'.cells f l rest) words out);
      leaves = subst (λ (h : List ℕ). Leaves f r' h) all.header_is (leaves_laid r' f l);
    }

pub demand : (f : List ℕ) (words : ℕ) (out j : List ℕ) → open_cause f words out j ≡ 0 → (ks : List Call)
    → Demand (open_file f words out j).left (start f (length out) (length j)) ks
demand f words out j ok ks = from _ _ ks (simulated f words out j ok ks)
