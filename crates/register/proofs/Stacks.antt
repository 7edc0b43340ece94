-- The register's stack as the journal's words, and what its undos rest on. Assumes nothing.
use Prim.Native.Nat.{ℕ, ◌+◌, ◌*◌, ◌≤◌, ◌<◌}
use mathlib.Core.Path.{◌≡◌, refl, ap, ◌∙◌, fun_ext}
use mathlib.Core.Option.{Option, none, some}
use mathlib.Core.List.{List, [], ◌∷◌, ◌++◌}
use native.Mathlib.Decide.{ℕ_discrete}
use native.Mathlib.Omega.{arith}
use lib.ListN.{length, length-append}
use borrow.Author.Tests.{lt-leb, eq-eqb, ne_eqb}
use Rattle.rym1.specs.Causes.{when}
use Rattle.rym1.specs.File.{size, cube}
use Rattle.rym1.specs.Cells.{Masses, Map, at_cell, records}
use Rattle.rym1.specs.Journal.{Entry, entry_words}
use Rattle.rym1.specs.Edits.{put_words, remove_words, against, entry_cause, before}
use Rattle.rym1.proofs.Accepted.{Finite}
use Rattle.rym1.proofs.Cells.{AllFinite, slot_at}
use Rattle.rym1.proofs.Changes.{lows, highs, records_at, records_but}
use Rattle.register.specs.Register.{update, Change, one}

-- ---- maps

pub update_same : (m : Map) (c : ℕ) (o : Option Masses) → update m c o c ≡ o
unfolding update
update_same m c o = rw (eq-eqb c c refl)

pub update_other : (m : Map) (c : ℕ) (o : Option Masses) (k : ℕ) → (k ≡ c → ⊥) → update m c o k ≡ m k
unfolding update
update_other m c o k h = rw (ne_eqb k c h)

-- what was changed and set back is as it was
pub update_back : (m : Map) (c : ℕ) (o : Option Masses) → update (update m c o) c (m c) ≡ m
update_back m c o = fun_ext λ k. elim (ℕ_discrete k c) [
  | yes e ↦ rw e (update_same (update m c o) c (m c))
  | no h ↦ update_other (update m c o) c (m c) k h ∙ update_other m c o k h
]

-- how many cells it then has
pub records_count : (g : ℕ) (m : Map) (c : ℕ) (o : Option Masses) → c < cube g
    → length (records g (update m c o)) + one (m c) ≡ length (records g m) + one o
records_count g m c o low =
    let was = ap length (records_at g m c low) ∙ around (m c) in
    let will = ap length (records_but g m (update m c o) c low (update_other m c o)) ∙ around (update m c o c) in
    omega (arith, was, will, ap one (update_same m c o))
  where
    around : (v : Option Masses) → length (lows g m c ++ at_cell g c v (highs g m c)) ≡ length (lows g m c) + length (highs g m c) + one v
    around none = unfold at_cell one in length-append (lows g m c) (highs g m c) ∙ omega arith
    around (some v) = unfold at_cell one in length-append (lows g m c) _ ∙ omega arith

-- ---- entries

-- an entry's kind and masses, by what the cell held before the call and holds after it
unfoldable pub kind : Option Masses → Option Masses → ℕ
kind none now = 1
kind (some m) (some n) = 2
kind (some m) none = 3

unfoldable pub cauchy_of : Option Masses → ℕ
cauchy_of none = 0
cauchy_of (some m) = m.cauchy

unfoldable pub elliptic_of : Option Masses → ℕ
elliptic_of none = 0
elliptic_of (some m) = m.elliptic

unfoldable pub words_of : ℕ → Option Masses → Option Masses → List ℕ
words_of c held now = entry_words (kind held now) c (cauchy_of held) (elliptic_of held)

unfoldable pub entry_for : ℕ → Option Masses → Option Masses → Entry
entry_for c held now = record { kind = kind held now; gap = 0; cell = c; cauchy = cauchy_of held; elliptic = elliptic_of held }

-- no call leaves a cell empty that was empty
abbrev pub NotBoth : Option Masses → Option Masses → Type 0
NotBoth none none = ⊥
NotBoth none (some n) = Unit {0}
NotBoth (some m) now = Unit {0}

pub kind_low : (held now : Option Masses) → kind held now < 4
unfolding kind
kind_low none now = omega arith
kind_low (some m) (some n) = omega arith
kind_low (some m) none = omega arith

pub length_entry : (c : ℕ) (held now : Option Masses) → length (words_of c held now) ≡ 3
unfolding words_of entry_words
length_entry c held now = refl

-- what put and remove push
pub put_words_law : (c i : ℕ) (o : Option Masses) (n : Masses) → put_words c (slot_at i o) ≡ words_of c o (some n)
unfolding put_words slot_at words_of kind cauchy_of elliptic_of
put_words_law c i none n = refl
put_words_law c i (some m) n = refl

pub remove_words_law : (c i : ℕ) (m : Masses) → remove_words c (slot_at i (some m)) ≡ words_of c (some m) none
unfolding remove_words slot_at words_of kind cauchy_of elliptic_of
remove_words_law c i m = refl

-- what undo reads of an entry: what the cell held, and no cause to refuse it
pub before_is : (c : ℕ) (held now : Option Masses) → before (entry_for c held now) ≡ held
unfolding before entry_for kind cauchy_of elliptic_of
before_is c none now = refl
before_is c (some m) (some n) = refl
before_is c (some m) none = refl

pub entry_fine : (g c i : ℕ) (held now : Option Masses) → NotBoth held now → c < cube g → ((m : Masses) → held ≡ some m → Finite m.cauchy m.elliptic)
    → entry_cause g (entry_for c held now) (slot_at i now) ≡ 0
unfolding entry_cause entry_for kind cauchy_of elliptic_of against slot_at when
entry_fine g c i none none w low all = absurd w
entry_fine g c i none (some n) w low all = rw (lt-leb (cube g) c low)
entry_fine g c i (some m) (some n) w low all = rw (lt-leb (cube g) c low, (all m refl).cauchy_finite, (all m refl).elliptic_finite)
entry_fine g c i (some m) none w low all = rw (lt-leb (cube g) c low, (all m refl).cauchy_finite, (all m refl).elliptic_finite)

-- ---- the stack

-- the map before the change
unfoldable pub back : Map → Change → Map
back m e = update m e.cell e.held

-- its words, the top last; m is the map as it is now
unfoldable pub stack_words : Map → List Change → List ℕ
stack_words m [] = []
stack_words m (e ∷ es) = stack_words (back m e) es ++ words_of e.cell e.held (m e.cell)

pub length_words : (m : Map) (es : List Change) → length (stack_words m es) ≡ 3 * length es
unfolding stack_words
length_words m [] = refl
length_words m (e ∷ es) =
    length-append (stack_words (back m e) es) (words_of e.cell e.held (m e.cell))
    ∙ omega (arith, length_words (back m e) es, length_entry e.cell e.held (m e.cell))

-- what the undos to come rest on: each cell is inside, and every map on the way back is finite and has room
abbrev pub Chain : ℕ → ℕ → Map → List Change → Type 0
Chain g room m [] = Unit {0}
Chain g room m (e ∷ es) =
    (e.cell < cube g) × NotBoth e.held (m e.cell) × (size (length (records g (back m e))) ≤ room) × AllFinite (back m e) × Chain g room (back m e) es
