-- What is left of a call's outcome once its first causes are passed, and what an edit of a cell stands on. Definitions only.
use Rattle.std.specs.Prelude.{ℕ, ◌<◌, ◌≡◌, Bool, not, ◌&&◌, ◌||◌, List, eqb, leb}
use Rattle.std.proofs.Math.Option.{none, some}
use Rattle.rym1.specs.Causes.{when, first, Outcome, refuse}
use Rattle.rym1.specs.File.{grid, cube, finite, file_cause, work_cause}
use Rattle.rym1.specs.Cells.{Masses, look}
use Rattle.rym1.specs.Open.{Buffers, both}
use Rattle.rym1.specs.Journal.{Entry, entries, journal_cause, push_cause, last_entry, pushed, popped}
use Rattle.rym1.specs.Edits.{change, is_vacant, room_cause, put_words, edited, remove_words, entry_cause, before}

-- nothing is against the two buffers: 1 to 7, 10, 11
pub record Sound (f j : List ℕ) : Type 0 where
  pub file : file_cause f ≡ 0
  pub works : work_cause f ≡ 0
  pub journal : journal_cause j ≡ 0

-- put, past 13
unfoldable pub put_rest : List ℕ → List ℕ → ℕ → Masses → Outcome Buffers
put_rest f j c m = refuse (room_cause f (look f c)) (both f j) (edited (change f c (some m)) (pushed j (put_words c (look f c))))

-- remove, past 6
unfoldable pub remove_rest : List ℕ → List ℕ → ℕ → Outcome Buffers
remove_rest f j c =
    refuse (first (when (is_vacant (look f c)) 12) (push_cause j)) (both f j) (edited (change f c none) (pushed j (remove_words c (look f c))))

-- undo, past 15
unfoldable pub undo_rest : List ℕ → List ℕ → Outcome Buffers
undo_rest f j =
    let s = look f (last_entry j).cell in
    refuse (first (entry_cause (grid f) (last_entry j) s) (room_cause f s)) (both f j) (edited (change f (last_entry j).cell (before (last_entry j))) (popped j))

-- the last entry
pub record Last (j : List ℕ) (e : Entry) : Type 0 where
  pub counted : 0 < entries j
  pub is_last : e ≡ last_entry j

-- 16, but for the cell's state: kind 0, bits 24 to 29 set, cell outside, mass not finite (kinds 2, 3)
unfoldable pub entry_wrong : ℕ → Entry → Bool
entry_wrong g e =
    eqb e.kind 0 || (not (eqb e.gap 0) || (leb (cube g) e.cell || (not (eqb e.kind 1) && (not (finite e.cauchy) || not (finite e.elliptic)))))
