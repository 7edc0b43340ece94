-- Put, remove and undo: what each answers and leaves in the two buffers that are lent to it. Definitions only.
use Rattle.std.specs.Prelude.{ℕ, suc, ◌+◌, ◌-◌, ◌*◌, Bool, true, false, cond, not, ◌&&◌, ◌||◌, List, [], ◌∷◌, ◌++◌, length, take, drop, replicate, eqb, leb, ltb}
use Rattle.std.proofs.Math.Option.{Option, none, some}
use Rattle.rym1.specs.declared.Point.{Point}
use Rattle.rym1.specs.Bytes.{splice}
use Rattle.rym1.specs.Causes.{when, first, Outcome, outcome, refuse}
use Rattle.rym1.specs.File.{grid, count, points, point_bytes, size, cell, cell_of, cube, finite, place_cause, mass_cause, file_cause, work_cause}
use Rattle.rym1.specs.Cells.{Masses, Slot, vacant, held, look, cell_point}
use Rattle.rym1.specs.Open.{counted, Buffers, both}
use Rattle.rym1.specs.Journal.{Entry, entries, journal_cause, push_cause, last_entry, entry_words, pushed, popped}

-- ---- a cell is given masses, or emptied

-- how many records name a cell below c
unfoldable pub lower : ℕ → ℕ → List Point → ℕ
lower g c [] = 0
lower g c (p ∷ ps) = cond (ltb (cell_of g p) c) 1 0 + lower g c ps

-- the bytes of the records from index i on
unfoldable pub later_bytes : List ℕ → ℕ → List ℕ
later_bytes f i = take (16 * (count f - i)) (drop (size i) f)

-- a record arrives at index i: the later ones move up by 16 bytes
unfoldable pub inserted : List ℕ → ℕ → List ℕ → List ℕ
inserted f i new = counted (splice f (size i) (new ++ later_bytes f i)) (suc (count f))

-- the record at index i goes: the later ones move down, and the 16 bytes freed become 0
unfoldable pub removed : List ℕ → ℕ → List ℕ
removed f i = counted (splice f (size i) (later_bytes f (suc i) ++ replicate 16 0)) (count f - 1)

-- by what the cell holds, and what it shall hold
unfoldable pub changed : List ℕ → ℕ → Slot → Option Masses → List ℕ
changed f c (held i m) (some new) = splice f (size i) (point_bytes (cell_point (grid f) c new))
changed f c (held i m) none = removed f i
changed f c vacant (some new) = inserted f (lower (grid f) c (points f)) (point_bytes (cell_point (grid f) c new))
changed f c vacant none = f

unfoldable pub change : List ℕ → ℕ → Option Masses → List ℕ
change f c o = changed f c (look f c) o

-- ---- causes

-- 1 to 7, 10, 11: what every edit refuses of the two buffers
unfoldable pub buffers_cause : List ℕ → List ℕ → ℕ
buffers_cause f j = first (file_cause f) (first (work_cause f) (journal_cause j))

unfoldable pub is_vacant : Slot → Bool
is_vacant vacant = true
is_vacant (held i m) = false

-- 14: a new record past the buffer
unfoldable pub room_cause : List ℕ → Slot → ℕ
room_cause f s = when (is_vacant s && ltb (length f) (size (suc (count f)))) 14

-- ---- put: 6, 7, 13, 14

-- the entry: kind 1 put in an empty cell, 2 put over a record
unfoldable pub put_words : ℕ → Slot → List ℕ
put_words c vacant = entry_words 1 c 0 0
put_words c (held i m) = entry_words 2 c m.cauchy m.elliptic

unfoldable pub put_cause : List ℕ → List ℕ → ℕ → ℕ → ℕ → ℕ → ℕ → ℕ
put_cause f j x y z cauchy elliptic =
    first (buffers_cause f j)
    (first (place_cause (grid f) x y z)
    (first (mass_cause cauchy elliptic)
    (first (push_cause j)
    (room_cause f (look f (cell (grid f) x y z))))))

-- an edit that is done: the file, the journal, and the file's length
unfoldable pub edited : List ℕ → List ℕ → Outcome Buffers
edited f j = outcome (size (count f)) (both f j)

unfoldable pub put : List ℕ → List ℕ → ℕ → ℕ → ℕ → ℕ → ℕ → Outcome Buffers
put f j x y z cauchy elliptic =
    let c = cell (grid f) x y z in
    refuse (put_cause f j x y z cauchy elliptic) (both f j)
    (edited (change f c (some (record { cauchy = cauchy; elliptic = elliptic }))) (pushed j (put_words c (look f c))))

-- ---- remove: 6, 12, 13

-- kind 3 removed
unfoldable pub remove_words : ℕ → Slot → List ℕ
remove_words c vacant = []
remove_words c (held i m) = entry_words 3 c m.cauchy m.elliptic

unfoldable pub remove_cause : List ℕ → List ℕ → ℕ → ℕ → ℕ → ℕ
remove_cause f j x y z =
    first (buffers_cause f j)
    (first (place_cause (grid f) x y z)
    (first (when (is_vacant (look f (cell (grid f) x y z))) 12)
    (push_cause j)))

unfoldable pub remove : List ℕ → List ℕ → ℕ → ℕ → ℕ → Outcome Buffers
remove f j x y z =
    let c = cell (grid f) x y z in
    refuse (remove_cause f j x y z) (both f j) (edited (change f c none) (pushed j (remove_words c (look f c))))

-- ---- undo: 15, 16, 14

-- kinds 1 and 2 need a record in the cell, kind 3 none
unfoldable pub against : ℕ → Slot → Bool
against kind vacant = not (eqb kind 3)
against kind (held i m) = eqb kind 3

-- 16: kind 0, bits 24 to 29 set, cell outside, mass not finite (kinds 2, 3), or the cell's state against its kind
unfoldable pub entry_cause : ℕ → Entry → Slot → ℕ
entry_cause g e s =
    when
    (eqb e.kind 0
    || (not (eqb e.gap 0)
    || (leb (cube g) e.cell || ((not (eqb e.kind 1) && (not (finite e.cauchy) || not (finite e.elliptic))) || against e.kind s))))
    16

-- what the cell held before
unfoldable pub before : Entry → Option Masses
before e = cond (eqb e.kind 1) none (some (record { cauchy = e.cauchy; elliptic = e.elliptic }))

unfoldable pub undo_cause : List ℕ → List ℕ → ℕ
undo_cause f j =
    let s = look f (last_entry j).cell in
    first (buffers_cause f j)
    (first (when (eqb (entries j) 0) 15)
    (first (entry_cause (grid f) (last_entry j) s)
    (room_cause f s)))

unfoldable pub undo : List ℕ → List ℕ → Outcome Buffers
undo f j = refuse (undo_cause f j) (both f j) (edited (change f (last_entry j).cell (before (last_entry j))) (popped j))
