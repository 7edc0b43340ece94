-- Laws of the record count: of a file in working form, and of a file that an edit has changed. Assumes nothing.
use Prim.Native.Nat.{ℕ, suc, ◌+◌, ◌-◌, ◌*◌, ◌≤◌, ◌<◌}
use mathlib.Core.Path.{◌≡◌, ◌∙◌}
use mathlib.Core.List.{List, ◌++◌}
use native.Mathlib.Omega.{arith}
use lib.ListN.{length, drop, replicate, length-append, length-drop}
use lib.Seq.{length-take-le}
use Rattle.rym1.specs.Bytes.{splice}
use Rattle.rym1.specs.File.{count, size, file_cause, work_cause}
use Rattle.rym1.specs.Open.{counted}
use Rattle.rym1.specs.Edits.{later_bytes, inserted, removed}
use Rattle.rym1.proofs.Bytes.{length_splice, word_splice_before, word_splice_fits}
use Rattle.rym1.proofs.Opened.{occupied_few, working_count}

-- a file in working form has at most as many records as a grid has cells
pub count_few : (f : List ℕ) → file_cause f ≡ 0 → work_cause f ≡ 0 → count f ≤ 16777216
count_few f ok works = omega (arith, occupied_few f ok, working_count f ok works)

-- a count that is written is read
count_counted : (f : List ℕ) (n : ℕ) → 16 ≤ length f → n < 4294967296 → count (counted f n) ≡ n
unfolding count counted
count_counted f n h fits = word_splice_fits 4 n f 12 (omega arith) fits

length_later : (f : List ℕ) (i : ℕ) → size (count f) ≤ length f → i ≤ count f → length (later_bytes f i) ≡ 16 * (count f - i)
unfolding later_bytes size
length_later f i room h = length-take-le (16 * (count f - i)) (drop (64 + 16 * i) f) (omega (arith, length-drop (64 + 16 * i) f))

-- ---- a record written over another, one come, one gone

pub count_replaced : (f : List ℕ) (i : ℕ) (new : List ℕ) → size i ≤ length f → count (splice f (size i) new) ≡ count f
unfolding count size
count_replaced f i new h = word_splice_before 4 f (64 + 16 * i) new 12 (omega arith) h

pub count_inserted : (f : List ℕ) (i : ℕ) (new : List ℕ) → length new ≡ 16 → i ≤ count f → size (suc (count f)) ≤ length f → count f < 4294967295
    → count (inserted f i new) ≡ suc (count f)
unfolding inserted size
count_inserted f i new sixteen h room few =
    let later = later_bytes f i in
    let long : length (new ++ later) ≡ 16 + 16 * (count f - i) = length-append new later ∙ omega (arith, length_later f i (omega arith) h) in
    let same : length (splice f (64 + 16 * i) (new ++ later)) ≡ length f = length_splice f (64 + 16 * i) (new ++ later) (omega arith) in
    count_counted (splice f (64 + 16 * i) (new ++ later)) (suc (count f)) (omega arith) (omega arith)

pub count_removed : (f : List ℕ) (i : ℕ) → i < count f → size (count f) ≤ length f → count f < 4294967296 → count (removed f i) ≡ count f - 1
unfolding removed size
count_removed f i h room few =
    let new = later_bytes f (suc i) ++ replicate 16 0 in
    let long : length new ≡ 16 * (count f - suc i) + 16 = length-append (later_bytes f (suc i)) (replicate 16 0) ∙ omega (arith, length_later f (suc i) room (omega arith)) in
    let same : length (splice f (64 + 16 * i) new) ≡ length f = length_splice f (64 + 16 * i) new (omega arith) in
    count_counted (splice f (64 + 16 * i) new) (count f - 1) (omega arith) (omega arith)
