-- What an edit leaves alone, refused or not, whatever the two buffers hold: header bytes other than n, and bytes past both the old and the new file.
-- Assumes nothing.
use Prim.Native.Nat.{ℕ, zero, suc, ◌+◌, ◌-◌, ◌*◌, ◌≤◌, ◌<◌}
use mathlib.Core.Path.{◌≡◌, refl, ◌∙◌}
use mathlib.Core.Bool.{Bool, true, false, cond}
use mathlib.Core.Logic.{◌⊎◌, inl, inr}
use mathlib.Core.Option.{Option, none, some}
use mathlib.Core.List.{List, [], ◌∷◌, ◌++◌}
use native.Mathlib.Omega.{arith}
use lib.ListN.{length, get_or, take, drop, replicate, length-append, length-drop}
use lib.Dec.{ltb}
use lib.Seq.{length-take-le}
use Rattle.rym1.specs.declared.Point.{Point}
use Rattle.rym1.specs.Bytes.{le, splice}
use Rattle.rym1.specs.Causes.{outcome, refuse}
use Rattle.rym1.specs.File.{grid, count, points_at, points, point_bytes, size, cell, cell_of, file_cause, work_cause}
use Rattle.rym1.specs.Cells.{Masses, Slot, vacant, held, look, cell_point}
use Rattle.rym1.specs.Open.{counted, both}
use Rattle.rym1.specs.Journal.{last_entry, pushed, popped}
use Rattle.rym1.specs.Edits.{lower, later_bytes, inserted, removed, changed, change, buffers_cause, put_words, put_cause, edited, put, remove_words, remove_cause, remove, before, undo_cause, undo}
use Rattle.rym1.proofs.Bytes.{length_le, drop_splice, splice_before, splice_behind, word_splice_fits}
use Rattle.rym1.proofs.Causes.{first_zero_l, first_zero_r}
use Rattle.rym1.proofs.Accepted.{accepted}
use Rattle.rym1.proofs.Points.{length_point, length_points_at}
use Rattle.rym1.proofs.Cells.{held_at}
use Rattle.rym1.proofs.Opened.{occupied_few, working_count}

-- f', the buffer afterwards, beside f, the buffer before
pub record Kept (f f' : List ℕ) : Type 0 where
  pub header : (i : ℕ) → i < 64 → (i < 12) ⊎ (16 ≤ i) → get_or f' i 0 ≡ get_or f i 0
  pub behind : (k : ℕ) → size (count f) ≤ k → size (count f') ≤ k → drop k f' ≡ drop k f

unchanged : (f : List ℕ) → Kept f f
unchanged f = record { header = λ i h w. refl; behind = λ k a b. refl }

-- ---- a write behind the header, then another count

module _ (f : List ℕ) (long : 64 ≤ length f) (at : ℕ) (new : List ℕ) (past : 64 ≤ at) (there : at ≤ length f) where
  written_header : (i : ℕ) → i < 64 → get_or (splice f at new) i 0 ≡ get_or f i 0
  written_header i h = splice_before f at new i (omega arith) there

  written_long : 64 ≤ length (splice f at new)
  unfolding splice
  written_long = omega (arith, length-append (take at f) (new ++ drop (at + length new) f), length-take-le at f there)

  recounted_header : (n i : ℕ) → i < 64 → (i < 12) ⊎ (16 ≤ i) → get_or (counted (splice f at new) n) i 0 ≡ get_or f i 0
  unfolding counted
  recounted_header n i h (inl low) = splice_before (splice f at new) 12 (le 4 n) i low (omega (arith, written_long)) ∙ written_header i h
  recounted_header n i h (inr high) =
      splice_behind (splice f at new) 12 (le 4 n) i (omega (arith, length_le 4 n)) (omega (arith, written_long)) ∙ written_header i h

  recounted_behind : (n k : ℕ) → at + length new ≤ k → drop k (counted (splice f at new) n) ≡ drop k f
  unfolding counted
  recounted_behind n k h =
      drop_splice k (splice f at new) 12 (le 4 n) (omega (arith, length_le 4 n)) (omega (arith, written_long)) ∙ drop_splice k f at new h there

  recounted_count : (n : ℕ) → n < 4294967296 → count (counted (splice f at new) n) ≡ n
  unfolding count counted
  recounted_count n few = word_splice_fits 4 n (splice f at new) 12 (omega (arith, written_long)) few

-- ---- a change of one cell

lower_few : (g c : ℕ) (ps : List Point) → lower g c ps ≤ length ps
unfolding lower
lower_few g c [] = omega arith
lower_few g c (p ∷ ps) = go (ltb (cell_of g p) c) (lower_few g c ps)
  where
    go : (b : Bool) → lower g c ps ≤ length ps → cond b 1 0 + lower g c ps ≤ suc (length ps)
    go true h = omega arith
    go false h = omega arith

module _ (f : List ℕ) (ok : file_cause f ≡ 0) (works : work_cause f ≡ 0) where
  long : 64 ≤ length f
  long = (accepted f ok).long

  room : 64 + 16 * count f ≤ length f
  unfolding size
  room = (accepted f ok).room

  few : suc (count f) < 4294967296
  few = omega (arith, occupied_few f ok, working_count f ok works)

  length_later : (i : ℕ) → i ≤ count f → length (later_bytes f i) ≡ 16 * (count f - i)
  unfolding later_bytes size
  length_later i h = length-take-le (16 * (count f - i)) (drop (64 + 16 * i) f) (omega (arith, room, length-drop (64 + 16 * i) f))

  replaced_kept : (i : ℕ) (p : Point) → i < count f → Kept f (splice f (size i) (point_bytes p))
  unfolding size
  replaced_kept i p h =
      record {
        header = λ j a b. written_header f long (64 + 16 * i) (point_bytes p) (omega arith) (omega (arith, room)) j a;
        behind = λ k a b. drop_splice k f (64 + 16 * i) (point_bytes p) (omega (arith, length_point p)) (omega (arith, room));
      }

  removed_kept : (i : ℕ) → i < count f → Kept f (removed f i)
  unfolding size removed
  removed_kept i h =
      let new : List ℕ = later_bytes f (suc i) ++ replicate 16 0 in
      let len : length new ≡ 16 * (count f - suc i) + 16 = length-append (later_bytes f (suc i)) (replicate 16 0) ∙ omega (arith, length_later (suc i) (omega arith)) in
      record {
        header = recounted_header f long (64 + 16 * i) new (omega arith) (omega (arith, room)) (count f - 1);
        behind = λ k a b. recounted_behind f long (64 + 16 * i) new (omega arith) (omega (arith, room)) (count f - 1) k (omega (arith, len));
      }

  inserted_kept : (i : ℕ) (p : Point) → i ≤ count f → Kept f (inserted f i (point_bytes p))
  unfolding size inserted
  inserted_kept i p h =
      let new : List ℕ = point_bytes p ++ later_bytes f i in
      let len : length new ≡ 16 + 16 * (count f - i) = length-append (point_bytes p) (later_bytes f i) ∙ omega (arith, length_point p, length_later i h) in
      let n : count (counted (splice f (64 + 16 * i) new) (suc (count f))) ≡ suc (count f) =
      recounted_count f long (64 + 16 * i) new (omega arith) (omega (arith, room)) (suc (count f)) few in
      record {
        header = recounted_header f long (64 + 16 * i) new (omega arith) (omega (arith, room)) (suc (count f));
        behind = λ k a b. recounted_behind f long (64 + 16 * i) new (omega arith) (omega (arith, room)) (suc (count f)) k (omega (arith, len, n));
      }

  index_few : (c i : ℕ) (m : Masses) → look f c ≡ held i m → i < count f
  unfolding look points
  index_few c i m e = omega (arith, (held_at f (grid f) 64 0 (count f) c i m e).before)

  rank_few : (c : ℕ) → lower (grid f) c (points f) ≤ count f
  unfolding points
  rank_few c = omega (arith, lower_few (grid f) c (points_at f 64 (count f)), length_points_at f 64 (count f))

  changed_kept : (c : ℕ) (s : Slot) (o : Option Masses) → look f c ≡ s → Kept f (changed f c s o)
  unfolding changed
  changed_kept c (held i m) (some new) e = replaced_kept i (cell_point (grid f) c new) (index_few c i m e)
  changed_kept c (held i m) none e = removed_kept i (index_few c i m e)
  changed_kept c vacant (some new) e = inserted_kept (lower (grid f) c (points f)) (cell_point (grid f) c new) (rank_few c)
  changed_kept c vacant none e = unchanged f

  change_kept : (c : ℕ) (o : Option Masses) → Kept f (change f c o)
  unfolding change
  change_kept c o = changed_kept c (look f c) o refl

-- ---- the calls

-- refused, or changed where the buffers are in order, which every edit judges first
edit_kept : (n : ℕ) (f j : List ℕ) (c : ℕ) (o : Option Masses) (j' : List ℕ) → (n ≡ 0 → buffers_cause f j ≡ 0)
    → Kept f (refuse n (both f j) (edited (change f c o) j')).left.file
unfolding refuse both edited outcome buffers_cause
edit_kept zero f j c o j' first-judged =
    let ok = first-judged refl in
    change_kept f (first_zero_l (file_cause f) _ ok) (first_zero_l (work_cause f) _ (first_zero_r (file_cause f) _ ok)) c o
edit_kept (suc n) f j c o j' first-judged = unchanged f

pub put_kept : (f j : List ℕ) (x y z cauchy elliptic : ℕ) → Kept f (put f j x y z cauchy elliptic).left.file
unfolding put put_cause
put_kept f j x y z cauchy elliptic =
    let c = cell (grid f) x y z in
    edit_kept (put_cause f j x y z cauchy elliptic) f j c (some (record { cauchy = cauchy; elliptic = elliptic })) (pushed j (put_words c (look f c)))
    λ e. first_zero_l (buffers_cause f j) _ e

pub remove_kept : (f j : List ℕ) (x y z : ℕ) → Kept f (remove f j x y z).left.file
unfolding remove remove_cause
remove_kept f j x y z =
    let c = cell (grid f) x y z in
    edit_kept (remove_cause f j x y z) f j c none (pushed j (remove_words c (look f c))) λ e. first_zero_l (buffers_cause f j) _ e

pub undo_kept : (f j : List ℕ) → Kept f (undo f j).left.file
unfolding undo undo_cause
undo_kept f j = edit_kept (undo_cause f j) f j (last_entry j).cell (before (last_entry j)) (popped j) λ e. first_zero_l (buffers_cause f j) _ e
