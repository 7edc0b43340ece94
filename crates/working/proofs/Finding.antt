-- Laws of the search for a cell among records in working form: one turn, and each way out. Assumes nothing.
use Prim.Native.Nat.{ℕ, zero, suc, ◌+◌, ◌-◌, ◌*◌, ◌/◌, ◌≤◌, ◌<◌}
use mathlib.Core.Path.{◌≡◌, refl, sym, ap, ◌∙◌}
use mathlib.Core.Bool.{true, not}
use mathlib.Core.List.{List, [], ◌∷◌}
use native.Mathlib.Nat.{zero-add, add-zero, add_assoc, sub-zero}
use native.Mathlib.Numerals.{add-one}
use native.Mathlib.Decide.{dec_lt}
use lib.ListN.{length, get_or, take, drop, length-drop}
use lib.Seq.{length-take-le}
use Rattle.std.proofs.Common.{Ordering, Less, Equal, Greater, nat_cmp}
use Rattle.std.specs.Ordering.{ordering_index, MatchOrdering}
use Rattle.std.specs.Cmp.{ranked}
use Rattle.std.specs.List.Sorted.{IsNonDecreasingBy, IsPartitionPoint}
use Rattle.std.proofs.lemmas.List.{get_or-take, get_or-drop}
use Rattle.std.specs.Simd.{first_chunks}
use Rattle.rym1.specs.Bytes.{word}
use native.Mathlib.Omega.{arith}
use lib.Dec.{eqb, leb}
use borrow.Author.Tests.{leb-true, not-false, lt-ltb, le-ltb, le-leb}
use Rattle.rym1.specs.declared.Point.{Point}
use Rattle.rym1.specs.File.{grid, count, size, point_at, points_at, points, cell, cell_of, working, work_cause}
use Rattle.rym1.specs.Cells.{vacant, held, masses_of, later, look_from, look}
use Rattle.rym1.specs.Edits.{lower}
use Rattle.rym1.proofs.Causes.{and_true_l, and_true_r, when_zero}
use Rattle.rym1.proofs.Cells.{named_same, look_past, working_above}
use Rattle.points.proofs.Turns.{points_more}
use Rattle.std.specs.Prelude.{Ok, Err}
use Rattle.working.specs.Spotted.{Spotted}

-- ---- records in working form, the first not below `low`

module _ (g low : ℕ) (p : Point) (ps : List Point) (w : working g low (p ∷ ps) ≡ true) where
  first_above : low ≤ cell_of g p
  unfolding working
  first_above = leb-true low (cell_of g p) (and_true_l (leb low (cell_of g p)) _ w)

  rest_works : working g (suc (cell_of g p)) ps ≡ true
  unfolding working
  rest_works = and_true_r (eqb p.pad 0) _ (and_true_r (leb low (cell_of g p)) _ w)

-- the same from below
works_lower : (g low : ℕ) (ps : List Point) → working g low ps ≡ true → working g 0 ps ≡ true
unfolding working
works_lower g low [] w = refl
works_lower g low (p ∷ ps) w = rw (le-leb 0 (cell_of g p) (omega arith)) (and_true_r (leb low (cell_of g p)) _ w)

-- and from the first one's cell
works_from : (g : ℕ) (p : Point) (ps : List Point) → working g 0 (p ∷ ps) ≡ true → working g (cell_of g p) (p ∷ ps) ≡ true
unfolding working
works_from g p ps w = rw (le-leb (cell_of g p) (cell_of g p) (omega arith)) (and_true_r (leb 0 (cell_of g p)) _ w)

none_lower : (g low c : ℕ) (ps : List Point) → working g low ps ≡ true → c ≤ low → lower g c ps ≡ 0
unfolding lower
none_lower g low c [] w h = refl
none_lower g low c (p ∷ ps) w h =
    let here = first_above g low p ps w in
    let high : c ≤ cell_of g p = omega (arith, here) in
    rw (le-ltb (cell_of g p) c high, none_lower g (suc (cell_of g p)) c ps (rest_works g low p ps w) (omega (arith, high)))

-- ---- the search at index i: every record before names a lower cell

pub record Seeking (f : List ℕ) (c i : ℕ) : Type 0 where
  pub few : i ≤ count f
  pub works : working (grid f) 0 (points_at f (64 + 16 * i) (count f - i)) ≡ true
  pub looks : look f c ≡ look_from (grid f) i (points_at f (64 + 16 * i) (count f - i)) c
  pub lowers : lower (grid f) c (points f) ≡ i + lower (grid f) c (points_at f (64 + 16 * i) (count f - i))

pub seek_start : (f : List ℕ) (c : ℕ) → work_cause f ≡ 0 → Seeking f c 0
unfolding work_cause look points
seek_start f c z =
    record {
      few = omega arith;
      works = rw (sub-zero (count f)) (not-false (working (grid f) 0 (points f)) (when_zero (not (working (grid f) 0 (points f))) 9 z));
      looks = rw (sub-zero (count f));
      lowers = rw (sub-zero (count f), zero-add (lower (grid f) c (points f)));
    }

-- the records behind the one at index i
abbrev behind : List ℕ → ℕ → List Point
behind f i = points_at f (64 + 16 * i + 16) (count f - i - 1)

module _ (f : List ℕ) (c i : ℕ) (s : Seeking f c i) where
  module _ (h : i < count f) (k : ℕ) (p : Point) (ep : p ≡ point_at f (64 + 16 * i)) (ek : k ≡ cell_of (grid f) p) where
    all_left : points_at f (64 + 16 * i) (count f - i) ≡ p ∷ behind f i
    all_left = points_more f (64 + 16 * i) (count f - i) (omega arith) ∙ ap (λ (q : Point). q ∷ behind f i) (sym ep)

    look_left : look f c ≡ look_from (grid f) i (p ∷ behind f i) c
    look_left = s.looks ∙ ap (λ (ps : List Point). look_from (grid f) i ps c) all_left

    lower_left : lower (grid f) c (points f) ≡ i + lower (grid f) c (p ∷ behind f i)
    lower_left = s.lowers ∙ ap (λ (ps : List Point). i + lower (grid f) c ps) all_left

    works_here : working (grid f) 0 (p ∷ behind f i) ≡ true
    works_here = rw all_left at s.works

    works_behind : working (grid f) (suc (cell_of (grid f) p)) (behind f i) ≡ true
    works_behind = rest_works (grid f) 0 p (behind f i) works_here

    pub seek_turn : k < c → Seeking f c (i + 1)
    unfolding lower
    seek_turn low =
        let less : count f - (i + 1) ≡ count f - i - 1 = omega arith in
        let next : 64 + 16 * (i + 1) ≡ 64 + 16 * i + 16 = omega arith in
        let more : i + 1 ≡ suc i = omega arith in
        let this : cell_of (grid f) p < c = omega (arith, ek) in
        record {
          few = omega arith;
          works = rw (next, less) (works_lower (grid f) (suc (cell_of (grid f) p)) (behind f i) works_behind);
          looks = rw (next, less, more) (look_left ∙ look_past (grid f) i p (behind f i) c (λ e. omega (arith, e, this)));
          lowers = rw (next, less) (lower_left ∙ rw (lt-ltb (cell_of (grid f) p) c this) (omega arith));
        }

    pub seek_held : c ≡ k → Spotted f c (Ok i)
    unfolding look_from later size
    seek_held e =
        let this : cell_of (grid f) p ≡ c = omega (arith, ek) in
        let above : look_from (grid f) (suc i) (behind f i) c ≡ vacant = working_above (grid f) (suc i) (suc (cell_of (grid f) p)) (behind f i) c works_behind (omega (arith, this)) in
        (h, look_left ∙ rw (above, named_same (grid f) i p c this) (ap (λ (q : Point). held i (masses_of q)) ep))

    pub seek_past : c < k → Spotted f c (Err i)
    seek_past high =
        let this : c < cell_of (grid f) p = omega (arith, ek) in
        let from : working (grid f) (cell_of (grid f) p) (p ∷ behind f i) ≡ true = works_from (grid f) p (behind f i) works_here in (
          omega arith,
          look_left ∙ working_above (grid f) i (cell_of (grid f) p) (p ∷ behind f i) c from this,
          lower_left ∙ omega (arith, none_lower (grid f) (cell_of (grid f) p) c (p ∷ behind f i) from (omega (arith, this))),
        )

  pub seek_end : count f ≤ i → Spotted f c (Err i)
  unfolding points_at look_from lower
  seek_end h =
      let none : count f - i ≡ 0 = omega arith in
      (s.few, s.looks ∙ rw none, s.lowers ∙ rw none (omega arith))

-- ---- records as chunks of sixteen bytes

chunk_byte : (s : List ℕ) (k i j : ℕ) (d : List ℕ) → i < k → j < 16 → get_or (get_or (first_chunks 16 k s) i d) j 0 ≡ get_or s (16 * i + j) 0
chunk_byte s zero i j d h b = absurd (omega arith)
chunk_byte s (suc k) zero j d h b = rw (zero-add j) (get_or-take 16 s j 0 b)
chunk_byte s (suc k) (suc i) j d h b =
    let place : 16 + (16 * i + j) ≡ 16 * suc i + j = omega arith in
    chunk_byte (drop 16 s) k i j d (omega arith) b ∙ get_or-drop 16 s (16 * i + j) 0 ∙ ap (λ (m : ℕ). get_or s m 0) place

word_same : (k : ℕ) (a b : List ℕ) (p q : ℕ) → ((m : ℕ) → m < k → get_or a (p + m) 0 ≡ get_or b (q + m) 0) → word k a p ≡ word k b q
unfolding word
word_same zero a b p q same = refl
word_same (suc k) a b p q same =
    let here : get_or a p 0 ≡ get_or b q 0 = rw (add-zero, add-zero) at (same 0 (omega arith)) in
    let rest : word k a (p + 1) ≡ word k b (q + 1) = word_same k a b (p + 1) (q + 1) (λ m h. rw (add_assoc p 1 m, add_assoc q 1 m) (same (1 + m) (omega arith))) in
    λ j. here j + 256 * rest j

-- the bytes that a record's cell is read of
cell_same : (g : ℕ) (a f : List ℕ) (at : ℕ) → ((m : ℕ) → m < 16 → get_or a m 0 ≡ get_or f (at + m) 0) → cell_of g (point_at a 0) ≡ cell_of g (point_at f at)
unfolding cell_of point_at
cell_same g a f at same =
    let x : word 2 a 0 ≡ word 2 f at = word_same 2 a f 0 at (λ m h. rw (zero-add m) (same m (omega arith))) in
    let y : word 2 a 2 ≡ word 2 f (at + 2) = word_same 2 a f 2 (at + 2) (λ m h. rw (add_assoc at 2 m) (same (2 + m) (omega arith))) in
    let z : word 2 a 4 ≡ word 2 f (at + 4) = word_same 2 a f 4 (at + 4) (λ m h. rw (add_assoc at 4 m) (same (4 + m) (omega arith))) in
    λ j. cell g (x j) (y j) (z j)

-- ---- ascending cells

from_low : (f : List ℕ) (g low at n : ℕ) → working g low (points_at f at n) ≡ true → (i : ℕ) → i < n → low ≤ cell_of g (point_at f (at + 16 * i))
unfolding points_at
from_low f g low at zero w i h = absurd (omega arith)
from_low f g low at (suc n) w zero h = rw (add-zero at) (first_above g low (point_at f at) (points_at f (at + 16) n) w)
from_low f g low at (suc n) w (suc i) h =
    let place : at + 16 + 16 * i ≡ at + 16 * suc i = omega arith in
    let here = first_above g low (point_at f at) (points_at f (at + 16) n) w in
    let later = from_low f g (suc (cell_of g (point_at f at))) (at + 16) n (rest_works g low (point_at f at) (points_at f (at + 16) n) w) i (omega arith) in
    omega (arith, here, rw place at later)

ascending : (f : List ℕ) (g low at n : ℕ) → working g low (points_at f at n) ≡ true → (k i : ℕ) → k < i → i < n
    → cell_of g (point_at f (at + 16 * k)) < cell_of g (point_at f (at + 16 * i))
unfolding points_at
ascending f g low at zero w k i h b = absurd (omega arith)
ascending f g low at (suc n) w k zero h b = absurd (omega arith)
ascending f g low at (suc n) w zero (suc i) h b =
    let place : at + 16 + 16 * i ≡ at + 16 * suc i = omega arith in
    rw (add-zero at) (rw place at (from_low f g (suc (cell_of g (point_at f at))) (at + 16) n (rest_works g low (point_at f at) (points_at f (at + 16) n) w) i (omega arith)))
ascending f g low at (suc n) w (suc k) (suc i) h b =
    let place : at + 16 + 16 * i ≡ at + 16 * suc i = omega arith in
    let place-k : at + 16 + 16 * k ≡ at + 16 * suc k = omega arith in
    rw (place, place-k) at (ascending f g (suc (cell_of g (point_at f at))) (at + 16) n (rest_works g low (point_at f at) (points_at f (at + 16) n) w) k i (omega arith) (omega arith))

-- ---- what is found, by the cells of the records

abbrev cell_at : List ℕ → ℕ → ℕ
cell_at f i = cell_of (grid f) (point_at f (64 + 16 * i))

module _ (f : List ℕ) (c : ℕ) (works : work_cause f ≡ 0) where
  reached : (i : ℕ) → i ≤ count f → ((k : ℕ) → k < i → cell_at f k < c) → Seeking f c i
  reached zero h below = seek_start f c works
  reached (suc i) h below =
      rw add-one at (seek_turn f c i (reached i (omega arith) (λ k b. below k (omega arith))) (omega arith) (cell_at f i) (point_at f (64 + 16 * i)) refl refl (below i (omega arith)))

  pub spot_held : (i : ℕ) → i < count f → cell_at f i ≡ c → Spotted f c (Ok i)
  spot_held i h e =
      let all : working (grid f) 0 (points_at f 64 (count f)) ≡ true = rw (sub-zero (count f)) at (seek_start f c works).works in
      seek_held f c i (reached i (omega arith) (λ k b. omega (arith, e, ascending f (grid f) 0 64 (count f) all k i b h)))
      h (cell_at f i) (point_at f (64 + 16 * i)) refl refl (sym e)

  pub spot_vacant : (i : ℕ) → i ≤ count f → ((k : ℕ) → k < i → cell_at f k < c) → ((k : ℕ) → i ≤ k → k < count f → c < cell_at f k) → Spotted f c (Err i)
  spot_vacant i h below above = elim (dec_lt i (count f)) [
    | yes b ↦ seek_past f c i (reached i h below) b (cell_at f i) (point_at f (64 + 16 * i)) refl refl (above i (omega arith) b)
    | no b ↦ seek_end f c i (reached i h below) (omega arith)
  ]

-- ---- the records as the code has them

abbrev pub part : List ℕ → ℕ → List ℕ
part f n = take (64 + 16 * n - 64) (drop 64 f)

abbrev pub cell_in : ℕ → List ℕ → ℕ
cell_in g r = cell_of g (point_at r 0)

-- where a number stands to c rises with it
rank_rises : (a b c : ℕ) → a ≤ b → ordering_index (nat_cmp a c) ≤ ordering_index (nat_cmp b c)
rank_rises a b c h = go (nat_cmp a c) (nat_cmp b c) (ranked a c (nat_cmp a c) refl) (ranked b c (nat_cmp b c) refl)
  where
    go : (r s : Ordering) → MatchOrdering r (a < c) (a ≡ c) (c < a) → MatchOrdering s (b < c) (b ≡ c) (c < b) → ordering_index r ≤ ordering_index s
    go Less s p q = omega arith
    go Equal Less p q = absurd (omega arith)
    go Equal Equal p q = omega arith
    go Equal Greater p q = omega arith
    go Greater Less p q = absurd (omega arith)
    go Greater Equal p q = absurd (omega arith)
    go Greater Greater p q = omega arith

module _ (f : List ℕ) (c g n : ℕ) (rs : List (List ℕ)) (works : work_cause f ≡ 0) (room : size (count f) ≤ length f) (eg : g ≡ grid f) (en : n ≡ count f)
    (er : rs ≡ first_chunks 16 (length (part f n) / 16) (part f n)) (el : length rs ≡ length (part f n) / 16) where
  part_long : length (part f n) ≡ 16 * n
  unfolding size
  part_long =
      let few : 64 + 16 * n - 64 ≤ length (drop 64 f) = omega (arith, room, en, length-drop 64 f) in
      omega (arith, length-take-le (64 + 16 * n - 64) (drop 64 f) few)

  long : length rs ≡ n
  long = omega (arith, el, part_long)

  cell_is : (i : ℕ) → i < n → (d : List ℕ) → cell_in g (get_or rs i d) ≡ cell_at f i
  cell_is i h d =
      let all : length (part f n) / 16 ≡ n = omega (arith, part_long) in
      rw (er, eg) (cell_same (grid f) _ f (64 + 16 * i) (λ m b.
      let place : 64 + (16 * i + m) ≡ 64 + 16 * i + m = omega arith in
      chunk_byte (part f n) (length (part f n) / 16) i m d (omega (arith, all)) b
      ∙ get_or-take (64 + 16 * n - 64) (drop 64 f) (16 * i + m) 0 (omega arith)
      ∙ get_or-drop 64 f (16 * i + m) 0 ∙ ap (λ (k : ℕ). get_or f k 0) place))

  all_works : working (grid f) 0 (points_at f 64 (count f)) ≡ true
  all_works = rw (sub-zero (count f)) at (seek_start f c works).works

  pub rising : IsNonDecreasingBy (λ r. ordering_index (nat_cmp (cell_in g r) c)) rs
  rising i j d h b = elim (dec_lt i j) [
    | yes l ↦ rank_rises (cell_in g (get_or rs i d)) (cell_in g (get_or rs j d)) c
        (omega (arith, cell_is i (omega (arith, long)) d, cell_is j (omega (arith, long)) d, ascending f (grid f) 0 64 (count f) all_works i j l (omega (arith, long, en))))
    | no l ↦
        let same : i ≡ j = omega arith in
        rw same (omega arith)
  ]

  pub found : (i : ℕ) → i < length rs → ((d : List ℕ) → nat_cmp (cell_in g (get_or rs i d)) c ≡ Equal) → Spotted f c (Ok i)
  found i h e =
      spot_held f c works i (omega (arith, long, en)) (sym (cell_is i (omega (arith, long)) []) ∙ ranked (cell_in g (get_or rs i [])) c Equal (sym (e [])))

  pub missing : (i : ℕ) → i ≤ length rs → IsPartitionPoint (λ r. nat_cmp (cell_in g r) c ≡ Less) (λ r. nat_cmp (cell_in g r) c ≡ Greater) rs i → Spotted f c (Err i)
  missing i h p =
      spot_vacant f c works i (omega (arith, long, en))
      (λ k b. let low : cell_in g (get_or rs k []) < c = ranked (cell_in g (get_or rs k [])) c Less (sym (p.0 k [] (omega arith) b)) in omega (arith, low, cell_is k (omega (arith, long)) []))
      (λ k a b. let high : c < cell_in g (get_or rs k []) = ranked (cell_in g (get_or rs k [])) c Greater (sym (p.1 k [] a (omega (arith, long, en)))) in omega (arith, high, cell_is k (omega (arith, en)) []))
