-- What undo answers and leaves, way by way. Assumes nothing.
use Prim.Native.Nat.{ℕ, ◌+◌, ◌-◌, ◌*◌, ◌≤◌, ◌<◌}
use mathlib.Core.Path.{◌≡◌, refl, sym, ap, ◌∙◌}
use mathlib.Core.Bool.{Bool, true, false, not, ◌&&◌, ◌||◌}
use mathlib.Core.List.{List}
use native.Mathlib.Omega.{arith}
use lib.ListN.{length}
use lib.Dec.{eqb, leb}
use borrow.Author.Tests.{eq-eqb, ne_eqb}
use Rattle.rym1.specs.declared.Cause.TheVariants.{BufferFull, NoEntry, EntryWrong}
use Rattle.rym1.specs.declared.Point.{Point}
use Rattle.rym1.specs.Bytes.{splice}
use Rattle.rym1.specs.Causes.{number, told, when, first, Outcome, outcome, refuse}
use Rattle.rym1.specs.File.{grid, count, size, points, point_bytes, cube, finite}
use Rattle.rym1.specs.Cells.{Slot, vacant, held, look, cell_point}
use Rattle.rym1.specs.Open.{Buffers, both}
use Rattle.rym1.specs.Journal.{Entry, entries, popped}
use Rattle.rym1.specs.Edits.{lower, inserted, removed, changed, change, buffers_cause, is_vacant, room_cause, edited, against, entry_cause, before, undo_cause, undo}
pub use Rattle.rym1.proofs.Causes.{when_zero}
use Rattle.rym1.proofs.Causes.{first_found, refuse_found}
use Rattle.rym1.proofs.Accepted.{accepted}
use Rattle.rym1.proofs.Points.{length_point}
use Rattle.std.specs.Prelude.{Ok, Err}
use Rattle.working.specs.Spotted.{Spotted}
use Rattle.edits.specs.Calls.{Sound, Last, entry_wrong, undo_rest}
use Rattle.edits.proofs.Counts.{count_few, count_replaced, count_inserted, count_removed}
use Rattle.edits.proofs.Rooms.{room_full, room_left, room_more}

-- ---- 16, but for the cell's state

-- the cell's state last
or_last : (a b c d k : Bool) → (a || (b || (c || (d || k)))) ≡ ((a || (b || (c || d))) || k)
or_last true b c d k = refl
or_last false true c d k = refl
or_last false false true d k = refl
or_last false false false true k = refl
or_last false false false false k = refl

entry_cause_law : (g : ℕ) (e : Entry) (s : Slot) (w : Bool) → entry_wrong g e ≡ w → entry_cause g e s ≡ when (w || against e.kind s) 16
unfolding entry_wrong entry_cause
entry_cause_law g e s w ew =
    ap (λ (b : Bool). when b 16)
    (or_last (eqb e.kind 0) (not (eqb e.gap 0)) (leb (cube g) e.cell) (not (eqb e.kind 1) && (not (finite e.cauchy) || not (finite e.elliptic))) (against e.kind s)
    ∙ ap (λ (b : Bool). b || against e.kind s) ew)

-- ---- past 15

module _ (f j : List ℕ) (e : Entry) where
  -- by the cell's state, and whether the entry is wrong without it
  abbrev rest : Slot → Bool → Outcome Buffers
  rest s w =
      refuse (first (when (w || against e.kind s) 16) (room_cause f s)) (both f j) (edited (changed f e.cell s (before e)) (popped j))

  rest_is : Last j e → (s : Slot) (w : Bool) → look f e.cell ≡ s → entry_wrong (grid f) e ≡ w → undo_rest f j ≡ rest s w
  unfolding undo_rest change
  rest_is l s w es ew = rw (← l.is_last, es, entry_cause_law (grid f) e s w ew)

  pub way_wrong : Last j e → (k : ℕ) → k ≡ when (entry_wrong (grid f) e) 16 → 0 < k → outcome k (both f j) ≡ undo_rest f j
  unfolding when first refuse outcome
  way_wrong l k ek h = go (entry_wrong (grid f) e) refl ek
    where
      go : (w : Bool) → entry_wrong (grid f) e ≡ w → k ≡ when w 16 → outcome k (both f j) ≡ undo_rest f j
      go true w e16 = rw e16 (sym (rest_is l (look f e.cell) true refl w))
      go false w e0 = absurd (omega (arith, e0))

  module _ (i : ℕ) (s : Sound f j) (l : Last j e) (right : entry_wrong (grid f) e ≡ false) where
    -- the cell holds the record at index i
    module _ (spot : Spotted f e.cell (Ok i)) where
      pub way_held : e.kind ≡ 3 → outcome (told (Err EntryWrong)) (both f j) ≡ undo_rest f j
      unfolding told number when first refuse outcome against
      way_held k = rw (rest_is l (held i _) false spot.1 right, eq-eqb e.kind 3 k)

      module _ (n t : ℕ) (f' j' : List ℕ) (en : n ≡ count f) (ej : j' ≡ popped j) where
        pub way_emptied : e.kind ≡ 1 → f' ≡ removed f i → t ≡ 64 + 16 * (n - 1) → outcome t (both f' j') ≡ undo_rest f j
        unfolding when first refuse against room_cause is_vacant edited changed before size
        way_emptied k ef et =
            let fewer = count_removed f i spot.0 (accepted f s.file).room (omega (arith, count_few f s.file s.works)) in
            let same : t ≡ size (count (removed f i)) = omega (arith, et, en, fewer) in
            rw (rest_is l (held i _) false spot.1 right, k) (λ m. outcome (same m) (both (ef m) (ej m)))

        pub way_restored : e.kind ≡ 2 → (g : ℕ) (p : Point) → g ≡ grid f
            → p ≡ cell_point g e.cell (record { cauchy = e.cauchy; elliptic = e.elliptic }) → f' ≡ splice f (64 + 16 * i) (point_bytes p) → t ≡ 64 + 16 * n
            → outcome t (both f' j') ≡ undo_rest f j
        unfolding when first refuse against room_cause is_vacant edited changed before size
        way_restored k g p eg ep ef et =
            let new : List ℕ = point_bytes (cell_point (grid f) e.cell (record { cauchy = e.cauchy; elliptic = e.elliptic })) in
            let file : f' ≡ splice f (64 + 16 * i) new = ef ∙ ap (λ (q : Point). splice f (64 + 16 * i) (point_bytes q)) (rw eg at ep) in
            let there = count_replaced f i new (omega (arith, spot.0, (accepted f s.file).room)) in
            let same : t ≡ size (count (splice f (64 + 16 * i) new)) = omega (arith, et, en, there) in
            rw (rest_is l (held i _) false spot.1 right, k) (λ m. outcome (same m) (both (file m) (ej m)))

    -- the cell is empty, i records before it
    module _ (spot : Spotted f e.cell (Err i)) where
      pub way_vacant : (e.kind ≡ 3 → ⊥) → outcome (told (Err EntryWrong)) (both f j) ≡ undo_rest f j
      unfolding told number when first refuse outcome against
      way_vacant k = rw (rest_is l vacant false spot.1 right, ne_eqb e.kind 3 k)

      module _ (k : e.kind ≡ 3) (n : ℕ) (en : n ≡ count f) where
        -- 14
        pub way_full : length f < 80 + 16 * n → outcome (told (Err BufferFull)) (both f j) ≡ undo_rest f j
        unfolding told number when first refuse outcome against
        way_full h = rw (rest_is l vacant false spot.1 right, k, room_full f n en h)

        pub way_back : 80 + 16 * n ≤ length f → (g t : ℕ) (p : Point) (f' j' : List ℕ) → g ≡ grid f
            → p ≡ cell_point g e.cell (record { cauchy = e.cauchy; elliptic = e.elliptic }) → f' ≡ inserted f i (point_bytes p) → j' ≡ popped j → t ≡ 64 + 16 * (n + 1)
            → outcome t (both f' j') ≡ undo_rest f j
        unfolding when first refuse against edited changed before
        way_back room g t p f' j' eg ep ef ej et =
            let own = cell_point (grid f) e.cell (record { cauchy = e.cauchy; elliptic = e.elliptic }) in
            let new : List ℕ = point_bytes own in
            let place : i ≡ lower (grid f) e.cell (points f) = sym spot.2 in
            let file : f' ≡ inserted f i new = ef ∙ ap (λ (q : Point). inserted f i (point_bytes q)) (rw eg at ep) in
            let more = room_more f n en room in
            let counted = count_inserted f i new (length_point own) spot.0 more (omega (arith, count_few f s.file s.works)) in
            let same : t ≡ size (count (inserted f i new)) = (unfold size in omega (arith, et, en, counted)) in
            rw (rest_is l vacant false spot.1 right, k, room_left f more, ← place) (λ m. outcome (same m) (both (file m) (ej m)))

-- ---- the whole call

module _ (f j : List ℕ) where
  -- 1 to 7, 10, 11
  pub way_buffers : (k : ℕ) → k ≡ buffers_cause f j → 0 < k → outcome k (both f j) ≡ undo f j
  unfolding undo undo_cause
  way_buffers k e h =
      let found : 0 < buffers_cause f j = rw e at h in
      ap (λ (n : ℕ). outcome n (both f j)) e ∙ rw (first_found (buffers_cause f j) _ found) (sym (refuse_found (buffers_cause f j) (both f j) _ found))

  module _ (ok : buffers_cause f j ≡ 0) (e : ℕ) (ee : e ≡ entries j) where
    -- 15
    pub way_none : e ≡ 0 → outcome (told (Err NoEntry)) (both f j) ≡ undo f j
    unfolding undo undo_cause told number when first refuse outcome
    way_none z = rw (ok, eq-eqb (entries j) 0 (sym ee ∙ z))

    -- 16, 14, or the entry is undone
    pub way_rest : (e ≡ 0 → ⊥) → undo_rest f j ≡ undo f j
    unfolding undo undo_cause undo_rest when first
    way_rest h = rw (ok, ne_eqb (entries j) 0 (λ z. h (ee ∙ z)))

pub ruleset ways = (way_buffers, way_wrong, way_rest, when_zero)
