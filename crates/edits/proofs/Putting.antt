-- What put answers and leaves, way by way. Assumes nothing.
use Prim.Native.Nat.{ℕ, suc, ◌+◌, ◌*◌, ◌≤◌, ◌<◌}
use mathlib.Core.Path.{◌≡◌, refl, sym, ap, ◌∙◌}
use mathlib.Core.List.{List}
use native.Mathlib.Omega.{arith}
use lib.ListN.{length}
use Rattle.rym1.specs.declared.Point.{Point}
use Rattle.rym1.specs.declared.Cause.TheVariants.{BufferFull}
use Rattle.rym1.specs.Bytes.{word, splice}
use Rattle.rym1.specs.Causes.{number, told, when, first, Outcome, outcome, refuse}
use Rattle.rym1.specs.File.{grid, count, size, point_at, points, point_bytes, cell, cell_of, cube, place_cause, mass_cause, point_cause}
use Rattle.rym1.specs.Cells.{look, masses_of, cell_point}
use Rattle.rym1.specs.Open.{Buffers, both}
use Rattle.rym1.specs.Journal.{push_cause, entry_words, pushed}
use Rattle.rym1.specs.Edits.{lower, inserted, changed, change, buffers_cause, is_vacant, room_cause, put_words, put_cause, edited, put}
use Rattle.rym1.proofs.Causes.{first_zero_l, first_zero_r, first_found, first_none, first_assoc, refuse_found}
use Rattle.rym1.proofs.Accepted.{Inside, accepted, sound}
use Rattle.rym1.proofs.Points.{length_point}
use Rattle.rym1.proofs.Cells.{point_of_cell}
use Rattle.std.specs.Prelude.{Ok, Err}
use Rattle.working.specs.Spotted.{Spotted}
use Rattle.edits.specs.Calls.{Sound, put_rest}
use Rattle.edits.proofs.Rooms.{room_full, room_left, room_more}
use Rattle.edits.proofs.Counts.{count_few, count_replaced, count_inserted}
use Rattle.edits.proofs.Judging.{buffers_sound}

-- ---- 14

size_more : (n k : ℕ) → n ≡ k → 64 + 16 * (n + 1) ≡ size (suc k)
unfolding size
size_more n k e = omega (arith, e)

-- ---- into a cell: f' and j' the buffers at the end, t the answer

module _ (f j : List ℕ) (c i : ℕ) (p : Point) (s : Sound f j) (own : p ≡ cell_point (grid f) c (masses_of p)) where
  -- over the record at index i
  pub put_over_done : Spotted f c (Ok i) → (n a b t : ℕ) (f' j' : List ℕ) → n ≡ count f
      → a ≡ word 4 f (64 + 16 * i + 8) → b ≡ word 4 f (64 + 16 * i + 12) → f' ≡ splice f (64 + 16 * i) (point_bytes p)
      → j' ≡ pushed j (entry_words 2 c a b) → t ≡ 64 + 16 * n → outcome t (both f' j') ≡ put_rest f j c (masses_of p)
  unfolding put_rest change changed room_cause is_vacant put_words edited when refuse masses_of point_at size
  put_over_done spot n a b t f' j' en ea eb ef ej et =
      let file : f' ≡ splice f (size i) (point_bytes (cell_point (grid f) c (masses_of p))) = ef ∙ ap (λ (q : Point). splice f (64 + 16 * i) (point_bytes q)) own in
      let within : size i ≤ length f = omega (arith, spot.0, (accepted f s.file).room) in
      let same : t ≡ size (count (splice f (size i) (point_bytes (cell_point (grid f) c (masses_of p))))) =
      et ∙ ap size (en ∙ sym (count_replaced f i (point_bytes (cell_point (grid f) c (masses_of p))) within)) in
      let entry : j' ≡ pushed j (entry_words 2 c (word 4 f (64 + 16 * i + 8)) (word 4 f (64 + 16 * i + 12))) = ej ∙ (λ k. pushed j (entry_words 2 c (ea k) (eb k))) in
      rw spot.1 (λ k. outcome (same k) (both (file k) (entry k)))

  -- into an empty one, i records before it
  module _ (spot : Spotted f c (Err i)) (n : ℕ) (en : n ≡ count f) where
    pub put_new_full : length f < 80 + 16 * n → outcome (told (Err BufferFull)) (both f j) ≡ put_rest f j c (masses_of p)
    unfolding put_rest told number refuse outcome
    put_new_full h = rw (spot.1, room_full f n en h)

    pub put_new_done : 80 + 16 * n ≤ length f → (t : ℕ) (f' j' : List ℕ) → f' ≡ inserted f i (point_bytes p) → j' ≡ pushed j (entry_words 1 c 0 0)
        → t ≡ 64 + 16 * (n + 1) → outcome t (both f' j') ≡ put_rest f j c (masses_of p)
    unfolding put_rest change changed put_words edited refuse
    put_new_done room t f' j' ef ej et =
        let new = point_bytes (cell_point (grid f) c (masses_of p)) in
        let more = room_more f n en room in
        let few : count f < 4294967295 = omega (arith, count_few f s.file s.works) in
        let place : i ≡ lower (grid f) c (points f) = sym spot.2 in
        let file : f' ≡ inserted f (lower (grid f) c (points f)) new = ef ∙ (λ k. inserted f (place k) (point_bytes (own k))) in
        let counts : count (inserted f i new) ≡ suc (count f) = count_inserted f i new (length_point (cell_point (grid f) c (masses_of p))) spot.0 more few in
        let same : t ≡ size (count (inserted f (lower (grid f) c (points f)) new)) =
        et ∙ size_more n (count f) en ∙ ap size (sym counts ∙ ap (λ (m : ℕ). count (inserted f m new)) place) in
        rw (spot.1, room_left f more) (λ k. outcome (same k) (both (file k) (ej k)))

-- ---- the whole call

-- the record that the call's own numbers make
abbrev pub own_point : ℕ → ℕ → ℕ → ℕ → ℕ → Point
own_point x y z cauchy elliptic = record { x = x; y = y; z = z; pad = 0; cauchy = cauchy; elliptic = elliptic }

module _ (f j : List ℕ) (x y z u v : ℕ) where
  put_refused : (k : ℕ) → k ≡ put_cause f j x y z u v → 0 < k → outcome k (both f j) ≡ put f j x y z u v
  unfolding put
  put_refused k e h = ap (λ (n : ℕ). outcome n (both f j)) e ∙ sym (refuse_found (put_cause f j x y z u v) (both f j) _ (rw e at h))

  -- the causes behind 7: 13, 14; and behind 11: 6, 7 and those
  abbrev past_7 : ℕ
  past_7 = first (push_cause j) (room_cause f (look f (cell (grid f) x y z)))

  abbrev past_11 : ℕ
  past_11 = first (place_cause (grid f) x y z) (first (mass_cause u v) past_7)

  -- 1 to 7, 10, 11
  pub way_buffers : (k : ℕ) → k ≡ buffers_cause f j → 0 < k → outcome k (both f j) ≡ put f j x y z u v
  unfolding put_cause
  way_buffers k e h = put_refused k (e ∙ sym (first_found (buffers_cause f j) past_11 (rw e at h))) h

  module _ (ok : buffers_cause f j ≡ 0) (g a b : ℕ) (eg : g ≡ grid f) (ea : a ≡ u) (eb : b ≡ v) where
    own_cause : point_cause g (own_point x y z a b) ≡ first (place_cause (grid f) x y z) (mass_cause u v)
    unfolding point_cause
    own_cause = λ i. first (place_cause (eg i) x y z) (mass_cause (ea i) (eb i))

    -- 6, 7
    pub way_own : (k : ℕ) → k ≡ point_cause g (own_point x y z a b) → 0 < k → outcome k (both f j) ≡ put f j x y z u v
    unfolding put_cause
    way_own k e h =
        let this : k ≡ first (place_cause (grid f) x y z) (mass_cause u v) = e ∙ own_cause in
        put_refused k
        (this ∙ sym (first_found (first (place_cause (grid f) x y z) (mass_cause u v)) past_7 (rw this at h))
        ∙ first_assoc (place_cause (grid f) x y z) (mass_cause u v) past_7
        ∙ sym (first_none (buffers_cause f j) past_11 ok))
        h

    module _ (fine : point_cause g (own_point x y z a b) ≡ 0) where
      place_fine : place_cause (grid f) x y z ≡ 0
      place_fine = first_zero_l (place_cause (grid f) x y z) (mass_cause u v) (sym own_cause ∙ fine)

      mass_fine : mass_cause u v ≡ 0
      mass_fine = first_zero_r (place_cause (grid f) x y z) (mass_cause u v) (sym own_cause ∙ fine)

      -- 13
      pub way_full : (k : ℕ) → k ≡ push_cause j → 0 < k → outcome k (both f j) ≡ put f j x y z u v
      unfolding put_cause first
      way_full k e h =
          put_refused k (e ∙ sym (first_found (push_cause j) (room_cause f (look f (cell (grid f) x y z))) (rw e at h)) ∙ rw (ok, place_fine, mass_fine)) h

      pub own_inside : (g ≤ 256) × Inside g x y z
      own_inside = (rw eg (accepted f (buffers_sound f j ok).file).grid_few, (sound g (own_point x y z a b) fine).place)

      module _ (c : ℕ) (ec : c ≡ cell g x y z) where
        pub own_cell : c < cube g → (c < cube (grid f)) × (own_point x y z a b ≡ cell_point (grid f) c (masses_of (own_point x y z a b)))
        unfolding cell_of
        own_cell low = (rw (← eg) low, rw (← eg, ec) (sym (point_of_cell g (own_point x y z a b) own_inside.1 refl)))

        -- 14, or the cell is put
        pub way_put : push_cause j ≡ 0 → {o : Outcome Buffers} → o ≡ put_rest f j c (masses_of (own_point x y z a b)) → o ≡ put f j x y z u v
        unfolding put_rest put put_cause first masses_of
        way_put free e =
            let here : c ≡ cell (grid f) x y z = ec ∙ ap (λ (n : ℕ). cell n x y z) eg in
            e ∙ rw (here, ea, eb, ok, place_fine, mass_fine, free)

pub ruleset ways = (way_buffers, way_own, way_full, way_put, own_inside, own_cell)
