-- Laws of the file's bytes: one record more of a row, one row more; and the two calls' outcomes. Assumes nothing.
use Rattle.std.specs.Prelude.{Err, Ok}
use Prim.Native.Nat.{ℕ, ◌+◌, ◌*◌, ◌/◌, ◌%◌, ◌≤◌, ◌<◌}
use mathlib.Core.Path.{◌≡◌, sym, ap, ◌∙◌}
use mathlib.Core.List.{List, [], ◌∷◌, ◌++◌, append-nil}
use native.Mathlib.Nat.{mul-le-mul, le_refl, suc-mul, zero-mul, zero-add}
use native.Mathlib.Numerals.{add-one}
use native.Mathlib.Omega.{arith}
use borrow.Author.Tests.{lt-ltb, le-ltb}
use lib.Arith.{digits_div, digits_mod}
use lib.ListN.{length}
use Rattle.rym1.specs.declared.Cause.{Cause}
use Rattle.rym1.specs.declared.Point.{Point}
use Rattle.rym1.specs.Bytes.{splice}
use Rattle.rym1.specs.Causes.{number, when, first, outcome, refuse}
use Rattle.rym1.specs.File.{point_bytes, points_bytes, size, cube, grid_cause}
use Rattle.rym1.specs.Cells.{cell_point, at_cell, records_from, records}
use Rattle.rym1.proofs.Bytes.{length_words, length_splice, splice_none, behind}
use Rattle.rym1.proofs.Causes.{number_pos, first_found, refuse_found}
use Rattle.rym1.proofs.Accepted.{grid_right}
use Rattle.rym1.proofs.Points.{length_points, points_append}
use Rattle.rym1.proofs.Cells.{records_split, cube_few}
use Rattle.rtm1.specs.Boxes.{Within, whole}
use Rattle.rtm1.specs.Tree.{tree_of, node_count}
use Rattle.rtm1.specs.Costliest.{unit, every_cell, costliest_header, costliest_file, cost, costliest, write_cause, write_costliest, told_cost}
use Rattle.rtm1.proofs.Costliest.{every_record, cube_records, costliest_counted, costliest_bytes_law}
use Rattle.costliest.specs.Every.{every}
use Rattle.costliest.proofs.Full.{every_full}

-- ---- one record more

-- a record with masses 1
abbrev unit_point : ℕ → ℕ → ℕ → Point
unit_point x y z = record { x = x; y = y; z = z; pad = 0; cauchy = unit; elliptic = unit }

row_more : (g row x : ℕ) → x < g → records_from g every_cell (row * g) (x + 1) ≡ records_from g every_cell (row * g) x ++ (unit_point x (row % g) (row / g) ∷ [])
unfolding records_from at_cell every_cell cell_point
row_more g row x low =
    records_split g every_cell (row * g) x 1
    ∙ rw (digits_mod row low, digits_div row low)

-- a run of records, and those behind it
run_behind : (s s₁ s₂ : List ℕ) (at : ℕ) (ps qs : List Point) (to : ℕ) → to ≡ at + 16 * length ps → to + 16 * length qs ≤ length s
    → s₁ ≡ splice s at (points_bytes ps) → s₂ ≡ splice s₁ to (points_bytes qs) → s₂ ≡ splice s at (points_bytes (ps ++ qs))
run_behind s s₁ s₂ at ps qs to here room e₁ e₂ =
    behind s at (points_bytes ps) (points_bytes qs) to (omega (arith, length_points ps, length_points qs)) (omega (arith, length_points ps)) e₁ e₂
    ∙ ap (splice s at) (sym (points_append ps qs))

pub length_run : (s s₁ : List ℕ) (at g lo k : ℕ) → at + 16 * k ≤ length s → s₁ ≡ splice s at (points_bytes (records_from g every_cell lo k)) → length s₁ ≡ length s
length_run s s₁ at g lo k room e =
    ap length e ∙ length_splice s at (points_bytes (records_from g every_cell lo k)) (omega (arith, length_points (records_from g every_cell lo k), every_record g lo k))

pub row_turn : (s s₁ s₂ : List ℕ) (at g row x to : ℕ) → x < g → to ≡ at + 16 * x → at + 16 * g ≤ length s
    → s₁ ≡ splice s at (points_bytes (records_from g every_cell (row * g) x)) → s₂ ≡ splice s₁ to (point_bytes (unit_point x (row % g) (row / g)))
    → s₂ ≡ splice s at (points_bytes (records_from g every_cell (row * g) (x + 1)))
unfolding points_bytes
row_turn s s₁ s₂ at g row x to low here room e₁ e₂ =
    let ps = records_from g every_cell (row * g) x in
    let q = unit_point x (row % g) (row / g) in
    rw (row_more g row x low)
    (run_behind s s₁ s₂ at ps (q ∷ []) to (omega (arith, every_record g (row * g) x)) (omega arith) e₁
    (e₂ ∙ ap (splice s₁ to) (sym (append-nil (point_bytes q)))))

pub run_start : (s : List ℕ) (at g lo : ℕ) → s ≡ splice s at (points_bytes (records_from g every_cell lo 0))
unfolding records_from points_bytes
run_start s at g lo = sym (splice_none s at)

-- ---- one row more

pub squared : (g : ℕ) → g ≤ 256 → g * g ≤ 65536
squared g h = mul-le-mul h h

rows_room : (g row : ℕ) → row < g * g → row * g + g ≤ cube g
unfolding cube
rows_room g row low = rw (← suc-mul row g) (mul-le-mul low (le_refl g))

pub rows_turn : (s s₁ s₂ : List ℕ) (g row to : ℕ) → row < g * g → to ≡ 64 + 16 * (row * g) → size (cube g) ≤ length s
    → s₁ ≡ splice s 64 (points_bytes (records_from g every_cell 0 (row * g))) → s₂ ≡ splice s₁ to (points_bytes (records_from g every_cell (row * g) g))
    → s₂ ≡ splice s 64 (points_bytes (records_from g every_cell 0 ((row + 1) * g)))
unfolding size
rows_turn s s₁ s₂ g row to low here room e₁ e₂ =
    let ps = records_from g every_cell 0 (row * g) in
    let qs = records_from g every_cell (row * g) g in
    let more : (row + 1) * g ≡ row * g + g = rw (add-one row) (suc-mul row g) in
    let both : records_from g every_cell 0 (row * g + g) ≡ ps ++ qs = records_split g every_cell 0 (row * g) g ∙ rw (zero-add (row * g)) in
    rw (more, both)
    (run_behind s s₁ s₂ 64 ps qs to (omega (arith, every_record g 0 (row * g))) (omega (arith, every_record g (row * g) g, rows_room g row low)) e₁ e₂)

pub rows_below : (g row n : ℕ) → g ≤ 256 → row < g * g → size (cube g) ≤ n → (row * g ≤ 16777216) × (64 + 16 * (row * g) + 16 * g ≤ n)
unfolding size
rows_below g row n few low room = let r = rows_room g row low in let m = cube_few g few in (omega (arith, r, m), omega (arith, r, room))

pub rows_all : (g row n : ℕ) → row ≤ g * g → size (cube g) ≤ n → 64 + 16 * (row * g) ≤ n
unfolding size cube
rows_all g row n low room = omega (arith, mul-le-mul low (le_refl g))

pub rows_end : (s s₁ : List ℕ) (g row : ℕ) → row ≡ g * g → s₁ ≡ splice s 64 (points_bytes (records_from g every_cell 0 (row * g))) → s₁ ≡ splice s 64 (points_bytes (records g every_cell))
unfolding records cube
rows_end s s₁ g row e h = rw e at h

pub rows_start : (s : List ℕ) (g : ℕ) → s ≡ splice s 64 (points_bytes (records_from g every_cell 0 (0 * g)))
rows_start s g = rw (zero-mul g) (run_start s 64 g 0)

-- ---- outcomes

pub cost_refused : (g : ℕ) (cause : Cause) → number cause ≡ grid_cause g → told_cost (Err cause) ≡ costliest g
unfolding told_cost costliest
cost_refused g cause e = rw e (sym (refuse_found (grid_cause g) (cost 0 0) _ (rw e at (number_pos cause))))

pub cost_done : (g n k : ℕ) → grid_cause g ≡ 0 → n ≡ node_count (tree_of every 256 (whole g)) → k ≡ cube g → told_cost (Ok (cost n (64 + 80 * n + 4 * k))) ≡ costliest g
unfolding told_cost costliest refuse
cost_done g n k ok e ek =
    let (pos, few) = grid_right g ok in
    let within : Within 256 (whole g) = omega arith in
    let same = e ∙ costliest_counted g pos few every 256 within (every_full 256 (whole g)) in
    rw (ok, costliest_bytes_law g pos few, ← same, ek)

pub write_refused : (g : ℕ) (out : List ℕ) (cause : Cause) → number cause ≡ grid_cause g → outcome (number cause) out ≡ write_costliest g out
unfolding write_costliest write_cause
write_refused g out cause e =
    let found = rw e at (number_pos cause) in
    rw (e, first_found (grid_cause g) (when _ 9) found) (sym (refuse_found (grid_cause g) out _ found))

module _ (g : ℕ) (out : List ℕ) (k : ℕ) (ok : grid_cause g ≡ 0) (ek : k ≡ cube g) where
  pub write_9 : length out < 64 + 16 * k → outcome 9 out ≡ write_costliest g out
  unfolding write_costliest write_cause first when refuse outcome size
  write_9 short = rw (ok, ← ek, lt-ltb (length out) (64 + 16 * k) short)

  header_long : length (costliest_header g) ≡ 64
  unfolding costliest_header
  header_long = length_words _

  module _ (room : 64 + 16 * k ≤ length out) (out₁ : List ℕ) (header : out₁ ≡ splice out 0 (costliest_header g)) where
    pub header_room : size (cube g) ≤ length out₁
    unfolding size
    header_room = omega (arith, ek, ap length header, length_splice out 0 (costliest_header g) (omega (arith, header_long)), header_long)

    pub write_done : (out₂ : List ℕ) → out₂ ≡ splice out₁ 64 (points_bytes (records g every_cell)) → outcome (64 + 16 * k) out₂ ≡ write_costliest g out
    unfolding write_costliest write_cause first when refuse size costliest_file
    write_done out₂ e =
        let rs = points_bytes (records g every_cell) in
        let both = behind out 0 (costliest_header g) rs 64 (omega (arith, ek, header_long, length_points (records g every_cell), cube_records g)) (omega (arith, header_long)) header e in
        rw (ok, ← ek, le-ltb (length out) (64 + 16 * k) room) (ap (outcome (64 + 16 * k)) both)
