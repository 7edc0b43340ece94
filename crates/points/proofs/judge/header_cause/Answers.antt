-- `points::judge::header_cause` meets its contract: each way out rewrites with all tests before it. Assumes nothing.
use Prim.Native.Nat.{ℕ, ◌+◌, ◌*◌, ◌<◌, ◌≤◌}
use mathlib.Core.Path.{◌≡◌, refl, sym, ap, ◌∙◌}
use mathlib.Core.Bool.{Bool, true, false, not, ◌&&◌, ◌||◌}
use mathlib.Core.List.{List}
use native.Mathlib.Omega.{arith}
use lib.ListN.{length}
use borrow.Author.Tests.{lt-ltb, le-ltb, eq-eqb, ne_eqb}
use Rattle.std.proofs.lemmas.Result.{err_from_is_err_and}
use Rattle.rym1.specs.Bytes.{word32}
use Rattle.rym1.specs.Causes.{number, judged, when, first}
use Rattle.rym1.specs.File.{grid, count, size, below, grid_cause, all_finite, header_floats, header_cause}
use Rattle.rym1.proofs.Causes.{number_pos, first_found}
use Rattle.points.proofs.Refused.{not_three}
use Rattle.points.proofs.judge.header_cause.Goals.{then-u32_at-ne827152722-via-then-u32_at-ne827152722, then-u32_at-ne827152722-via-else-u32_at-ne827152722+then-u32_at-ne1}
use Rattle.points.proofs.judge.header_cause.Goals.{else-has_finite_floats-via-then-has_finite_floats+else-has_box, else-has_finite_floats-via-else-has_finite_floats}
use Rattle.points.proofs.judge.header_cause.Goals as goal

-- a file with a header, by its words
module _ (f : List ℕ) (long : 64 ≤ length f) where
  wrong_mark : (m : ℕ) → m ≡ word32 f 0 → (m ≡ 0x314d5952 → ⊥) → 2 ≡ header_cause f
  unfolding number header_cause size when first
  wrong_mark m e h = rw (le-ltb (length f) 64 long, ← e, ne_eqb m 0x314d5952 h)

  module _ (m : ℕ) (e : m ≡ word32 f 0) (mark : m ≡ 0x314d5952) (v : ℕ) (ev : v ≡ word32 f 4) where
    wrong_version : (v ≡ 1 → ⊥) → 2 ≡ header_cause f
    unfolding number header_cause size when first
    wrong_version h = rw (le-ltb (length f) 64 long, ← e, eq-eqb m 0x314d5952 mark, ← ev, ne_eqb v 1 h)

    module _ (version : v ≡ 1) where
      wrong_grid : (k : ℕ) → k ≡ grid_cause (grid f) → 0 < k → k ≡ header_cause f
      unfolding header_cause when first
      wrong_grid k ek h = rw (le-ltb (length f) 64 long, ← e, eq-eqb m 0x314d5952 mark, ← ev, eq-eqb v 1 version, ← ek) (sym (first_found k _ h))

      module _ (right : 0 ≡ grid_cause (grid f)) where
        short : length f < 64 + 16 * count f → 4 ≡ header_cause f
        unfolding header_cause size when first
        short h = rw (le-ltb (length f) 64 long, ← e, eq-eqb m 0x314d5952 mark, ← ev, eq-eqb v 1 version, ← right, lt-ltb (length f) (64 + 16 * count f) h)

        floats : (a b : Bool) → 64 + 16 * count f ≤ length f → all_finite (header_floats f) ≡ a → (below f 0 && (below f 1 && below f 2)) ≡ b
            → when (not a || not b) 5 ≡ header_cause f
        unfolding header_cause size when first
        floats a b h ea eb =
            rw (
              le-ltb (length f) 64 long,
              ← e,
              eq-eqb m 0x314d5952 mark,
              ← ev,
              eq-eqb v 1 version,
              ← right,
              le-ltb (length f) (64 + 16 * count f) h,
              ea,
              not_three (below f 0) (below f 1) (below f 2),
              eb,
            )

pub returns-then-file-lt64 : goal.returns-then-file-lt64
unfolding number judged header_cause when first
returns-then-file-lt64 c = rw (lt-ltb (length c.args.file.now) 64 (omega arith))

pub returns-then-u32_at-ne827152722 : goal.returns-then-u32_at-ne827152722
unfolding number judged
returns-then-u32_at-ne827152722 c =
    let f = c.args.file.now in
    let mark = c.u32_at in
    elim c.then-u32_at-ne827152722.branch [
      | then-u32_at-ne827152722-via-then-u32_at-ne827152722 w ↦ wrong_mark f (omega arith) mark.result mark.ensures (λ z. omega arith)
      | then-u32_at-ne827152722-via-else-u32_at-ne827152722+then-u32_at-ne1 w ↦
          let version = w.u32_at-else-u32_at-ne827152722 in
          wrong_version f (omega arith) mark.result mark.ensures (omega arith) version.result version.ensures (λ z. omega arith)
    ]

pub returns-in_err-grid_cause : goal.returns-in_err-grid_cause
unfolding judged
returns-in_err-grid_cause c =
    let p = err_from_is_err_and c.from_residual.result c.from_residual.ensures.1 in
    let e = c.in_err-grid_cause in
    let mark = c.u32_at in
    let version = c.u32_at-else-u32_at-ne827152722 in
    rw (p.1, p.2)
    (wrong_grid c.args.file.now (omega arith) mark.result mark.ensures (omega arith) version.result version.ensures (omega arith)
    (number e.field-0.0) (e.ensures ∙ ap grid_cause c.grid.ensures) (number_pos e.field-0.0))

pub returns-then-file-n : goal.returns-then-file-n
unfolding number judged
returns-then-file-n c =
    let mark = c.u32_at in
    let version = c.u32_at-else-u32_at-ne827152722 in
    short c.args.file.now (omega arith) mark.result mark.ensures (omega arith) version.result version.ensures (omega arith)
    (c.in_ok-grid_cause.ensures ∙ ap grid_cause c.grid.ensures) (rw (← c.count-n.ensures) (omega arith))

pub returns-then-has_box : goal.returns-then-has_box
unfolding judged when
returns-then-has_box c =
    let mark = c.u32_at in
    let version = c.u32_at-else-u32_at-ne827152722 in
    floats c.args.file.now (omega arith) mark.result mark.ensures (omega arith) version.result version.ensures (omega arith)
    (c.in_ok-grid_cause.ensures ∙ ap grid_cause c.grid.ensures) true true (rw (← c.count-n.ensures) (omega arith))
    (sym c.if-has_finite_floats.ensures) (sym c.if-has_box.ensures)

pub returns : goal.returns
unfolding number judged when
returns c =
    let mark = c.u32_at in
    let version = c.u32_at-else-u32_at-ne827152722 in
    let known = floats c.args.file.now (omega arith) mark.result mark.ensures (omega arith) version.result version.ensures (omega arith)
    (c.in_ok-grid_cause.ensures ∙ ap grid_cause c.grid.ensures) in
    elim c.else-has_finite_floats.branch [
      | else-has_finite_floats-via-then-has_finite_floats+else-has_box w ↦ known true false (rw (← c.count-n.ensures) (omega arith)) (sym w.if-has_finite_floats.ensures) (sym w.if-has_box.ensures)
      | else-has_finite_floats-via-else-has_finite_floats w ↦
          known false _ (rw (← c.count-n.ensures) (omega arith)) (sym w.if-has_finite_floats.ensures) refl
    ]
