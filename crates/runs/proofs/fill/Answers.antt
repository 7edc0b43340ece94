-- `runs::fill` meets its contract: each form has its own; in working form there are as many cells as records. Assumes nothing.
use Prim.Native.Nat.{◌≤◌}
use mathlib.Core.Path.{sym, ◌∙◌, subst}
use lib.ListN.{length}
use Rattle.rym1.specs.File.{grid}
use Rattle.rym1.proofs.Opened.{working_count}
use Rattle.runs.specs.declared.Form.{Form}
use Rattle.runs.specs.Runs.{room_of, Held}
use Rattle.runs.proofs.Runs.{marks_works}
use Rattle.runs.proofs.fill.Goals as goal

pub fill_marks-requires : goal.fill_marks-requires
unfolding room_of
fill_marks-requires c =
    let a = c.args in
    subst (λ (form : Form). room_of form (grid a.file.bytes.now) ≤ length a.words.now) c.in-Marks.is c.requires.room

pub invariant_of-fill_marks : goal.invariant_of-fill_marks
invariant_of-fill_marks c = record { works = marks_works _ (sym c.in-Marks.is ∙ c.requires.form) }

pub fill_counted-requires : goal.fill_counted-requires
unfolding room_of
fill_counted-requires c =
    let a = c.args in
    subst (λ (form : Form). room_of form (grid a.file.bytes.now) ≤ length a.words.now) c.in-Words.is c.requires.room

pub returns-in-Marks : goal.returns-in-Marks
returns-in-Marks c =
    let a = c.args in
    let works = marks_works _ (sym c.in-Marks.is ∙ c.requires.form) in
    let filled = c.fill_marks in
    (c.count.ensures ∙ sym (working_count _ a.file.accepted works), subst (λ (form : Form). Held form filled.new.words a.file.bytes.now) (sym c.in-Marks.is) (works, filled.ensures.0), filled.ensures.1)
