-- The register's start: what the replayed records leave is the file's map. Assumes nothing.
use Prim.Native.Nat.{ℕ, suc}
use mathlib.Core.Path.{◌≡◌, refl, sym, ap, ◌∙◌, fun_ext}
use mathlib.Core.Option.{Option, none, some}
use mathlib.Core.List.{List, [], ◌∷◌}
use native.Mathlib.Decide.{ℕ_discrete}
use borrow.Author.Tests.{eq-eqb, ne_eqb}
use Rattle.rym1.specs.declared.Point.{Point}
use Rattle.rym1.specs.File.{grid, points, cell, cell_of}
use Rattle.rym1.specs.Cells.{Masses, Map, Slot, vacant, held, masses_of, named, later, look_from, look, masses_in, mass_map}
use Rattle.rym1.proofs.Cells.{named_same, named_other}
use Rattle.register.specs.Register.{cell_at, update, replayed}

-- what a slot holds, over what was there
unfoldable over : Slot → Option Masses → Option Masses
over vacant o = o
over (held i m) o = some m

over_later : (s t : Slot) (o : Option Masses) → over s (over t o) ≡ over (later s t) o
unfolding over later
over_later vacant t o = refl
over_later (held i m) t o = refl

over_none : (s : Slot) → over s none ≡ masses_in s
unfolding over masses_in
over_none vacant = refl
over_none (held i m) = refl

one_record : (g i : ℕ) (m : Map) (p : Point) (c : ℕ) → update m (cell_of g p) (some (masses_of p)) c ≡ over (named g i p c) (m c)
unfolding update over
one_record g i m p c = elim (ℕ_discrete c (cell_of g p)) [
  | yes e ↦ rw (eq-eqb c (cell_of g p) e, named_same g i p c (sym e))
  | no h ↦ rw (ne_eqb c (cell_of g p) h, named_other g i p c (λ e. h (sym e)))
]

replayed_from : (g i : ℕ) (m : Map) (ps : List Point) (c : ℕ) → replayed g m ps c ≡ over (look_from g i ps c) (m c)
unfolding replayed look_from over cell_of cell cell_at masses_of
replayed_from g i m [] c = refl
replayed_from g i m (p ∷ ps) c =
    replayed_from g (suc i) _ ps c
    ∙ ap (λ (o : Option Masses). over (look_from g (suc i) ps c) o) (one_record g i m p c)
    ∙ over_later (look_from g (suc i) ps c) (named g i p c) (m c)

pub replayed_is : (f : List ℕ) (c : ℕ) → replayed (grid f) (λ c. none) (points f) c ≡ mass_map f c
unfolding mass_map look
replayed_is f c = replayed_from (grid f) 0 (λ c. none) (points f) c ∙ over_none (look_from (grid f) 0 (points f) c)

pub start_map : (f : List ℕ) → replayed (grid f) (λ c. none) (points f) ≡ mass_map f
start_map f = fun_ext λ c. replayed_is f c
