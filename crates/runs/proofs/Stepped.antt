-- What a call of the runs' iterator gives, said of the file that they are read from. Assumes nothing.
use Prim.Native.Nat.{ℕ, ◌+◌, ◌≤◌}
use mathlib.Core.Path.{◌≡◌, ap, ◌∙◌, subst}
use mathlib.Core.List.{List, ◌++◌}
use Rattle.std.specs.Prelude.{Some}
use Rattle.rym1.specs.File.{count}
use Rattle.runs.specs.declared.walk.Stretch.{Stretch}
use Rattle.runs.specs.declared.walk.Runs.{Runs}
use Rattle.runs.specs.Walk.{file_of, left, points_of, Stepped}

module _ (f : List ℕ) (s t : Runs) (p : Stretch) (same : file_of s ≡ f) (d : Stepped s (Some p) t) where
  pub first_points : left s ≡ points_of f p ++ left t
  first_points = d.step.0 ∙ ap (λ (k : List ℕ). points_of k p ++ left t) same

  pub in_file : p.index + p.count ≤ count f
  in_file = subst (λ (k : List ℕ). p.index + p.count ≤ count k) same d.step.1

  pub same_file : file_of t ≡ f
  same_file = d.same ∙ same
