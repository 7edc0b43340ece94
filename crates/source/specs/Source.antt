-- What reading a tree's source answers and leaves. Definitions only.
use Rattle.std.specs.Prelude.{ℕ, ◌≤◌, ◌<◌, ◌≡◌, List, length, Result, Ok, Err, IfOk, IfErr}
use Rattle.rym1.specs.declared.Cause.{Cause}
use Rattle.rym1.specs.Causes.{number}
use Rattle.rym1.specs.File.{grid}
use Rattle.rtm1.specs.Build.{source_cause}
use Rattle.runs.specs.declared.Form.{Form}
use Rattle.runs.specs.Runs.{Ready}

-- an answer's number
unfoldable pub cause_of : Result Form Cause → ℕ
cause_of (Ok form) = 0
cause_of (Err c) = number c

-- of the file f with the words s lent, the answer r and the words afterwards
pub record Sourced (f s : List ℕ) (r : Result Form Cause) (s' : List ℕ) : Type 0 where
  pub cause : cause_of r ≡ source_cause f (length s)
  pub some : IfErr r (λ c. 0 < number c)
  pub kept : IfErr r (λ c. number c ≤ 8 → s' ≡ s)
  pub read : IfOk r (λ form. Ready form s' f (grid f))
  pub long : length s' ≡ length s
