-- What the narrowing of a list answers and leaves. Definitions only.
use Rattle.std.specs.Prelude.{ℕ, ◌≡◌, true, not, List, Float, Option, is_some}
use Rattle.float.specs.Narrow.{float_words, any_large}
use Rattle.rym1.specs.File.{all_finite}

pub record Narrowing (xs : List Float) (r : Option (Unit {0})) (words : List ℕ) : Type 0 where
  pub is : is_some r ≡ not (any_large xs)
  pub written : is_some r ≡ true → words ≡ float_words xs
  pub tells : all_finite (float_words xs) ≡ is_some r
