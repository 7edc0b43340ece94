-- An entry as the code holds it: three words. Definitions only.
use Rattle.std.specs.Prelude.{ℕ, ◌/◌, ◌%◌, List, [], ◌∷◌, Option, Some, None}
use Rattle.rym1.specs.Journal as journal
use Rattle.journal.specs.declared.Entry.{Entry}
use Rattle.journal.specs.declared.Kind.{Kind}
use Rattle.journal.specs.declared.Kind.TheVariants.{Added, Replaced, Removed}

-- 01's number of each kind, and 0 for none
unfoldable pub number : Kind → ℕ
number Added = 1
number Replaced = 2
number Removed = 3

unfoldable pub kind_number : Option Kind → ℕ
kind_number (Some k) = number k
kind_number None = 0

abbrev pub words : Entry → List ℕ
words e = e.head ∷ e.cauchy ∷ e.elliptic ∷ []

-- what they say
abbrev pub said : Entry → journal.Entry
said e =
    record {
      kind = e.head / 1073741824 % 4;
      gap = e.head / 16777216 % 64;
      cell = e.head % 16777216;
      cauchy = e.cauchy;
      elliptic = e.elliptic;
    }
