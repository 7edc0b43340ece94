-- There is at most one proof that words are ready: a ghost field asks for it.
use Rattle.std.specs.Prelude.{ℕ, List}
use Rattle.std.specs.Coded.{le_prop}
use Rattle.std.proofs.Math.Nat.{ℕ_set}
use Rattle.runs.specs.declared.Form.{Form}
use Rattle.runs.specs.declared.Form.TheVariants.{Marks, Words}
use Rattle.runs.specs.Runs.{Held, Ready}

pub Held-prop : (form : Form) (words f : List ℕ) → IsProp (Held form words f)
Held-prop Marks words f = hlevel (le_prop, ℕ_set)
Held-prop Words words f = hlevel (le_prop, ℕ_set)

pub Ready-prop : (form : Form) (words f : List ℕ) (g : ℕ) → IsProp (Ready form words f g)
Ready-prop form words f g = hlevel (le_prop, ℕ_set, Held-prop form words f)
