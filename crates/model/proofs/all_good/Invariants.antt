use Rattle.std.proofs.Common.{◌≡◌, ◌*◌, ◌-◌}
use Rattle.model.specs.Entries.{all_good}
use Rattle.model.proofs.all_good.Given as goal

abbrev pub invariant-loop-i : goal.invariant-loop-i
invariant-loop-i g l =
    let good = g.E.Entries.good l.s in
    all_good g.E.Entries.SIZE good (g.E.Entries.SIZE * l.i) (l.n - l.i) ≡ all_good g.E.Entries.SIZE good 0 l.n
