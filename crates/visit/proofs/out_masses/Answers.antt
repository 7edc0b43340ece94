-- `visit::out_masses` meets its contract: what is written has the words of both masses, neither too large. Assumes nothing.
use Rattle.binary.proofs.Words.{word_small}
use Rattle.visit.proofs.out_masses.Goals as goal

pub returns-clause-told : goal.returns-clause-told
returns-clause-told c =
    let n = c.narrow in
    let m = c.narrow-2 in
    rw (word_small _ c.in-Some.first n.result n.ensures c.in-Some.is, word_small _ c.in-Some-narrow.second m.result m.ensures c.in-Some-narrow.is)
