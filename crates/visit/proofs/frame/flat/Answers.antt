-- `visit::frame::flat` meets its contract: both are narrowed; what is too large is below nothing, which the check finds. Assumes nothing.
use Rattle.binary.proofs.Words.{word_small}
use Rattle.filling.specs.Fill.{below_narrowed, flat}
use Rattle.visit.proofs.frame.flat.Goals as goal

pub returns : goal.returns
unfolding flat below_narrowed
returns c =
    let n = c.narrow in
    let m = c.narrow-2 in
    let low = c.in-Some-Some.low in
    let high = c.in-Some-Some.high in
    rw (
      word_small _ low n.result n.ensures c.in-Some-Some.is-0,
      word_small _ high m.result m.ensures c.in-Some-Some.is-1,
      n.ensures.value low c.in-Some-Some.is-0,
      m.ensures.value high c.in-Some-Some.is-1,
    )
