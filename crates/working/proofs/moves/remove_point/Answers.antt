-- `working::moves::remove_point` meets its contract: the later records move down, the bytes freed become 0, and the count. Assumes nothing.
use Rattle.working.proofs.Moving.{gone}
use Rattle.working.proofs.moves.remove_point.Goals as goal

pub returns : goal.returns
returns c =
    gone _ _ _ _ c.args.i c.count-n.result c.count-n.ensures c.requires.there c.requires.room
    c.copy_within.ensures.after (c.fill.ensures.after (λ y e. e)) c.out_u32.ensures
