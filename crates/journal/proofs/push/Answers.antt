-- `journal::push` meets its contract: its stores are the journal with an entry more. Assumes nothing.
use Rattle.rym1.proofs.Journal.{pushed_stores}
use Rattle.journal.proofs.Counted.{word_0, more_room}
use Rattle.journal.proofs.push.Goals as goal

pub returns : goal.returns
returns c =
    let j = c.args.journal.now in
    pushed_stores j _ _ c.args.entry.head c.args.entry.cauchy c.args.entry.elliptic
    (word_0 j c.requires.accepted) (more_room j c.requires.accepted c.requires.free) c.copy_from_slice.ensures.after
