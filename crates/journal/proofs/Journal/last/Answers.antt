-- `journal::Journal::last` meets its contract: the three words of the last entry. Assumes nothing.
use Rattle.rym1.specs.Journal.{top, entry_at, entry_of, last_entry}
use Rattle.journal.proofs.Journal.last.Goals as goal

pub returns : goal.returns
unfolding top entry_at entry_of last_entry
returns c = rw c.entries.ensures.0
