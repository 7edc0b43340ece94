-- `row::row_pair` meets its contract: the x of the point plays no part. Assumes nothing.
use Rattle.filling.specs.Inside.{indices}
use Rattle.filling.specs.Rows.{pair_of, row_pair}
use Rattle.row.proofs.row_pair.Goals as goal

pub returns : goal.returns
unfolding row_pair pair_of indices
returns c = rw c.indices-at.ensures
