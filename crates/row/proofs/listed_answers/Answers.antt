-- `row::listed_answers` meets its contract: the row has one of the pairs. Assumes nothing.
use Rattle.row.proofs.Laws.{pair_below}
use Rattle.row.proofs.listed_answers.Goals as goal

pub list_of-list-requires : goal.list_of-list-requires
list_of-list-requires c = pair_below c.args.lists.now.b c.args.row.now.y c.args.row.now.z c.row_pair.result c.row_pair.ensures
