-- `lookup::fill_counted` meets its contract: the words that are not 0 are the occupied cells. Assumes nothing.
use mathlib.Core.Path.{ap, ◌∙◌}
use Rattle.rym1.specs.File.{cube}
use Rattle.lookup.proofs.Words.{marked_occupied}
use Rattle.lookup.proofs.fill_counted.Goals as goal

pub returns : goal.returns
returns c =
    let looked = c.fill_lookup.ensures in
    let all = marked_occupied c.fill_lookup.new.words _ c.cells.result looked.0 (c.cells.ensures.0 ∙ ap cube c.grid.ensures.value) in
    (c.count_marked.ensures.0 ∙ all, looked.0, looked.1)
