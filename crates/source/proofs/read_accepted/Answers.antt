-- `source::read_accepted` meets its contract: each way out is its own. Assumes nothing.
use mathlib.Core.Path.{ap, ◌∙◌}
use Rattle.runs.specs.Runs.{room_of}
use Rattle.source.proofs.Ways.{way_8, way_21, way_read}
use Rattle.source.proofs.read_accepted.Goals as goal

pub returns-then-words-room : goal.returns-then-words-room
returns-then-words-room c =
    let form = c.form_of-form in
    way_8 _ _ c.args.file.accepted form.result form.ensures c.room.result (c.room.ensures ∙ ap (room_of form.result) c.grid.ensures.value) c.if-words-room.true

pub returns-then-fill-count : goal.returns-then-fill-count
returns-then-fill-count c =
    let form = c.form_of-form in
    let filled = c.fill in
    way_21 _ _ c.args.file.accepted form.result form.ensures c.room.result (c.room.ensures ∙ ap (room_of form.result) c.grid.ensures.value) c.if-words-room.false
    _ filled.ensures.1 filled.ensures.2 filled.result c.count.result filled.ensures.0 c.count.ensures c.if-fill-count.true

pub returns : goal.returns
returns c =
    let form = c.form_of-form in
    let filled = c.fill in
    way_read _ _ c.args.file.accepted form.result form.ensures c.room.result (c.room.ensures ∙ ap (room_of form.result) c.grid.ensures.value) c.if-words-room.false
    _ filled.ensures.1 filled.ensures.2 filled.result c.count.result filled.ensures.0 c.count.ensures c.if-fill-count.false
