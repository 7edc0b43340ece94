-- The cycle of calls {build_mascon_node}. The measure is the number of cells, the product of the box's widths.
-- The laws of `Written` say what each kind of node comes to and leaves in the buffer; what is here ties the code's places to them. Assumes nothing.
use mathlib.Core.Path.{refl, sym, ◌∙◌}
use native.Mathlib.Omega.{arith}
use Rattle.rym1.specs.Cells.{look}
use Rattle.rtm1.proofs.Boxes.{within_most}
use Rattle.rtm1.proofs.Growth.{tree_empty}
use Rattle.rtm1.proofs.Order.{empty_sums}
use Rattle.runs.proofs.Runs.{grid_few}
use Rattle.mascon_tree.specs.Written.{start}
use Rattle.mascon_tree.proofs.Halved.{kind_is, leafed, halved, space_as}
use Rattle.mascon_tree.proofs.Written.{node_low, node_room, room_low, room_high, written_as, written_empty, split_low, split_high, written_split}
use Rattle.mascon_tree.proofs.Setting.+build_mascon_node.Goals as goal

pub invariant_of-root : goal.invariant_of-root
invariant_of-root t c = record { within = within_most _ c.args.b (grid_few c.args.self.now.lookup.ready) c.requires.within; low = node_low _ _ _ _ _ _ _ c.requires.space }

pub out_empty-requires : goal.out_empty-requires
out_empty-requires t c = node_room _ _ _ _ _ _ _ c.requires.space

pub returns-in-Empty : goal.returns-in-Empty
returns-in-Empty t c =
    let set = c.args.self.now in
    let k = kind_is (look set.lookup.file.bytes.now) set.lookup.g c.args.b c.sums_of-s.result c.sums_of-s.ensures.counted c.kind_of.ensures c.in-Empty.is in
    let tree = tree_empty (look set.lookup.file.bytes.now) set.lookup.g c.args.b k in
    written_as (sym tree) refl
    (written_empty _ _ (start set.order) _ _ _ _ _ _ _ (c.sums_of-s.ensures.value ∙ empty_sums (look set.lookup.file.bytes.now) set.lookup.g c.args.b k) (space_as tree c.requires.space) c.out_empty.ensures)

pub invariant_of-root-in-Leaf : goal.invariant_of-root-in-Leaf
invariant_of-root-in-Leaf t c = record { within = within_most _ c.args.b (grid_few c.args.self.now.lookup.ready) c.requires.within; low = node_low _ _ _ _ _ _ _ c.requires.space }

pub out_leaf-requires-clause-space : goal.out_leaf-requires-clause-space
out_leaf-requires-clause-space t c =
    space_as (leafed (look c.args.self.now.lookup.file.bytes.now) _ _ _ c.sums_of-s.ensures.value c.sums_of-s.ensures.counted c.kind_of.ensures c.in-Leaf.is) c.requires.space

pub returns-in-Leaf : goal.returns-in-Leaf
returns-in-Leaf t c =
    written_as (sym (leafed (look c.args.self.now.lookup.file.bytes.now) _ _ _ c.sums_of-s.ensures.value c.sums_of-s.ensures.counted c.kind_of.ensures c.in-Leaf.is)) refl c.out_leaf.ensures

pub overflow_add-node : goal.overflow_add-node
overflow_add-node t c =
    let few = node_low _ _ _ _ _ _ _ c.requires.space in record { fits = omega (arith, few) }

pub build_mascon_node-requires : goal.build_mascon_node-requires
build_mascon_node-requires t c =
    let two = halved (look c.args.self.now.lookup.file.bytes.now) _ _ _ _ _ c.requires.within c.sums_of-s.ensures.value c.sums_of-s.ensures.counted c.kind_of.ensures c.in-Split.is c.halves-half.ensures in
    (omega (arith, c.decreases, two.low_fewer), (two.low, room_low _ _ _ _ _ _ _ _ _ _ (space_as two.tree c.requires.space)))

pub returns-in_err-l-in-Split : goal.returns-in_err-l-in-Split
returns-in_err-l-in-Split t c =
    let two = halved (look c.args.self.now.lookup.file.bytes.now) _ _ _ _ _ c.requires.within c.sums_of-s.ensures.value c.sums_of-s.ensures.counted c.kind_of.ensures c.in-Split.is c.halves-half.ensures in
    let first = c.build_mascon_node in
    written_as (sym two.tree) (sym c.from_residual.ensures)
    (split_low _ _ _ _ _ _ _ _ _ _ (space_as two.tree c.requires.space) first.new.out (written_as refl c.in_err-l-in-Split.was first.ensures))

pub build_mascon_node-requires-in-Split : goal.build_mascon_node-requires-in-Split
build_mascon_node-requires-in-Split t c =
    let two = halved (look c.args.self.now.lookup.file.bytes.now) _ _ _ _ _ c.requires.within c.sums_of-s.ensures.value c.sums_of-s.ensures.counted c.kind_of.ensures c.in-Split.is c.halves-half.ensures in
    let first = c.build_mascon_node in
    let l = c.in_ok-l-in-Split in
    (omega (arith, c.decreases, two.high_fewer), (two.high, room_high _ _ _ _ _ _ _ _ _ _ (space_as two.tree c.requires.space) _ l.l first.auto.out (sym l.was ∙ first.ensures.judged)))

pub returns-in_err-r-in-Split : goal.returns-in_err-r-in-Split
returns-in_err-r-in-Split t c =
    let two = halved (look c.args.self.now.lookup.file.bytes.now) _ _ _ _ _ c.requires.within c.sums_of-s.ensures.value c.sums_of-s.ensures.counted c.kind_of.ensures c.in-Split.is c.halves-half.ensures in
    let first = c.build_mascon_node in
    let second = c.build_mascon_node-in-Split in
    let l = c.in_ok-l-in-Split in
    written_as (sym two.tree) (sym c.from_residual-in_err-r-in-Split.ensures)
    (split_high _ _ _ _ _ _ _ _ _ _ (space_as two.tree c.requires.space) first.new.out second.new.out l.l (written_as refl l.was first.ensures) (written_as refl c.in_err-r-in-Split.was second.ensures))

pub invariant_of-root-in-Split : goal.invariant_of-root-in-Split
invariant_of-root-in-Split t c = record { within = within_most _ c.args.b (grid_few c.args.self.now.lookup.ready) c.requires.within; low = node_low _ _ _ _ _ _ _ c.requires.space }

pub out_split-requires : goal.out_split-requires
out_split-requires t c =
    let room = c.requires.space in
    let same = c.build_mascon_node-in-Split.auto.out ∙ c.build_mascon_node.auto.out in
    λ w. omega (arith, node_room _ _ _ _ _ _ _ room w, same)

pub returns-in_ok-r-in-Split : goal.returns-in_ok-r-in-Split
returns-in_ok-r-in-Split t c =
    let two = halved (look c.args.self.now.lookup.file.bytes.now) _ _ _ _ _ c.requires.within c.sums_of-s.ensures.value c.sums_of-s.ensures.counted c.kind_of.ensures c.in-Split.is c.halves-half.ensures in
    let first = c.build_mascon_node in
    let second = c.build_mascon_node-in-Split in
    let last = c.out_split in
    let l = c.in_ok-l-in-Split in
    let r = c.in_ok-r-in-Split in
    written_as (sym two.tree) refl
    (written_split _ _ _ _ _ _ _ _ _ _ (space_as two.tree c.requires.space) first.new.out second.new.out l.l (written_as refl l.was first.ensures)
    r.r (written_as refl r.was second.ensures) last.new.out last.result last.ensures)
