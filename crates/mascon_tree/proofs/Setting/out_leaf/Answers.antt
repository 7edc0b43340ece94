-- `mascon_tree::Setting::out_leaf` meets its contract: one record, and the order words. Assumes nothing.
use mathlib.Core.Path.{refl, ap}
use Rattle.std.specs.Prelude.{is_some}
use Rattle.mascon_tree.specs.Written.{start}
use native.Mathlib.Omega.{arith}
use Rattle.rym1.specs.Cells.{look}
use Rattle.rtm1.specs.Visit.{visit}
use Rattle.mascon_tree.proofs.Written.{node_room, leaf_short, leaf_room, leaf_large, leaf_fits, index_count, rooted_with}
use Rattle.mascon_tree.proofs.Setting.out_leaf.Goals as goal

pub overflow_add-next-2 : goal.overflow_add-next-2
overflow_add-next-2 c =
    let set = c.args.self.now in
    let short = leaf_short _ _ _ _ _ _ _ _ (visit (look set.lookup.file.bytes.now) set.lookup.g c.args.root.b) c.requires.space in
    record { fits = omega (arith, short, c.requires.counted) }

pub out_record-requires : goal.out_record-requires
out_record-requires c = node_room _ _ _ _ _ _ _ c.requires.space

pub returns-in_err-behind : goal.returns-in_err-behind
returns-in_err-behind c =
    let set = c.args.self.now in
    let root = c.args.root in
    let done = c.out_record in
    let rooted = rooted_with c.leaf_numbers-q.ensures done.ensures in
    rw c.from_residual.ensures
    (leaf_large (is_some set.order) c.args.out.now (start set.order) root.node root.before set.frame root.b root.s _ root.s.count (index_count (visit (look set.lookup.file.bytes.now) set.lookup.g root.b) _ c.requires.counted) refl c.requires.space done.new.out done.result rooted c.in_err-behind.was)

pub out_order-requires-clause-room : goal.out_order-requires-clause-room
out_order-requires-clause-room c =
    let set = c.args.self.now in
    let root = c.args.root in
    let room = leaf_room (is_some set.order) c.args.out.now (start set.order) root.node root.before set.frame root.b root.s (visit (look set.lookup.file.bytes.now) set.lookup.g root.b) c.requires.space c.out_record.new.out c.out_record.auto.out (ap is_some c.in-Some.is) in
    rw c.in-Some.is at room

pub returns-in-Some : goal.returns-in-Some
returns-in-Some c =
    let set = c.args.self.now in
    let root = c.args.root in
    let done = c.out_record in
    let rooted = rooted_with c.leaf_numbers-q.ensures done.ensures in
    leaf_fits (is_some set.order) c.args.out.now (start set.order) root.node root.before set.frame root.b root.s _ root.s.count (index_count (visit (look set.lookup.file.bytes.now) set.lookup.g root.b) _ c.requires.counted) refl c.requires.space done.new.out done.result rooted _ c.out_order.new.out c.in_ok-behind.was (rw c.in-Some.is c.out_order.ensures.bytes)

pub returns-in_default : goal.returns-in_default
returns-in_default c =
    let set = c.args.self.now in
    let root = c.args.root in
    let done = c.out_record in
    let rooted = rooted_with c.leaf_numbers-q.ensures done.ensures in
    leaf_fits (is_some set.order) c.args.out.now (start set.order) root.node root.before set.frame root.b root.s _ root.s.count (index_count (visit (look set.lookup.file.bytes.now) set.lookup.g root.b) _ c.requires.counted) refl c.requires.space done.new.out done.result rooted _ done.new.out c.in_ok-behind.was (rw c.in_default.is refl)
