-- `mascon_tree::build_looked` meets its contract: what judging came to is the room that the writing asks for. Assumes nothing.
use Prim.Native.Nat.{ℕ}
use mathlib.Core.Path.{◌≡◌, sym, ap, ◌∙◌}
use mathlib.Core.List.{List}
use Rattle.std.proofs.lemmas.Result.{err_from_is_err_and}
use Rattle.std.specs.Prelude.{Result, Err}
use Rattle.rym1.specs.declared.Cause.{Cause}
use Rattle.rym1.specs.declared.Cause.TheVariants.{FloatTooLarge}
use Rattle.rym1.specs.Bytes.{splice, words_bytes}
use Rattle.mascon_tree.specs.declared.Next.{Next}
use Rattle.mascon_tree.proofs.Counted.{root_tree, root_few, root_short, root_large, root_fits}
use Rattle.mascon_tree.proofs.Halved.{space_as}
use Rattle.mascon_tree.proofs.Written.{written_as}
use Rattle.mascon_tree.proofs.Outcomes.{way_22, way_9, root_room, way_done}
use Rattle.mascon_tree.proofs.build_looked.Goals as goal

pub returns-in_err-all : goal.returns-in_err-all
returns-in_err-all c =
    let p = err_from_is_err_and c.from_residual.result c.from_residual.ensures.1 in
    let none = c.in_err-all.ensures.ok_part in
    let value : ◌≡◌ {A = Result Next Cause} (Err c.in_err-all.field-0.0) (Err FloatTooLarge) = rw none at c.in_err-all.ensures.value in
    let cause : c.in_err-all.field-0.0 ≡ FloatTooLarge = cc in
    rw (p.1, p.2, cause) (way_22 _ _ (root_large _ _ c.frame_of-frame.ensures _ c.judge_tree.ensures none))

pub returns-then-out-length : goal.returns-then-out-length
returns-then-out-length c =
    let fit = root_fits _ _ c.frame_of-frame.ensures _ c.judge_tree.ensures c.in_ok-all.all c.in_ok-all.ensures.ok_part in
    way_9 _ _ _ fit c.if-out-length.true

pub build_mascon_node-requires-clause-space : goal.build_mascon_node-requires-clause-space
build_mascon_node-requires-clause-space c =
    let ready = c.args.lookup.now.ready in
    let fit = root_fits _ _ c.frame_of-frame.ensures _ c.judge_tree.ensures c.in_ok-all.all c.in_ok-all.ensures.ok_part in
    space_as (sym (root_tree ready c.whole.ensures))
    (root_room c.args.lookup.now.file.bytes.now c.args.out.now _ fit c.if-out-length.false c.frame_of-frame.result c.frame_of-frame.ensures (root_few ready c.whole.ensures) (root_short ready c.whole.ensures) c.out_words.new.out c.out_words.auto.out)

pub returns : goal.returns
returns c =
    let fit = root_fits _ _ c.frame_of-frame.ensures _ c.judge_tree.ensures c.in_ok-all.all c.in_ok-all.ensures.ok_part in
    let header = c.out_words in
    let wrote = c.build_mascon_node in
    way_done c.args.lookup.now.file.bytes.now c.args.out.now _ fit c.if-out-length.false c.frame_of-frame.result c.frame_of-frame.ensures
    header.new.out wrote.new.out _ (header.ensures ∙ ap (λ (ws : List ℕ). splice c.args.out.now 0 (words_bytes ws)) c.header_words.ensures)
    (written_as (root_tree c.args.lookup.now.ready c.whole.ensures) c.in_ok-last.ensures.ok_part wrote.ensures)
