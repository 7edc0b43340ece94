-- `row::is_inside_listed` meets its contract: a row of one point. Assumes nothing.
use mathlib.Core.Path.{sym, ap, ◌∙◌}
use native.Mathlib.Omega.{arith}
use Rattle.filling.specs.declared.Vec3.{Vec3}
use Rattle.filling.specs.Lists.{mesh}
use Rattle.filling.specs.Inside.{yes, is_inside}
use Rattle.row.proofs.Laws.{one_near, one_indexed, one_point, byte_told}
use Rattle.row.proofs.is_inside_listed.Goals as goal

pub invariant_of-row : goal.invariant_of-row
invariant_of-row c = record {
  within = λ e. one_near c.args.o (sym c.vector_up_to.ensures ∙ e);
  indexed = one_indexed c.args.o c.args.lists.now.b c.x_index.result c.x_index.ensures;
  all = omega arith;
}

pub returns : goal.returns
returns c =
    let lists = c.args.lists.now in
    byte_told _ _ (c.listed_answers.ensures.answered 0 (omega arith) ∙ ap (λ (p : Vec3). yes (is_inside lists.b (mesh lists.mesh.bytes.now) p)) (one_point c.args.o))
