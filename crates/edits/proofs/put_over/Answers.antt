-- `edits::put_over` meets its contract: the record and its entry are those of the definition. Assumes nothing.
use mathlib.Core.Path.{refl, ap, ◌∙◌}
use Rattle.rym1.specs.declared.Point.{Point}
use Rattle.rym1.specs.Causes.{told}
use Rattle.rym1.specs.File.{point_at}
use Rattle.rym1.specs.Journal.{pushed}
use Rattle.journal.specs.Entry.{number}
use Rattle.edits.proofs.Putting.{put_over_done}
use Rattle.edits.proofs.put_over.Goals as goal

pub returns : goal.returns
unfolding told number point_at
returns c =
    put_over_done c.args.file.now c.args.journal.now c.args.c c.args.i c.args.p
    c.requires.sound c.requires.own c.requires.spotted c.count-n.result c.point_at-before.result.cauchy c.point_at-before.result.elliptic _ _ _
    c.count-n.ensures (ap (λ (p : Point). p.cauchy) c.point_at-before.ensures) (ap (λ (p : Point). p.elliptic) c.point_at-before.ensures) c.out_point.ensures (c.push.ensures ∙ ap (pushed c.args.journal.now) c.new.ensures) refl
