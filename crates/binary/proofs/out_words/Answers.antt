-- `binary::out_words` meets its contract: words one behind the other. Assumes nothing.
use Prim.Native.Nat.{ℕ, ◌*◌, ◌+◌}
use mathlib.Core.Path.{refl, sym, ap, ◌∙◌}
use mathlib.Core.List.{List}
use native.Mathlib.Omega.{arith}
use lib.ListN.{get_or}
use Rattle.rym1.specs.Bytes.{le, words_bytes, splice}
use Rattle.rym1.proofs.Bytes.{splice_none, words_more}
use Rattle.binary.proofs.out_words.Goals as goal

pub loop-i-init : goal.loop-i-init
unfolding words_bytes
loop-i-init g c = (refl, sym (splice_none _ c.args.at))

pub loop-i-preserved : goal.loop-i-preserved
loop-i-preserved g c =
    let loop = c.loop-i in (
      c.out_u32.auto.s ∙ loop.invariant.0,
      c.out_u32.ensures
          ∙ ap (λ (l : List ℕ). splice l (c.args.at + 4 * loop.i) (le 4 (get_or c.args.words loop.i 0))) loop.invariant.1
          ∙ words_more c.args.out.now c.args.at c.args.words loop.i (c.args.at + 4 * loop.i) (omega arith) (omega arith) (omega arith),
    )
