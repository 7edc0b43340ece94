-- `binary::narrow_all` meets its contract: the words before the next one are done, and what is left decides as all do. Assumes nothing.
use Prim.Native.Nat.{ℕ, ◌+◌}
use mathlib.Core.Path.{◌≡◌, refl, sym, ap, ◌∙◌}
use mathlib.Core.Bool.{not, true≢false}
use native.Mathlib.Omega.{arith}
use lib.ListN.{length, take, set, length-set}
use lib.Seq.{take_all, drop-length}
use Rattle.float.specs.Narrow.{float_words, any_large}
use Rattle.rym1.specs.File.{all_finite}
use Rattle.binary.proofs.Words.{words_done, large_ends, finite_goes}
use borrow.Author.Rules.{rules}
use Rattle.binary.proofs.narrow_all.Goals as goal

pub loop-i-init : goal.loop-i-init
unfolding float_words
loop-i-init c = (omega arith, search rules, refl, refl, refl)

pub returns-in_default : goal.returns-in_default
returns-in_default c =
    let loop = c.loop-i in
    let xs = c.args.xs.now in
    let n = c.narrow in
    let end = large_ends xs loop.i (omega arith) n.result n.ensures c.in_default.is in
    record {
      is = ap not (sym end.0 ∙ loop.invariant.3);
      written = λ q. absurd (true≢false (sym q));
      tells = sym loop.invariant.4 ∙ end.1;
    }

pub loop-i-preserved : goal.loop-i-preserved
loop-i-preserved c =
    let loop = c.loop-i in
    let xs = c.args.xs.now in
    let n = c.narrow in
    let goes = finite_goes xs loop.i (omega arith) n.result n.ensures c.in-Some.v c.in-Some.is in
    let word = c.f32_to_bits_with_nan.ensures ∙ n.ensures.written c.in-Some.v c.in-Some.is in (
      omega arith,
      length-set loop.words loop.i _ ∙ loop.invariant.1,
      ap (λ (w : ℕ). take (loop.i + 1) (set loop.words loop.i w)) word ∙ words_done loop.words xs loop.i (omega arith) (omega arith) loop.invariant.2,
      sym goes.0 ∙ loop.invariant.3,
      sym goes.1 ∙ loop.invariant.4,
    )

pub returns : goal.returns
unfolding any_large float_words all_finite
returns c =
    let loop = c.loop-i in
    let xs = c.args.xs.now in
    let done : loop.i ≡ length xs = omega arith in
    record {
      is = ap not (rw (done, drop-length xs) at loop.invariant.3);
      written = λ q. sym (take_all loop.i loop.words (omega arith)) ∙ loop.invariant.2 ∙ ap float_words (take_all loop.i xs (omega arith));
      tells = sym (rw (done, drop-length xs) at loop.invariant.4);
    }
