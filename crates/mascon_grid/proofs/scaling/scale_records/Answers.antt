-- `mascon_grid::scaling::scale_records` meets its contract: each way out is its own. Assumes nothing.
use Prim.Native.Nat.{ℕ}
use mathlib.Core.Path.{refl, sym, ap, ◌∙◌}
use mathlib.Core.List.{List}
use lib.ListN.{get_or}
use lib.Ieee.{Float}
use Rattle.float.specs.Narrow.{float_word, float_words}
use Rattle.rym1.specs.declared.Point.{Point}
use Rattle.rym1.specs.Bytes.{splice}
use Rattle.rym1.specs.File.{finite, all_finite, points_bytes}
use Rattle.binary.proofs.Words.{word_large, word_small}
use Rattle.mascon_grid.proofs.Finished.{scale_word, no_scale, no_floats, points_are, by_masses}
use Rattle.mascon_grid.proofs.scaling.scale_records.Goals as goal

pub returns-in_default : goal.returns-in_default
returns-in_default c =
    let a = c.args in
    let n = c.narrow in
    let scale = ap (λ (x : Float). finite (float_word x)) (sym c.scale_of.ensures) ∙ word_large _ n.result n.ensures c.in_default.is in
    no_scale a.f a.w a.target a.density a.out.now scale

pub returns-in_err-narrow_all : goal.returns-in_err-narrow_all
returns-in_err-narrow_all c =
    let a = c.args in
    let n = c.narrow in
    let scale = ap (λ (x : Float). finite (float_word x)) (sym c.scale_of.ensures) ∙ word_small _ c.in-Some.l n.result n.ensures c.in-Some.is in
    let floats = ap (λ (l : List Float). all_finite (float_words l)) (sym c.header_floats-floats.ensures) ∙ c.in_err-narrow_all.ensures.tells in
    rw c.from_residual.ensures (no_floats a.f a.w a.target a.density a.out.now scale floats)

pub returns-in_err-scale_masses : goal.returns-in_err-scale_masses
returns-in_err-scale_masses c =
    let a = c.args in
    let n = c.narrow in
    let all = c.in_ok-narrow_all.ensures in
    let hf = c.header_floats-floats.ensures in
    let scale = ap (λ (x : Float). finite (float_word x)) (sym c.scale_of.ensures) ∙ word_small _ c.in-Some.l n.result n.ensures c.in-Some.is in
    let floats = ap (λ (l : List Float). all_finite (float_words l)) (sym hf) ∙ all.tells in
    let k = ap (λ (l : List ℕ). get_or l 2 0) (all.written refl ∙ ap float_words hf) ∙ scale_word a.f a.w a.target a.density in
    let l = c.f32_to_bits_with_nan.ensures ∙ n.ensures.written c.in-Some.l c.in-Some.is ∙ ap float_word c.scale_of.ensures in
    rw c.from_residual-in_err-scale_masses.ensures (by_masses a.f a.w a.target a.density a.out.now scale floats _ _ k l ∙ sym c.in_err-scale_masses.ensures.0)

pub returns : goal.returns
returns c =
    let a = c.args in
    let n = c.narrow in
    let all = c.in_ok-narrow_all.ensures in
    let hf = c.header_floats-floats.ensures in
    let scale = ap (λ (x : Float). finite (float_word x)) (sym c.scale_of.ensures) ∙ word_small _ c.in-Some.l n.result n.ensures c.in-Some.is in
    let floats = ap (λ (l : List Float). all_finite (float_words l)) (sym hf) ∙ all.tells in
    let words = all.written refl ∙ ap float_words hf in
    let k = ap (λ (l : List ℕ). get_or l 2 0) words ∙ scale_word a.f a.w a.target a.density in
    let l = c.f32_to_bits_with_nan.ensures ∙ n.ensures.written c.in-Some.l c.in-Some.is ∙ ap float_word c.scale_of.ensures in
    let s = c.in_ok-scale_masses.ensures in (
      by_masses a.f a.w a.target a.density a.out.now scale floats _ _ k l ∙ sym s.0,
      words,
      s.1 refl ∙ ap (λ (ps : List Point). splice a.out.now 64 (points_bytes ps)) (points_are a.f a.w a.target a.density a.out.now scale floats _ _ k l),
    )
