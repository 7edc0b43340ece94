-- `points::judge::is_below` meets its contract: the comparison of the two patterns' floats. Assumes nothing.
use mathlib.Core.Path.{◌∙◌, ap}
use lib.Ieee.{binary32, of_bits, lt}
use Rattle.rym1.specs.File.{below, box_min, box_max}
use Rattle.points.proofs.judge.is_below.Goals as goal

pub returns : goal.returns
unfolding below box_min box_max
returns c =
    let min = c.f32_from_bits_with_nan-min.ensures ∙ ap (of_bits binary32) c.u32_at.ensures in
    let max = c.f32_from_bits_with_nan-max.ensures ∙ ap (of_bits binary32) c.u32_at-2.ensures in
    (λ i. lt (min i) (max i))
