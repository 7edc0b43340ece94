-- `float::axis::axis_index_bits` meets its contract: each way through the code is one range of patterns. Assumes nothing.
use native.Mathlib.Omega.{arith}
use Rattle.float.proofs.WholePart.{none_above, none_below, top_above, under_top, at_top}
use Rattle.float.proofs.axis.axis_index_bits.Goals as goal

pub returns-then-b-ge9218868437227405313 : goal.returns-then-b-ge9218868437227405313
returns-then-b-ge9218868437227405313 c = none_above c.args.b c.if-b-ge9218868437227405313.true

pub returns-then-x-lt1023 : goal.returns-then-x-lt1023
returns-then-x-lt1023 c = none_below c.args.b (omega arith) c.if-x-lt1023.true

pub returns-then-x-gt1029 : goal.returns-then-x-gt1029
returns-then-x-gt1029 c = top_above c.args.b (omega arith) c.if-x-gt1029.true

pub returns-then-whole-lt95 : goal.returns-then-whole-lt95
returns-then-whole-lt95 c =
    let b = c.args.b in
    under_top b (omega arith) c.if-x-lt1023.false c.if-x-gt1029.false (omega arith)

pub returns : goal.returns
returns c =
    let b = c.args.b in
    at_top b (omega arith) c.if-x-lt1023.false c.if-x-gt1029.false (omega arith)
