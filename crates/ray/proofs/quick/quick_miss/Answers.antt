-- `ray::quick::quick_miss` reads numbers: a triangle within bounds has no NaN's pattern. Assumes nothing.
use native.Mathlib.Omega.{arith}
use Rattle.filling.proofs.Lists.{triangle_numbers}
use Rattle.ray.proofs.quick.quick_miss.Goals as goal

pub number_at-ay-requires : goal.number_at-ay-requires
number_at-ay-requires c = (omega (arith, c.args.t.inside), (triangle_numbers c.args.t.s.now c.args.t.at c.args.t.good).0.y)

pub number_at-az-requires : goal.number_at-az-requires
number_at-az-requires c = (omega (arith, c.args.t.inside), (triangle_numbers c.args.t.s.now c.args.t.at c.args.t.good).0.z)

pub number_at-requires : goal.number_at-requires
number_at-requires c = (omega (arith, c.args.t.inside), (triangle_numbers c.args.t.s.now c.args.t.at c.args.t.good).1.y)

pub number_at-requires-2 : goal.number_at-requires-2
number_at-requires-2 c = (omega (arith, c.args.t.inside), (triangle_numbers c.args.t.s.now c.args.t.at c.args.t.good).1.z)

pub number_at-requires-3 : goal.number_at-requires-3
number_at-requires-3 c = (omega (arith, c.args.t.inside), (triangle_numbers c.args.t.s.now c.args.t.at c.args.t.good).2.y)

pub number_at-requires-4 : goal.number_at-requires-4
number_at-requires-4 c = (omega (arith, c.args.t.inside), (triangle_numbers c.args.t.s.now c.args.t.at c.args.t.good).2.z)
