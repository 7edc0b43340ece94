-- `sums::add_records` meets its contract: the sums so far, with the records to come, are all of them. Assumes nothing.
use Prim.Native.Nat.{◌+◌}
use mathlib.Core.Path.{◌≡◌, refl}
use native.Mathlib.Omega.{arith}
use Rattle.sums.proofs.Added.{record_there, masses_finite_law, adding_turn, adding_end}
use Rattle.sums.proofs.add_records.Goals as goal

pub u16_at-x-requires : goal.u16_at-x-requires
u16_at-x-requires c =
    let there = record_there c.args.file.bytes.now _ (c.args.r.index + c.loop-k.k) c.args.file.accepted (omega (arith, c.requires.0, c.loop-k-test.true)) refl in
    omega (arith, there)

pub mass_at-cauchy-requires : goal.mass_at-cauchy-requires
mass_at-cauchy-requires c =
    let i = c.args.r.index + c.loop-k.k in
    let there = record_there c.args.file.bytes.now _ i c.args.file.accepted (omega (arith, c.requires.0, c.loop-k-test.true)) refl in
    (omega (arith, there), (masses_finite_law c.args.file.bytes.now _ i c.args.file.accepted (omega (arith, c.requires.0, c.loop-k-test.true)) refl).0)

pub mass_at-elliptic-requires : goal.mass_at-elliptic-requires
mass_at-elliptic-requires c =
    let i = c.args.r.index + c.loop-k.k in
    let there = record_there c.args.file.bytes.now _ i c.args.file.accepted (omega (arith, c.requires.0, c.loop-k-test.true)) refl in
    (omega (arith, there), (masses_finite_law c.args.file.bytes.now _ i c.args.file.accepted (omega (arith, c.requires.0, c.loop-k-test.true)) refl).1)

pub loop-k-preserved : goal.loop-k-preserved
loop-k-preserved c =
    let a = c.args in
    let l = c.loop-k in
    let on : a.r.index + (l.k + 1) ≡ a.r.index + l.k + 1 = omega arith in
    rw on
    (adding_turn a.file.bytes.now a.r.z a.r.y (a.r.index + a.r.count) a.s a.r.index l.t c.with_point-t.result _ (a.r.index + l.k) c.u16_at-x.result c.mass_at-cauchy.result c.mass_at-elliptic.result (omega (arith, c.loop-k-test.true)) refl
    c.u16_at-x.ensures.0 c.mass_at-cauchy.ensures c.mass_at-elliptic.ensures c.with_point-t.ensures l.invariant)

pub returns : goal.returns
returns c =
    let a = c.args in
    let l = c.loop-k in
    adding_end a.file.bytes.now a.r.z a.r.y (a.r.index + a.r.count) a.s a.r.index a.r.count l.t (a.r.index + l.k) refl (omega (arith, c.loop-k-test.false)) l.invariant
