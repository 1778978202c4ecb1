-- No split is charged less than empty parts.
use Rattle.std.proofs.Common.{arith}
use Rattle.charges.proofs.Laws.{charge_bounded, charge-least}
use Rattle.table.proofs.splits.split_charge.Goals as goal

pub overflow_sub-result : goal.overflow_sub-result
overflow_sub-result c = omega (arith, charge-least c.args.model c.args.a c.args.b c.args.o)

pub returns-clause-low : goal.returns-clause-low
returns-clause-low c =
    let a = c.args in
    omega (arith, c.charged.ensures, charge_bounded a.model a.a a.b a.o c.ranges.a.fits c.ranges.b.fits c.ranges.o.fits)
