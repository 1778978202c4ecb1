use Rattle.std.proofs.Common.{sym, arith}
use Rattle.std.proofs.Math.Nat.{min_comm}
use Rattle.table.proofs.Products.{taken_next, taken-each, taken-last}
use Rattle.table.proofs.sizes.Figures.across.Goals as goal

pub divisor-requires : goal.divisor-requires
divisor-requires c =
    let at = c.loop-k in
    let step = c.in-Some.ensures.steps in
    rw step.1
    (taken-each c.args.self.divisors.now c.args.r c.args.others.number _ at.product at.k-iterator.left.number c.requires (omega (arith, step.0)) at.invariant)

pub loop-k-preserved : goal.loop-k-preserved
loop-k-preserved c =
    let at = c.loop-k in
    let step = c.in-Some.ensures.steps in
    rw (step.2, c.saturating_mul-product.ensures, c.from.ensures, min_comm)
    (taken_next c.args.self.divisors.now c.args.r c.args.others.number c.args.self.complete.positive at.product at.k-iterator.left.number _
    (omega (arith, step.0)) (rw (← step.1) (sym c.divisor.ensures)) at.invariant)

pub returns : goal.returns
returns c =
    let at = c.loop-k in
    taken-last c.args.self.divisors.now c.args.r c.args.others.number at.product at.k-iterator.left.number c.in-None.ensures.steps.0 at.invariant
