-- The size rule, with the product of the divisors held.
use Rattle.std.proofs.Common.{◌*◌, ◌∙◌, arith}
use Rattle.std.proofs.Math.Nat.{min_comm}
use Rattle.charges.specs.Charges.{up}
use Rattle.table.specs.Figures.{figures, CEILING}
use Rattle.table.proofs.Products.{lowest-most, places-there, product_pos, joined-held}
use Rattle.table.proofs.sizes.Figures.joined.Goals as goal

pub count-requires : goal.count-requires
count-requires c = rw c.lowest-r.ensures (lowest-most c.args.set.number _ c.requires.within)

pub across-divisor-requires : goal.across-divisor-requires
across-divisor-requires c =
    let fig = figures c.args.self.counts.now c.args.self.divisors.now in
    rw (c.rest.ensures, c.lowest-r.ensures)
    (places-there fig c.args.set.number c.requires.larger_set c.requires.within c.args.self.complete)

pub up-requires : goal.up-requires
up-requires c =
    let fig = figures c.args.self.counts.now c.args.self.divisors.now in
    product_pos fig c.args.set.number c.requires.larger_set c.requires.within c.args.self.complete c.across-divisor.result
    (rw (← c.lowest-r.ensures, ← c.rest.ensures) c.across-divisor.ensures)

pub returns : goal.returns
returns c =
    let fig = figures c.args.self.counts.now c.args.self.divisors.now in
    rw (c.min.ensures, c.from.ensures, c.up.ensures, c.product-product.ensures)
    (min_comm (up (c.args.v * c.count.result) c.across-divisor.result) CEILING
    ∙ joined-held fig c.args.set.number c.requires.larger_set c.requires.within c.args.v c.count.result c.across-divisor.result
    (omega arith) (omega arith)
    (rw (← c.lowest-r.ensures) c.count.ensures) (rw (← c.lowest-r.ensures, ← c.rest.ensures) c.across-divisor.ensures))
