-- A set of two or more has its size worked out and its splits searched; any other has its count, 0 and 0.
use Rattle.std.proofs.Common.{◌^◌, ◌≤◌, [], length, sym, ◌∙◌, arith, pow_mono}
use Rattle.relations.specs.Sets.{MOST, rest}
use Rattle.relations.proofs.Parts.{part-le}
use Rattle.relations.proofs.Lowest.{rest_part}
use Rattle.table.specs.Figures.{figures}
use Rattle.table.specs.Tables.{columns, row_at}
use Rattle.table.specs.Rule.{job_for}
use Rattle.table.proofs.Best.{best-left}
use Rattle.table.proofs.Products.{lowest-most}
use Rattle.table.proofs.Rules.{row-alone, row-found}
use Rattle.table.proofs.rows.Rule.row_of.Goals as goal

pub count-size-requires : goal.count-size-requires
count-size-requires c = rw c.lowest.ensures (lowest-most c.args.set.number _ c.requires.within)

pub returns-then-not-is_larger : goal.returns-then-not-is_larger
returns-then-not-is_larger c = λ lefts.
    let small = sym c.is_larger.ensures ∙ c.if-not-is_larger.true in
    let job = job_for c.args.self.model c.args.self.limit in
    let T = columns c.args.sizes.now c.args.costs.now lefts in
    rw (
      row-alone job (figures c.args.self.given.counts.now c.args.self.given.divisors.now) T c.args.set.number small,
      c.count-size.ensures,
      c.lowest.ensures,
    )

pub bounds-sizes-rest : goal.bounds-sizes-rest
bounds-sizes-rest c =
    let s = c.args.set.number in
    omega (arith, c.rest-rest.ensures, part-le (rest s) s (rest_part s), c.requires.within, c.requires.columns_long.0)

pub overflow_cast-left : goal.overflow_cast-left
overflow_cast-left c =
    let fig = figures c.args.self.given.counts.now c.args.self.given.divisors.now in
    let small : 2 ^ length c.args.self.given.counts.now ≤ 2 ^ MOST = pow_mono c.args.self.few in
    let left : c.best_split-best.result.left ≤ c.args.set.number = rw (c.best_split-best.ensures fig []) (best-left _ _) in
    record { fits = omega (arith, c.requires.within) }

pub returns : goal.returns
unfolding row_at
returns c = λ lefts.
    let job = job_for c.args.self.model c.args.self.limit in
    let fig = figures c.args.self.given.counts.now c.args.self.given.divisors.now in
    let T = columns c.args.sizes.now c.args.costs.now lefts in
    row-found job fig T c.args.set.number c.joined-size.result c.best_split-best.result
    (sym c.is_larger.ensures ∙ c.if-not-is_larger.false)
    (rw (← c.rest-rest.ensures) c.joined-size.ensures) (c.best_split-best.ensures fig lefts)
