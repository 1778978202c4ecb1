-- What every split pays comes to the cost of what is found. Figures and left parts do not matter: the price of a split reads neither.
use Rattle.std.proofs.Common.{arith}
use Rattle.table.specs.Tables.{columns}
use Rattle.table.proofs.Aside.{none-usable, none_found, found}
use Rattle.table.proofs.splits.best_split.Goals as goal

pub returns-then-limit-paid : goal.returns-then-limit-paid
returns-then-limit-paid c = λ fig lefts.
    none-usable c.args.model c.args.limit c.args.size c.charged-paid.result fig (columns c.args.sizes.now c.args.costs.now lefts) c.args.set.number
    (omega (arith, c.requires.limit_low)) c.charged-paid.ensures c.if-limit-paid.true

pub returns-then-room-found : goal.returns-then-room-found
returns-then-room-found c = λ fig lefts.
    none_found c.args.model c.args.limit c.args.size c.charged-paid.result fig (columns c.args.sizes.now c.args.costs.now lefts) c.args.set.number
    (omega (arith, c.requires.limit_low)) c.charged-paid.ensures c.if-limit-paid.false c.run-found.result
    (c.run-found.ensures fig lefts) c.if-room-found.true

pub returns : goal.returns
returns c = λ fig lefts.
    found c.args.model c.args.limit c.args.size c.charged-paid.result fig (columns c.args.sizes.now c.args.costs.now lefts) c.args.set.number
    (omega (arith, c.requires.limit_low)) c.charged-paid.ensures c.if-limit-paid.false c.run-found.result
    (c.run-found.ensures fig lefts) c.if-room-found.false
