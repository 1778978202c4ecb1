-- Each left part is the step from the one before it, and nothing has a price between them. Figures and left parts do not matter: the price
-- of a split reads neither.
use Rattle.std.proofs.Common.{ℕ, ◌-◌, List, []}
use Rattle.table.specs.Figures.{figures}
use Rattle.table.specs.Tables.{columns}
use Rattle.table.specs.Rule.{price}
use Rattle.table.specs.Inner.{split_job}
use Rattle.table.specs.declared.splits.Split.{Split}
use Rattle.table.proofs.Search.{Tried, quiet_price}
use Rattle.table.proofs.splits.Search.run.Given as goal

module _ (sizes costs : List ℕ) (model room o S : ℕ) where
  abbrev pub Come : ℕ → Split → Type 0
  Come =
      Tried (price (split_job model room) (figures [] []) (columns sizes costs []) S o) room S
      (quiet_price (split_job model room) (figures [] []) (columns sizes costs []) S o)

abbrev pub invariant-loop-left : goal.invariant-loop-left
invariant-loop-left l = Come l.self.sizes.now l.self.costs.now l.model l.self.room l.self.size l.self.set.number l.left.number l.best

abbrev pub decreases-loop-left : goal.decreases-loop-left
decreases-loop-left l = l.self.set.number - l.left.number
