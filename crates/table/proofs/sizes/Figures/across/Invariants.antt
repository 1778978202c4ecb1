-- The relations are taken the lowest first, and what is left of the set is what the iterator has left.
use Rattle.table.proofs.Products.{Taken}
use Rattle.table.proofs.sizes.Figures.across.Given as goal

abbrev pub invariant-loop-k : goal.invariant-loop-k
invariant-loop-k l = Taken l.self.divisors.now l.r l.fn.others.number l.product l.k-iterator.left.number
