-- The walk goes on to lower numbers.
use Rattle.newick.proofs.walks.+meets_fault.Given as goal

abbrev pub decreases-meets_fault : goal.decreases-meets_fault
decreases-meets_fault l = l.set.number
