-- A half of a number above 1 is less than the number.
use Rattle.exhaustive.proofs.prices.sorting.Given as goal

abbrev pub decreases-loop-rest : goal.decreases-loop-rest
decreases-loop-rest l = l.rest
