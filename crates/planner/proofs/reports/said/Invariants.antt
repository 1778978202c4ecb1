-- Each turn of the loop says the line of one model.
use Rattle.planner.proofs.Reported.{Said}
use Rattle.planner.proofs.reports.said.Given as goal

abbrev pub invariant-loop-model : goal.invariant-loop-model
invariant-loop-model l = Said l.text l.model l.out.items
