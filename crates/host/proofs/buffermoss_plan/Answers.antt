-- A plan's text is short.
use Rattle.std.proofs.Common.{arith}
use Rattle.planner.proofs.Lengths.{plan-short}
use Rattle.host.proofs.buffermoss_plan.Goals as goal

pub overflow_cast-result : goal.overflow_cast-result
overflow_cast-result c = omega (arith, plan-short _ _ _ _ _ _ c.in-Ok.ensures.result)

pub overflow_add-result : goal.overflow_add-result
overflow_add-result c = omega (arith, plan-short _ _ _ _ _ _ c.in-Ok.ensures.result)
