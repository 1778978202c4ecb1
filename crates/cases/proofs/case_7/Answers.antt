-- The check is what the definition computes to.
use Rattle.std.proofs.Common.{refl, ap}
use Rattle.table.specs.Results.{Result}
use Rattle.cases.specs.Cases.{passes}
use Rattle.cases.proofs.Found.{plan_is}
use Rattle.cases.proofs.case_7.Goals as goal

pub expect-requires : goal.expect-requires
unfolding passes
expect-requires c = rw (c.eq.ensures, plan_is _ (record { cost = 0; size = 0 }) (ap (λ (r : Result). r.answer) c.fill-found.ensures.result)) refl
