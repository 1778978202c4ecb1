-- The contract of the C call determines the number, and what is left in the room for the tree.
use mathlib.Core.Path.{sym, ap, ◌∙◌}
use Rattle.numbers.specs.Determined.{DeterminedWith}
use Rattle.host.specs.Returned.{Result}
use Rattle.host.proofs.buffermoss_plan.Reads as PlanOf

plan_determined : DeterminedWith PlanOf.Post (λ x. x.1.1.1.0.now)
plan_determined k a x y r q p s =
    let e = p ∙ sym s in
    (ap (λ (z : Result). z.number) e, ap (λ (z : Result). z.room) e)
