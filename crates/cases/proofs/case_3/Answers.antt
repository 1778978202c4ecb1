-- Each check is what the definition computes to.
use Rattle.std.proofs.Common.{refl, ap}
use Rattle.table.specs.Results.{Result}
use Rattle.newick.specs.Results.{Result as Print}
use Rattle.cases.specs.Cases.{passes, shown}
use Rattle.cases.proofs.Found.{plan_is}
use Rattle.cases.proofs.case_3.Goals as goal

pub expect-requires : goal.expect-requires
unfolding passes
expect-requires c = rw (c.eq.ensures, plan_is _ (record { cost = 106; size = 86 }) (ap (λ (r : Result). r.answer) c.fill_three-found.ensures)) refl

pub expect-requires-2 : goal.expect-requires-2
unfolding passes
expect-requires-2 c = rw (c.eq-2.ensures, ap (λ (r : Result). r.table.sizes) c.fill_three-found.ensures) refl

pub expect-requires-3 : goal.expect-requires-3
unfolding passes
expect-requires-3 c =
    let e = ap (λ (r : Result). shown 3 r.table 10) c.fill_three-found.ensures in
    c.is_printed.ensures.1 (ap (λ (p : Print). p.answer) e, ap (λ (p : Print). p.room) e)
