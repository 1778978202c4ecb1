-- Each check is what the definition computes to, on what the fills left.
use Rattle.std.proofs.Common.{get_or, refl, ap, ◌∙◌, eq-eqb}
use Rattle.table.specs.Demands.{onto}
use Rattle.table.specs.Requests.{fill}
use Rattle.table.specs.Results.{Result, result}
use Rattle.cases.specs.Cases.{passes, widest}
use Rattle.cases.proofs.Found.{plan_is, no_plan_is}
use Rattle.cases.proofs.case_2.Goals as goal

-- The fill that is refused, made on what a result left behind: the second fill is that one, made on what the first left.
abbrev again : Result → Result
again r = result fill (onto (widest 4294967294) r.table)

pub expect-requires : goal.expect-requires
unfolding passes
expect-requires c = rw (c.eq.ensures, plan_is _ (record { cost = 4294967295; size = 4294967295 }) (ap (λ (r : Result). r.answer) c.fill_widest-found.ensures)) refl

pub expect-requires-2 : goal.expect-requires-2
unfolding passes
expect-requires-2 c =
    let refused = c.fill_widest-refused.ensures ∙ ap again c.fill_widest-found.ensures in
    rw (c.eq-2.ensures, no_plan_is _ (ap (λ (r : Result). r.answer) refused)) refl

pub expect-requires-3 : goal.expect-requires-3
unfolding passes
expect-requires-3 c =
    let refused = c.fill_widest-refused.ensures ∙ ap again c.fill_widest-found.ensures in
    eq-eqb _ _ (ap (λ (r : Result). get_or r.table.sizes 3 0) refused)

pub expect-requires-4 : goal.expect-requires-4
unfolding passes
expect-requires-4 c =
    let refused = c.fill_widest-refused.ensures ∙ ap again c.fill_widest-found.ensures in
    eq-eqb _ _ (ap (λ (r : Result). get_or r.table.costs 3 0) refused)

pub expect-requires-5 : goal.expect-requires-5
unfolding passes
expect-requires-5 c =
    let refused = c.fill_widest-refused.ensures ∙ ap again c.fill_widest-found.ensures in
    eq-eqb _ _ (ap (λ (r : Result). get_or r.table.lefts 3 0) refused)
