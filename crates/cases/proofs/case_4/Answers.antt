-- Each check is what the definition computes to, on what the fill left.
use Rattle.std.proofs.Common.{get_or, refl, ap, ◌∙◌, eq-eqb}
use Rattle.table.specs.Requests.{edit_count}
use Rattle.table.specs.Results.{Result, result}
use Rattle.newick.specs.Results.{Result as Print}
use Rattle.cases.specs.Cases.{passes, shown, LIMIT}
use Rattle.cases.proofs.Found.{plan_is}
use Rattle.cases.proofs.case_4.Goals as goal

-- The edit of case 4, made on what a result left behind.
abbrev again : Result → Result
again r = result (edit_count 2 2000) (record { n = 3; figures = r.figures; model = 0; limit = LIMIT; table = r.table })

pub expect-requires : goal.expect-requires
unfolding passes
expect-requires c =
    let edited = c.edit_count-found.ensures.result ∙ ap again c.fill_three-filled.ensures in
    rw (c.eq.ensures, plan_is _ (record { cost = 8872; size = 8572 }) (ap (λ (r : Result). r.answer) edited)) refl

pub expect-requires-2 : goal.expect-requires-2
unfolding passes
expect-requires-2 c =
    let edited = c.edit_count-found.ensures.result ∙ ap again c.fill_three-filled.ensures in
    eq-eqb _ _ (ap (λ (r : Result). get_or r.figures.counts 1 0) edited)

pub expect-requires-3 : goal.expect-requires-3
unfolding passes
expect-requires-3 c =
    let edited = c.edit_count-found.ensures.result ∙ ap again c.fill_three-filled.ensures in
    rw (c.eq-2.ensures, ap (λ (r : Result). r.table.sizes) edited) refl

pub expect-requires-4 : goal.expect-requires-4
unfolding passes
expect-requires-4 c =
    let edited = c.edit_count-found.ensures.result ∙ ap again c.fill_three-filled.ensures in
    let e = ap (λ (r : Result). shown 3 r.table 10) edited in
    c.is_printed.ensures.1 (ap (λ (p : Print). p.answer) e, ap (λ (p : Print). p.room) e)
