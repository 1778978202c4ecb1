-- Each check is what the definition computes to, on what the fill left.
use Rattle.std.proofs.Common.{refl, ap, ◌∙◌}
use Rattle.table.specs.Results.{Result}
use Rattle.newick.specs.Results.{Result as Print}
use Rattle.cases.specs.Cases.{passes, shown}
use Rattle.cases.proofs.Found.{short_is}
use Rattle.cases.proofs.case_8.Goals as goal

pub expect-requires : goal.expect-requires
unfolding passes
expect-requires c =
    let short = c.print-refused.ensures.result ∙ ap (λ (r : Result). shown 3 r.table 9) c.fill_three-filled.ensures in
    rw (c.eq.ensures, short_is _ (ap (λ (p : Print). p.answer) short)) refl

pub expect-requires-2 : goal.expect-requires-2
unfolding passes
expect-requires-2 c =
    let short = c.print-refused.ensures.result ∙ ap (λ (r : Result). shown 3 r.table 9) c.fill_three-filled.ensures in
    rw (c.eq-2.ensures, ap (λ (p : Print). p.room) short) refl

pub expect-requires-3 : goal.expect-requires-3
unfolding passes
expect-requires-3 c =
    let e = ap (λ (r : Result). shown 3 r.table 10) c.fill_three-filled.ensures in
    c.is_printed.ensures.1 (ap (λ (p : Print). p.answer) e, ap (λ (p : Print). p.room) e)
