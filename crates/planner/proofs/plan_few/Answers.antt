-- The first n counts and the divisors of their pairs are lent to the fill.
use Rattle.std.proofs.Common.{◌≡◌, ◌≤◌, ◌*◌, ◌-◌, ◌/◌, ℕ, List, take, ap, ◌∙◌}
use Rattle.table.specs.Requests.{fill}
use Rattle.table.specs.Results.{called, result}
use Rattle.table.proofs.Refusals.{pairs_end}
use Rattle.figures.specs.Written.{Proper}
use Rattle.figures.specs.declared.Figures.{Figures}
use Rattle.planner.specs.Plans.{FEW, column, counts_of, divisors_of, call_of, filled, Result, outcome}
use Rattle.planner.specs.Inner.{accepted, after_fill, is_due}
use Rattle.planner.proofs.Outcomes.{after_fill_lem, outcome-due}
use Rattle.planner.proofs.plan_few.Goals as goal

-- The fill of so many counts and so many divisors is that of the figures.
asked : (f : Figures) (model limit places : ℕ) (room : List ℕ) → Proper f → f.n ≤ FEW → places ≡ f.n * (f.n - 1) / 2
    → after_fill (result fill (called f.n (take f.n f.counts) (take places f.divisors) model limit column column column)) f.n room
    ≡ outcome (accepted f) model limit room
unfolding call_of filled counts_of divisors_of
asked f model limit places room ok few e =
    ap (λ (k : ℕ). after_fill (result fill (called f.n (take f.n f.counts) (take k f.divisors) model limit column column column)) f.n room) e
    ∙ after_fill_lem f ok few model limit room

pub fill_and_print-requires : goal.fill_and_print-requires
fill_and_print-requires c =
    let f = c.args.read in
    ap (λ (r : Result). is_due r.answer.number)
    (asked f _ _ _ c.args.tree.now c.requires.proper c.requires.few (c.place-places.ensures ∙ pairs_end f.n))
    ∙ outcome-due f c.requires.proper c.requires.few _ _ c.args.tree.now

pub returns : goal.returns
returns c =
    let f = c.args.read in
    c.fill_and_print.ensures ∙ asked f _ _ _ c.args.tree.now c.requires.proper c.requires.few (c.place-places.ensures ∙ pairs_end f.n)
