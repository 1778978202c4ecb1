-- What the reader refuses is answered; its figures are proper, and their plan is what demand 2 asks for.
use Rattle.std.proofs.Common.{rules, ◌≡◌, refl, sym, ap, ◌∙◌, subst, Result as Outcome, Err}
use Rattle.figures.specs.Judge.{Result}
use Rattle.figures.specs.Written.{Proper}
use Rattle.figures.proofs.Accepted.{accepted-proper, number_pos}
use Rattle.planner.specs.Plans.{result_of, outcome, planned}
use Rattle.planner.specs.declared.answers.Plan.{Plan}
use Rattle.planner.specs.declared.answers.Refusal.{Refusal}
use Rattle.planner.specs.declared.answers.Refusal.TheVariants.{File}
use Rattle.planner.specs.Inner.{accepted}
use Rattle.planner.proofs.Outcomes.{read-refused, too_many}
use Rattle.planner.proofs.Demand2.{clauses}
use Rattle.planner.proofs.plan.Goals as goal

pub returns-in_err-read-clause-result : goal.returns-in_err-read-clause-result
returns-in_err-read-clause-result c =
    let fault = c.in_err-read.field-0.0 in
    let e : c.from_residual.result ≡ Err (File fault) = search rules in
    let number = ap (λ (x : Result). x.number) c.in_err-read.ensures.result in
    let place = ap (λ (x : Result). x.place) c.in_err-read.ensures.result in
    ap (λ (x : Outcome Plan Refusal). result_of x c.args.tree.now) e
    ∙ read-refused c.args.text.now c.args.model c.args.limit c.args.tree.now _ _ number (number_pos fault.why) place

pub returns-in_err-read-clause-demand_2 : goal.returns-in_err-read-clause-demand_2
returns-in_err-read-clause-demand_2 c = (clauses _ _ _ _ _ (returns-in_err-read-clause-result c)).1

pub returns-then-read-gt-FEW-clause-result : goal.returns-then-read-gt-FEW-clause-result
unfolding planned
returns-then-read-gt-FEW-clause-result c =
    let e = c.in_ok-read.ensures.result in
    sym (too_many (accepted c.in_ok-read.read) c.args.model c.args.limit c.args.tree.now refl c.if-read-gt-FEW.true)
    ∙ ap (λ (j : Result). outcome j c.args.model c.args.limit c.args.tree.now) e

pub returns-then-read-gt-FEW-clause-demand_2 : goal.returns-then-read-gt-FEW-clause-demand_2
returns-then-read-gt-FEW-clause-demand_2 c = (clauses _ _ _ _ _ (returns-then-read-gt-FEW-clause-result c)).1

pub plan_few-requires-clause-proper : goal.plan_few-requires-clause-proper
plan_few-requires-clause-proper c =
    let e = c.in_ok-read.ensures.result in
    subst (λ (x : Result). Proper x.figures) (sym e) (accepted-proper c.args.text.now (sym (ap (λ (x : Result). x.number) e)))

pub returns-clause-result : goal.returns-clause-result
unfolding planned
returns-clause-result c =
    c.plan_few.ensures ∙ ap (λ (j : Result). outcome j c.args.model c.args.limit c.args.tree.now) c.in_ok-read.ensures.result

pub returns-clause-demand_2 : goal.returns-clause-demand_2
returns-clause-demand_2 c = (clauses _ _ _ _ _ (returns-clause-result c)).1
