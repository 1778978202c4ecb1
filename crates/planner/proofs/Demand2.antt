-- Demand 2 of a plan, from that of the fill.
use Prim.Native.Nat.{ℕ, ◌^◌, ◌≤◌}
use native.Mathlib.Decide.{dec_le}
use native.Mathlib.Omega.{arith}
use mathlib.Core.Bool.{cond}
use mathlib.Core.List.{List}
use mathlib.Core.Logic.{◌≢◌}
use mathlib.Core.Path.{◌≡◌, refl, sym, ◌∙◌, subst}
use lib.Dec.{leb, ltb}
use lib.ListN.{length}
use borrow.Author.Tests.{ltb-false}
use Rattle.relations.specs.Sets.{all_of, first}
use Rattle.relations.proofs.Named.{all-some}
use Rattle.charges.specs.Charges.{priced}
use Rattle.figures.specs.Judge.{judged}
use Rattle.figures.specs.Written.{Proper}
use Rattle.figures.specs.declared.Figures.{Figures}
use Rattle.figures.proofs.Accepted.{accepted-proper}
use Rattle.table.specs.Demands.{Right, Optimal}
use Rattle.table.specs.Requests.{fill}
use Rattle.table.specs.Results.{Call, in_order, refusal as fill_refusal, job_of}
use Rattle.table.specs.Rule.{NONE, job_for}
use Rattle.table.specs.Tables.{row_at}
use Rattle.table.specs.Trees.{Tree}
use Rattle.table.proofs.Demand2.{optimal}
use Rattle.table.proofs.Refusals.{first_zero, passed_false, result-done}
use Rattle.planner.specs.Plans.{FEW, call_of, filled, tree_of, unfit, refusal, Result, written, planned}
use Rattle.planner.specs.Best.{fig, OverAll, cost_of, LeastLefts, Best, NoPlan, Demand2}
use Rattle.planner.proofs.Fit.{fill_refuses}
use Rattle.planner.proofs.Outcomes.{outcome-done, outcome-number}
use Rattle.planner.proofs.Ties.{least-lefts}

module _ (text : List ℕ) (model limit : ℕ) (room : List ℕ) where
  abbrev read : Figures
  read = (judged text).figures

  abbrev call : Call
  call = call_of read model limit

  -- Where nothing that comes before 7 is due,
  module _ (e : unfit (judged text) model limit (length room) ≡ 0) where
    -- the text is accepted, and so is the fill,
    read_done : ((judged text).number ≡ 0) × (fill_refusal fill call ≡ 0)
    unfolding unfit in_order first
    read_done =
        let a = first_zero (judged text).number _ e in
        let b = first_zero (cond (ltb FEW read.n) 16 0) _ a.1 in
        let c = first_zero (priced model 0 0 0).number _ b.1 in
        let d = first_zero (cond (leb limit (2 ^ 60)) 0 5) _ c.1 in
        let few = ltb-false FEW read.n (passed_false 15 _ b.0) in
        (a.0, fill_refuses read model limit (accepted-proper text a.0) few ∙ rw (c.0, d.0))

    pub proper : Proper read
    proper = accepted-proper text read_done.0

    -- which is optimal.
    pub best-fill : Optimal call (filled read model limit)
    unfolding filled
    best-fill = subst (Optimal call) (sym (result-done fill call read_done.1)) (optimal call read_done.1)

    pub number_is : (planned text model limit room).answer.number ≡ (filled read model limit).answer.number
    unfolding planned refusal first
    number_is = outcome-number (judged text) model limit room ∙ rw e

    pub no_plan_lem : NoPlan read model limit (planned text model limit room)
    unfolding call_of job_of
    no_plan_lem = (λ n. best-fill.none.0 (sym number_is ∙ n), λ h. number_is ∙ best-fill.none.1 h)

  -- A plan.
  module _ (z : (planned text model limit room).answer.number ≡ 0) where
    none_due : refusal (judged text) model limit (length room) ≡ 0
    unfolding planned
    none_due = sym (outcome-number (judged text) model limit room) ∙ z

    pub both : (unfit (judged text) model limit (length room) ≡ 0) × ((filled read model limit).answer.number ≡ 0)
    unfolding refusal
    both = first_zero (unfit (judged text) model limit (length room)) _ none_due

    pub answer_is : planned text model limit room ≡ written (filled read model limit) (tree_of read model limit) room
    unfolding planned
    answer_is = outcome-done (judged text) model limit room none_due

    -- The full row of the fill.
    full : Right (job_for model limit) (fig read)
        (filled read model limit).table (all_of read.n)
    unfolding call_of job_of
    full =
        let ok = proper both.0 in
        let all = all-some read.n ok.some ok.few in
        (best-fill both.0).rows (all_of read.n) all.0 all.1

    -- It has a plan, which costs what is answered,
    some : (row_at (filled read model limit).table (all_of read.n)).cost ≢ NONE
    unfolding call_of job_of
    some h = omega (arith, both.1, (best-fill both.0).none.1 (full.none.0 h))

    same : (row_at (filled read model limit).table (all_of read.n)).cost ≡ (filled read model limit).answer.cost
    unfolding call_of job_of
    same = sym (full.cost some) ∙ (best-fill both.0).cost both.1

    -- and no tree costs less: not one within the limit, and so none.
    no_less : (x : Tree) → OverAll read model limit x
        → (filled read model limit).answer.cost ≤ cost_of read model limit x
    no_less x h = by (dec_le (cost_of read model limit x) limit)
      where
        by : Dec (cost_of read model limit x ≤ limit)
            → (filled read model limit).answer.cost ≤ cost_of read model limit x
        by (yes l) = omega (arith, same, full.least x h l)
        by (no l) = omega (arith, same, full.within some)

    -- At every join its left part is the least of those that cost the same.
    leftmost : LeastLefts read model limit (tree_of read model limit)
    unfolding call_of job_of tree_of
    leftmost =
        let ok = proper both.0 in
        let all = all-some read.n ok.some ok.few in
        least-lefts read model limit read.n (filled read model limit).table (best-fill both.0).rows (all_of read.n) all.0 all.1 some

    best : Best read model limit room (planned text model limit room)
    unfolding call_of job_of tree_of
    best =
        let o = best-fill both.0 in
        rw answer_is record {
          tree = tree_of read model limit;
          text = refl;
          over = o.plan both.1;
          cost = o.cost both.1;
          within = omega (arith, same, full.within some);
          least = no_less;
          ties = leftmost;
          size = o.size both.1;
        }

  demand_2 : Demand2 text model limit room (planned text model limit room)
  demand_2 = record { best = best; none = no_plan_lem }

  -- The clauses of a plan.
  pub clauses : (r : Result) → r ≡ planned text model limit room → (r ≡ planned text model limit room) × Demand2 text model limit room r
  clauses r e = (e, subst (Demand2 text model limit room) (sym e) demand_2)
