-- A refused edit writes nothing; an accepted one stores the divisor and is the fold over the sets that hold both relations.
use Rattle.std.proofs.Common.{ℕ, ◌<◌, length, set, sym, ap, ◌∙◌, rules}
use Rattle.table.specs.Figures.{figures}
use Rattle.table.specs.Requests.{edit_pair, change, new_divisor, names}
use Rattle.table.proofs.Demand3.{fit-changed}
use Rattle.table.proofs.Calls.{check_refuses, name_refuses, accepts, pair_holding, pair_there, edit_clauses, edit_done}
use Rattle.table.proofs.edit_pair.Goals as goal

pub returns-in_err-check : goal.returns-in_err-check
unfolding new_divisor
returns-in_err-check c =
    edit_clauses _ _ _ (check_refuses (edit_pair c.args.i c.args.j c.args.value) _ _ _ c.from_residual.ensures.1 c.in_err-check.ensures)

pub returns-then-not-is_pair : goal.returns-then-not-is_pair
unfolding new_divisor names
returns-then-not-is_pair c =
    edit_clauses _ _ _ (name_refuses (edit_pair c.args.i c.args.j c.args.value) _ c.in_ok-check.ensures (sym c.is_pair.ensures ∙ c.if-not-is_pair.true))

pub bounds-divisors-place : goal.bounds-divisors-place
unfolding new_divisor names
bounds-divisors-place c =
    let accepted = accepts (edit_pair c.args.i c.args.j c.args.value) _ c.in_ok-check.ensures (sym c.is_pair.ensures ∙ c.if-not-is_pair.false) in
    rw c.place.ensures (pair_there _ _ _ _ accepted)

pub offset_bounds-divisors-place : goal.offset_bounds-divisors-place
offset_bounds-divisors-place c =
    let h : c.place.result < length c.args.divisors.now = bounds-divisors-place c in
    search (rules, h)

pub work-requires : goal.work-requires
unfolding change new_divisor names
work-requires c =
    let accepted = accepts (edit_pair c.args.i c.args.j c.args.value) _ c.in_ok-check.ensures (sym c.is_pair.ensures ∙ c.if-not-is_pair.false) in
    rw c.place.ensures (fit-changed _ _ accepted)

pub returns : goal.returns
unfolding change new_divisor names
returns c =
    let accepted = accepts (edit_pair c.args.i c.args.j c.args.value) _ c.in_ok-check.ensures (sym c.is_pair.ensures ∙ c.if-not-is_pair.false) in
    let touched = pair_holding _ c.args.i c.args.j c.args.value _ _ accepted.fit.few accepted.names c.one-a.ensures c.one-b.ensures in
    let stored = ap (λ (p : ℕ). figures c.args.counts.now (set c.args.divisors.now p c.args.value)) c.place.ensures in
    edit_done _ _ _ accepted touched _ stored _ c.work.ensures
