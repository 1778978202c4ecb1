-- A refused edit writes nothing; an accepted one stores the count and is the fold over the sets that hold the relation.
use Rattle.std.proofs.Common.{sym, refl, ◌∙◌, arith}
use Rattle.relations.proofs.Named.{is_relation_lem}
use Rattle.table.specs.Requests.{edit_count, change, new_divisor, names}
use Rattle.table.proofs.Demand3.{fit-changed}
use Rattle.table.proofs.Calls.{check_refuses, name_refuses, accepts, count-holding, edit_clauses, edit_done}
use Rattle.table.proofs.edit_count.Goals as goal

pub returns-in_err-check : goal.returns-in_err-check
unfolding new_divisor
returns-in_err-check c = edit_clauses _ _ _ (check_refuses (edit_count c.args.k c.args.value) _ _ _ c.from_residual.ensures.1 c.in_err-check.ensures)

pub returns-then-not-is_relation : goal.returns-then-not-is_relation
unfolding new_divisor names
returns-then-not-is_relation c =
    edit_clauses _ _ _ (name_refuses (edit_count c.args.k c.args.value) _ c.in_ok-check.ensures (sym c.is_relation.ensures ∙ c.if-not-is_relation.true))

pub overflow_sub-counts : goal.overflow_sub-counts
overflow_sub-counts c = (is_relation_lem _ _ (sym c.is_relation.ensures ∙ c.if-not-is_relation.false)).0

pub bounds-counts-k : goal.bounds-counts-k
unfolding new_divisor names
bounds-counts-k c =
    let named = sym c.is_relation.ensures ∙ c.if-not-is_relation.false in
    let r = is_relation_lem _ _ named in
    omega (arith, r.0, r.1, (accepts (edit_count c.args.k c.args.value) _ c.in_ok-check.ensures named).fit.counts)

pub work-requires : goal.work-requires
unfolding change new_divisor names
work-requires c =
    fit-changed _ _ (accepts (edit_count c.args.k c.args.value) _ c.in_ok-check.ensures (sym c.is_relation.ensures ∙ c.if-not-is_relation.false))

pub returns : goal.returns
unfolding change new_divisor names
returns c =
    let accepted = accepts (edit_count c.args.k c.args.value) _ c.in_ok-check.ensures (sym c.is_relation.ensures ∙ c.if-not-is_relation.false) in
    let touched = count-holding _ c.args.k c.args.value _ accepted.fit.few accepted.names c.one-a.ensures in
    edit_done _ _ _ accepted touched _ refl _ c.work.ensures
