-- The row that is written is the row rule's.
use Rattle.std.proofs.Common.{sym, ◌∙◌}
use Rattle.table.specs.Tables.{columns, write_row}
use Rattle.table.proofs.Mending.{row_made}
use Rattle.table.proofs.rows.Rule.mend_row.Goals as goal

pub returns : goal.returns
unfolding write_row
returns c =
    let a = c.args in
    row_made _ _ (columns a.sizes.now a.costs.now a.lefts.now) a.set.number c.row_of-row.result
    (sym c.holds_both.ensures ∙ c.if-not-holds_both.false) (c.row_of-row.ensures a.lefts.now)
