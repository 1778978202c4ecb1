-- The loop is the fold over the sets in rising number.
use Rattle.std.proofs.Common.{◌≡◌}
use Rattle.table.specs.Figures.{figures}
use Rattle.table.specs.Tables.{columns, mend_to}
use Rattle.table.specs.Rule.{job_for, row_of}
use Rattle.table.specs.Inner.{holding}
use Rattle.table.proofs.rows.mend.Given as goal

abbrev pub invariant-loop-s : goal.invariant-loop-s
invariant-loop-s l =
    columns l.sizes l.costs l.lefts
    ≡ mend_to (row_of (job_for l.fn.job.model l.fn.job.limit) (figures l.counts l.divisors)) (holding l.a.number l.b.number) l.s
    (columns l.initial.sizes l.initial.costs l.initial.lefts)
