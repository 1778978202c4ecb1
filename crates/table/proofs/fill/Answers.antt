-- A refused fill writes nothing; an accepted one is the fold over every set.
use Rattle.std.proofs.Common.{refl, ◌∙◌}
use Rattle.table.specs.Requests.{fill, change, new_divisor, names}
use Rattle.table.proofs.Calls.{check_refuses, accepts, fill-holding, work-done, fill_clauses}
use Rattle.table.proofs.fill.Goals as goal

pub returns-in_err-check : goal.returns-in_err-check
unfolding new_divisor
returns-in_err-check c = fill_clauses _ _ (check_refuses fill _ _ _ c.from_residual.ensures.1 c.in_err-check.ensures)

pub work-requires : goal.work-requires
unfolding new_divisor names
work-requires c = (accepts fill _ c.in_ok-check.ensures refl).fit

pub returns : goal.returns
unfolding change new_divisor names
returns c = fill_clauses _ _ (c.work.ensures ∙ work-done fill _ _ (accepts fill _ c.in_ok-check.ensures refl) fill-holding _ refl)
