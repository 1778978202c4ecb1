-- Each answer is the first of the refusals that there is.
use Rattle.std.proofs.Common.{arith, sym}
use Rattle.std.proofs.lemmas.Bool.Decides.{nat_tests}
use Rattle.std.proofs.lemmas.Result.{err_from_is_err_and}
use Rattle.relations.proofs.Named.{is_relation_lem}
use Rattle.relations.specs.Sets.{MOST, first}
use Rattle.table.specs.Results.{bad_figures, unfit, in_order}
use Rattle.table.proofs.Refusals.{first_zero, first_found, passed_true, number_pos}
use Rattle.table.proofs.checks.check.Goals as goal

pub returns-in_err-check_figures : goal.returns-in_err-check_figures
unfolding unfit in_order
returns-in_err-check_figures c =
    let p = err_from_is_err_and c.from_residual.result c.from_residual.ensures.1 in
    rw (p.1, p.2) (first_found _ _ _ c.in_err-check_figures.ensures (number_pos _))

pub returns-in_err-charge : goal.returns-in_err-charge
unfolding unfit in_order first
returns-in_err-charge c =
    let p = err_from_is_err_and c.from_residual-in_err-charge.result c.from_residual-in_err-charge.ensures.1 in
    rw (p.1, p.2, sym c.in_ok-check_figures.ensures, sym c.in_err-charge.ensures)

pub returns-then-job-gt-HIGHEST : goal.returns-then-job-gt-HIGHEST
unfolding unfit in_order first
returns-then-job-gt-HIGHEST c =
    let l = c.in_ok-check_figures.ensures in
    let k = c.in_ok-charge.ensures in
    grind (arith, nat_tests)

pub is_short-requires : goal.is_short-requires
unfolding bad_figures in_order
is_short-requires c = (is_relation_lem MOST c.args.job.n (passed_true 0 _ (first_zero _ _ (sym c.in_ok-check_figures.ensures)).0)).1

pub returns-then-is_short : goal.returns-then-is_short
unfolding unfit in_order first
returns-then-is_short c = let l = c.in_ok-check_figures.ensures in let k = c.in_ok-charge.ensures in grind (arith, nat_tests)

pub returns : goal.returns
unfolding unfit in_order first
returns c = let l = c.in_ok-check_figures.ensures in let k = c.in_ok-charge.ensures in grind (arith, nat_tests)
