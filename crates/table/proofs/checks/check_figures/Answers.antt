-- Each answer is the first of the refusals that there is.
use Rattle.std.proofs.Common.{◌≡◌, arith, sym, ◌∙◌}
use Rattle.std.proofs.lemmas.Bool.Decides.{nat_tests}
use Rattle.relations.proofs.Named.{is_relation_lem}
use Rattle.relations.specs.Sets.{first}
use Rattle.table.specs.Results.{any_zero, bad_figures, in_order}
use Rattle.table.proofs.Refusals.{pairs_end, zero_any}
use Rattle.table.proofs.checks.check_figures.Goals.{then-divisor-eq0-via-then-divisor-eq0, then-divisor-eq0-via-else-divisor-eq0+then-contains}
use Rattle.table.proofs.checks.check_figures.Goals as goal

pub returns-then-not-is_relation : goal.returns-then-not-is_relation
unfolding bad_figures in_order first
returns-then-not-is_relation c = grind arith

pub overflow_add-n : goal.overflow_add-n
overflow_add-n c =
    let r = is_relation_lem _ _ (sym c.is_relation.ensures ∙ c.if-not-is_relation.false) in
    record { fits = omega (arith, r.1) }

pub returns-then-counts-n : goal.returns-then-counts-n
unfolding bad_figures in_order first
returns-then-counts-n c = grind (arith, nat_tests, pairs_end)

pub returns-then-divisor-eq0 : goal.returns-then-divisor-eq0
unfolding bad_figures in_order first
returns-then-divisor-eq0 c = elim c.then-divisor-eq0.branch [
  | then-divisor-eq0-via-then-divisor-eq0 w ↦ grind (arith, nat_tests, pairs_end)
  | then-divisor-eq0-via-else-divisor-eq0+then-contains w ↦
      let z : w.contains.result ≡ any_zero c.args.divisors.now = w.contains.ensures.value ∙ zero_any _ in
      grind (arith, nat_tests, pairs_end)
]

pub returns : goal.returns
unfolding bad_figures in_order first
returns c =
    let z : c.contains.result ≡ any_zero c.args.divisors.now = c.contains.ensures.value ∙ zero_any _ in
    grind (arith, nat_tests, pairs_end)
