use Rattle.std.proofs.Common.{◌≡◌, ◌+◌, ◌^◌, refl, ◌∙◌, arith, pow_pos}
use Rattle.relations.proofs.Named.{all_is}
use Rattle.table.specs.Tables.{columns, mend_to}
use Rattle.table.proofs.Mending.{mend_next}
use Rattle.table.proofs.rows.mend.Goals as goal

pub loop-s-init : goal.loop-s-init
unfolding mend_to
loop-s-init c = refl

pub mend_row-requires-clause-within : goal.mend_row-requires-clause-within
mend_row-requires-clause-within c =
    let full = c.all-full.ensures ∙ all_is c.args.job.n c.requires.few in
    rw c.requires.counts (omega (arith, full, pow_pos c.args.job.n))

pub loop-s-preserved : goal.loop-s-preserved
loop-s-preserved c =
    let at = c.loop-s in
    mend_next _ _ at.s _ (columns at.sizes at.costs at.lefts) _ at.invariant c.mend_row.ensures

pub returns-2 : goal.returns-2
returns-2 c =
    let full = c.all-full.ensures ∙ all_is c.args.job.n c.requires.few in
    let at = c.loop-s in
    let e : at.s + 1 ≡ 2 ^ c.args.job.n = omega (arith, full, pow_pos c.args.job.n) in
    rw (← e) (mend_next _ _ at.s _ (columns at.sizes at.costs at.lefts) _ at.invariant c.mend_row.ensures)
