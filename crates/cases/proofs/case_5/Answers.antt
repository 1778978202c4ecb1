-- Each check is what the definition computes to.
use Rattle.std.proofs.Common.{eq-eqb}
use Rattle.charges.specs.Charges.{halvings, log2, w}
use Rattle.cases.proofs.case_5.Goals as goal

pub expect-requires : goal.expect-requires
unfolding halvings log2 w
expect-requires c = eq-eqb _ _ c.w.ensures

pub expect-requires-2 : goal.expect-requires-2
unfolding halvings log2 w
expect-requires-2 c = eq-eqb _ _ c.w-2.ensures

pub expect-requires-3 : goal.expect-requires-3
unfolding halvings log2 w
expect-requires-3 c = eq-eqb _ _ c.w-3.ensures

pub expect-requires-4 : goal.expect-requires-4
unfolding halvings log2 w
expect-requires-4 c = eq-eqb _ _ c.w-4.ensures
