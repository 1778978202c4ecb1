-- Each check is what the definition computes to.
use Rattle.std.proofs.Common.{refl}
use Rattle.cases.specs.Cases.{passes}
use Rattle.cases.proofs.Found.{charge_is}
use Rattle.cases.proofs.case_6.Goals as goal

pub expect-requires : goal.expect-requires
unfolding passes
expect-requires c = rw (c.eq.ensures, charge_is _ 42 c.charge.ensures) refl

pub expect-requires-2 : goal.expect-requires-2
unfolding passes
expect-requires-2 c = rw (c.eq-2.ensures, charge_is _ 0 c.charge-2.ensures) refl
