use Rattle.std.proofs.Common.{arith}
use Rattle.relations.specs.Splits.{wrapped_step}
use Rattle.relations.proofs.Splits.{step-next}
use Rattle.relations.proofs.Set.next_left.Goals as goal

pub returns-clause-rising : goal.returns-clause-rising
unfolding wrapped_step
returns-clause-rising c part = step-next 32 c.args.self.number c.args.left.number (omega arith) part
