use Rattle.std.proofs.Common.{arith}
use Rattle.relations.proofs.Lowest.{rest_wraps}
use Rattle.relations.proofs.Set.rest.Goals as goal

pub returns : goal.returns
returns c = rest_wraps 32 c.args.self.number _ (omega arith) (omega arith)
