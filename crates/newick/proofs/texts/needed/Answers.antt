-- The digits of the numbers 1 to n, below 10 and from 10 on.
use Rattle.std.proofs.Common.{arith}
use Rattle.newick.specs.Texts.{needed}
use Rattle.newick.proofs.TextLaws.{digits-few, digits_more}
use Rattle.newick.proofs.texts.needed.Goals.{then-k-lt10, else-k-lt10}
use Rattle.newick.proofs.texts.needed.Goals as goal

pub returns : goal.returns
unfolding needed
returns c =
    elim c.if-k-lt10.branch [
      | then-k-lt10 w ↦ omega (arith, digits-few c.args.n w.if-k-lt10.true)
      | else-k-lt10 w ↦ omega (arith, digits_more c.args.n w.if-k-lt10.false (omega arith))
    ]
