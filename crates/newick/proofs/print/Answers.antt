-- Where the checks have passed, the walk from the full set goes through.
use Rattle.std.proofs.Common.{length, rules}
use Rattle.newick.proofs.Printing.{passed_walked}
use Rattle.newick.proofs.print.Goals as goal

pub put_tree-end-requires-clause-walked : goal.put_tree-end-requires-clause-walked
put_tree-end-requires-clause-walked c =
    passed_walked c.args.n (length c.args.text.now) c.args.costs.now c.args.lefts.now _ (search rules) (search rules)
