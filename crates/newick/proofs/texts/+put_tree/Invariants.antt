-- The walk goes on to lower numbers.
use Rattle.newick.proofs.texts.+put_tree.Given as goal

abbrev pub decreases-put_tree : goal.decreases-put_tree
decreases-put_tree l = l.set.number
