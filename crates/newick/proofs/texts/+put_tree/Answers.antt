-- From both parts the walk goes on, and their numbers are lower.
use Rattle.std.proofs.Common.{ℕ, sym, arith}
use Rattle.std.proofs.Math.ListN.{length-set}
use Rattle.newick.proofs.WalkLaws.{walk_on}
use Rattle.newick.proofs.Writing.{length_parts}
use Rattle.newick.proofs.texts.+put_tree.Goals as goal

pub put_tree-comma-requires : goal.put_tree-comma-requires
put_tree-comma-requires t c =
    let s = walk_on _ _ _ _ (sym c.if-not-is_larger.ensures) c.left_part-left.ensures c.minus-right.ensures c.requires.walked in
    let l = length_parts _ _ _ _ c.if-not-is_larger.ensures c.left_part-left.ensures c.minus-right.ensures c.requires.walked in
    (omega (arith, s.falls_left), (s.left, simp length-set (omega (arith, l))))

pub put_tree-close-requires : goal.put_tree-close-requires
put_tree-close-requires t c =
    let s = walk_on _ _ _ _ (sym c.if-not-is_larger.ensures) c.left_part-left.ensures c.minus-right.ensures c.requires.walked in
    let l = length_parts _ _ _ _ c.if-not-is_larger.ensures c.left_part-left.ensures c.minus-right.ensures c.requires.walked in
    (omega (arith, s.falls_right), (s.right, omega (arith, l, length-set {A = ℕ})))
