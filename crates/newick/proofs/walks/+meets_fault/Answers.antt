-- The walk reaches the right part only where the set has no fault, and so its number falls.
use Rattle.std.proofs.Common.{sym, arith}
use Rattle.newick.proofs.WalkLaws.{no_fault, right_lower}
use Rattle.newick.proofs.walks.+meets_fault.Goals.{then-is_faulty, else-is_faulty}
use Rattle.newick.proofs.walks.+meets_fault.Goals as goal

pub meets_fault-requires-else-meets_fault : goal.meets_fault-requires-else-meets_fault
meets_fault-requires-else-meets_fault t c =
    elim c.if-is_faulty.branch [
      | then-is_faulty w ↦ absurd (cc)
      | else-is_faulty w ↦
          let i = no_fault _ _ (sym w.if-is_faulty.ensures) in
          let l = right_lower _ _ _ c.minus-right.ensures w.if-is_faulty.ensures in
          (omega (arith, i.less, l), omega (arith, i.less, l))
    ]
