use Rattle.std.proofs.Common.{sym, subst, ◌∙◌, arith}
use Rattle.std.proofs.Math.Seq.{length-take-le}
use Rattle.planner.proofs.Lengths.{plan-short}
use Rattle.planner.proofs.Reported.{Said, line_fits, said-next, said-refused, said-last, too_long}
use Rattle.planner.proofs.reports.said.Goals as goal

pub returns-then-text-gt-LONGEST : goal.returns-then-text-gt-LONGEST
returns-then-text-gt-LONGEST c = record { result = c.refused.ensures ∙ too_long _ c.if-text-gt-LONGEST.true }

-- A plan's text is within the room.
pub slice_bounds-tree-end : goal.slice_bounds-tree-end
slice_bounds-tree-end c = omega (arith, plan-short _ _ _ _ _ _ c.in-Ok.ensures.result, c.plan.auto.tree)

pub slice_bounds-put_line-end : goal.slice_bounds-put_line-end
slice_bounds-put_line-end c =
    sym (length-take-le _ _ (omega (arith, plan-short _ _ _ _ _ _ c.in-Ok.ensures.result, c.plan.auto.tree)))

pub put_line-requires : goal.put_line-requires
put_line-requires c =
    line_fits _ _ _ _ c.loop-model.invariant c.loop-model-test.true _ c.in-Ok.ensures.result (omega arith) (omega arith)

pub returns-in-Err : goal.returns-in-Err
returns-in-Err c = record {
  result = c.refused-in-Err.ensures
      ∙ said-refused _ _ _ _ c.loop-model.invariant c.loop-model-test.true _ c.in-Err.ensures.result c.if-text-gt-LONGEST.false;
}

pub loop-model-preserved : goal.loop-model-preserved
loop-model-preserved c =
    subst (Said _ _) (sym c.put_line.ensures)
    (said-next _ _ _ _ c.loop-model.invariant c.loop-model-test.true _ c.in-Ok.ensures.result (omega arith) (omega arith))

pub returns : goal.returns
returns c = record { result = said-last _ _ _ c.loop-model.invariant c.loop-model-test.false c.if-text-gt-LONGEST.false }
