-- What was said stands at the start of the room, and zeros past it.
use Rattle.std.proofs.Common.{length, ap, ◌∙◌}
use Rattle.planner.proofs.Reported.{at_start}
use Rattle.planner.proofs.reports.report.Goals as goal

pub returns : goal.returns
returns c = record {
  result = at_start _ _ _ (c.copy_from_slice.ensures.after ∙ c.as_slice.ensures.value ∙ c.said-out.ensures.result)
      (c.len-length.ensures.value ∙ ap length c.said-out.ensures.result);
}
