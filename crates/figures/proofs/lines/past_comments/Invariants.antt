use Rattle.std.proofs.Common.{◌≡◌, ◌-◌, length}
use Rattle.figures.specs.Judge.{comments}
use Rattle.figures.specs.Inner.{lines_at}
use Rattle.figures.proofs.lines.past_comments.Given as goal

abbrev pub invariant-loop-start : goal.invariant-loop-start
invariant-loop-start l = comments l.start (lines_at l.text l.start) ≡ comments l.at (lines_at l.text l.at)

abbrev pub decreases-loop-start : goal.decreases-loop-start
decreases-loop-start l = length l.text - l.start
