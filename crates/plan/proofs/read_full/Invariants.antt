-- Each read but the last takes a byte or more.
use Rattle.std.proofs.Common.{◌-◌, ◌≤◌, length}
use Rattle.plan.proofs.read_full.Given as goal

abbrev pub invariant-loop-end : goal.invariant-loop-end
invariant-loop-end g l = l.end ≤ length l.text

abbrev pub decreases-loop-end : goal.decreases-loop-end
decreases-loop-end g l = length l.text - l.end
