use Rattle.std.proofs.Common.{◌+◌, ◌-◌, [], ◌≤◌, length}
use Rattle.figures.specs.Judge.{entry_lines}
use Rattle.figures.specs.Inner.{lines_at}
use Rattle.figures.proofs.Turns.{Kept}
use Rattle.figures.proofs.entries.read_entries.Given as goal

-- Each line takes bytes of the text, so that there are no more turns than bytes.
abbrev pub invariant-loop : goal.invariant-loop
invariant-loop l = record {
  in_range : l.counter ≤ l.m;
  taken : l.start + l.counter ≤ l.at;
  turns : l.counter ≤ length l.text;
  kept : Kept l.text l.n (l.m - l.counter) l.seen l.figures l.at (entry_lines l.n l.m [] l.start (lines_at l.text l.start));
}
