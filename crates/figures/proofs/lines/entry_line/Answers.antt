use Rattle.std.proofs.Common.{ℕ, not, sym}
use Rattle.figures.specs.Entries.{in_triangle}
use Rattle.figures.specs.Judge.{faulty}
use Rattle.figures.specs.Inner.{Going}
use Rattle.figures.proofs.lines.entry_line.Goals as goal

-- The judge of an entry line looks at the place first.
abbrev placed : ℕ → ℕ → Going → Going
placed n at go i j v next rest = faulty 14 at (not (in_triangle n i j)) (go i j v next rest)

pub returns-in_default-clause-reads : goal.returns-in_default-clause-reads
returns-in_default-clause-reads c =
    λ go. rw c.in_default.is (c.in_default.ensures.reads (placed c.args.n c.args.at go))

pub returns-then-not-is_inside-clause-reads : goal.returns-then-not-is_inside-clause-reads
returns-then-not-is_inside-clause-reads c =
    λ go. rw c.at.ensures (rw (sym c.if-not-is_inside.ensures) at (c.in-Ok.ensures.reads (placed c.args.n c.args.at go)))

pub returns-clause-reads : goal.returns-clause-reads
returns-clause-reads c =
    λ go. rw c.in-Ok.is (rw (sym c.if-not-is_inside.ensures) at (c.in-Ok.ensures.reads (placed c.args.n c.args.at go)))
