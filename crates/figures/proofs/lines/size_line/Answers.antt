use Rattle.std.proofs.Common.{◌≡◌, ℕ, true, false, [], not, eqb, sym, eq-eqb, ne_eqb}
use Rattle.relations.specs.Sets.{MOST, is_relation}
use Rattle.figures.specs.Judge.{faulty, entry_lines, size_line}
use Rattle.figures.specs.Inner.{Going}
use Rattle.figures.proofs.lines.size_line.Goals as goal

-- How the judge of a size line goes on.
abbrev sized : ℕ → Going
sized at n b m next rest = faulty 2 at (not (eqb n b)) (faulty 1 at (not (is_relation MOST n)) (entry_lines n m [] next rest))

pub returns-in_default-clause-reads : goal.returns-in_default-clause-reads
unfolding size_line
returns-in_default-clause-reads c = rw c.in_default.is (c.in_default.ensures.reads (sized c.args.at))

pub returns-then-n-b-clause-reads : goal.returns-then-n-b-clause-reads
unfolding size_line
returns-then-n-b-clause-reads c =
    rw c.at.ensures (rw (ne_eqb c.in-Ok.n c.in-Ok.b c.if-n-b.true) at (c.in-Ok.ensures.reads (sized c.args.at)))

pub returns-then-not-is_relation-clause-reads : goal.returns-then-not-is_relation-clause-reads
unfolding size_line
returns-then-not-is_relation-clause-reads c =
    let many : is_relation MOST c.in-Ok.n ≡ false = sym c.if-not-is_relation.ensures in
    rw c.at-then-not-is_relation.ensures (rw (eq-eqb c.in-Ok.n c.in-Ok.b c.if-n-b.false, many) at (c.in-Ok.ensures.reads (sized c.args.at)))

pub returns-clause-reads : goal.returns-clause-reads
unfolding size_line
returns-clause-reads c =
    let few : is_relation MOST c.in-Ok.n ≡ true = sym c.if-not-is_relation.ensures in
    rw c.in-Ok.is (rw (eq-eqb c.in-Ok.n c.in-Ok.b c.if-n-b.false, few) at (c.in-Ok.ensures.reads (sized c.args.at)))
