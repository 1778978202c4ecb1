use Rattle.std.proofs.Common.{◌<◌, arith, eq-eqb}
use borrow.Author.Tests.{ne_eqb}
use Rattle.relations.specs.Sets.{MOST}
use Rattle.relations.proofs.Places.{place-below}
use Rattle.figures.specs.Inner.{with_entry}
use Rattle.figures.proofs.Collected.{triangle}
use Rattle.figures.proofs.entries.with_entry.Goals as goal

pub overflow_sub-at : goal.overflow_sub-at
overflow_sub-at c = omega (arith, triangle MOST c.args.i c.args.j c.requires)

pub bounds-more-at : goal.bounds-more-at
bounds-more-at c = omega (arith, triangle MOST c.args.i c.args.j c.requires)

pub returns-then-i-j : goal.returns-then-i-j
unfolding with_entry
returns-then-i-j c = rw (eq-eqb _ _ c.if-i-j.true)

pub bounds-more-at-2 : goal.bounds-more-at-2
bounds-more-at-2 c =
    let t = triangle MOST c.args.i c.args.j c.requires in
    rw c.place-at.ensures (place-below MOST _ _ (omega arith) t.0 c.if-i-j.false t.2 (omega arith))

pub offset_bounds-more-at-2 : goal.offset_bounds-more-at-2
offset_bounds-more-at-2 c =
    let t = triangle MOST c.args.i c.args.j c.requires in
    let placed : c.place-at.result < 105 = rw c.place-at.ensures (place-below MOST _ _ (omega arith) t.0 c.if-i-j.false t.2 (omega arith)) in
    omega arith

pub returns : goal.returns
unfolding with_entry
returns c = rw (ne_eqb _ _ c.if-i-j.false, ← c.place-at.ensures)
