use Rattle.std.proofs.Common.{◌≡◌, ◌+◌, sym, ◌∙◌, arith}
use Rattle.figures.proofs.Comments.{no_line, no_feed, comment_passed}
use Rattle.figures.proofs.lines.past_comments.Goals as goal

pub returns-in_default : goal.returns-in_default
returns-in_default c =
    rw c.at.ensures (sym (no_feed c.args.text.now c.loop-start.start c.in_default.ensures.first) ∙ c.loop-start.invariant)

pub loop-start-preserved : goal.loop-start-preserved
loop-start-preserved c =
    let e : c.loop-start.start + (c.in-Some.len + 1) ≡ c.loop-start.start + c.in-Some.len + 1 = omega arith in
    rw e
    (sym (comment_passed c.args.text.now c.loop-start.start c.in-Some.len c.in-Some.ensures.first c.in-Some.ensures.within (omega arith))
    ∙ c.loop-start.invariant)

pub returns-after-loop-start : goal.returns-after-loop-start
returns-after-loop-start c = sym (no_line c.args.text.now c.loop-start.start c.loop-start-test.false) ∙ c.loop-start.invariant
