use Rattle.std.proofs.Common.{◌≡◌, ℕ, List, [], ◌∷◌, nat_eq, not, take, true, false, Bool, refl, sym, ap, ◌∙◌, ◌&&◌}
use native.Mathlib.Nat.{zero-add}
use lib.Pointwise.{pointwise}
use Rattle.numbers.specs.Texts.{same_list}
use Rattle.figures.specs.Judge.{Result, faulty, comments, HEADING, first_line, judged}
use Rattle.figures.proofs.Told.{line_open, line-ends}
use Rattle.figures.proofs.lines.first_line.Goals as goal

-- How the judge of line 1 goes on.
abbrev heading : List ℕ → ℕ → List (List ℕ) → Result
heading l next rest = faulty 11 0 (not (same_list l HEADING)) (comments next rest)

-- `==` compares as the judge does.
same : (xs ys : List ℕ) → pointwise nat_eq xs ys ≡ same_list xs ys
unfolding same_list
same [] [] = refl
same [] (y ∷ ys) = refl
same (x ∷ xs) [] = refl
same (x ∷ xs) (y ∷ ys) = ap (λ (b : Bool). nat_eq x y && b) (same xs ys)

other : (l : List ℕ) (b t : Bool) → b ≡ not (pointwise nat_eq l HEADING) → b ≡ t → not (same_list l HEADING) ≡ t
other l b t e h = ap not (sym (same l HEADING)) ∙ sym e ∙ h

pub returns-in_default : goal.returns-in_default
unfolding judged first_line
returns-in_default c = rw c.at.ensures (sym (line_open c.args.text.now 0 heading c.in_default.ensures.first))

pub returns-then-ne : goal.returns-then-ne
unfolding judged first_line
returns-then-ne c =
    rw (
      c.at-then-ne.ensures,
      line-ends c.args.text.now 0 heading c.in-Some.end c.in-Some.ensures.first c.in-Some.ensures.within,
      other (take c.in-Some.end c.args.text.now) _ true c.ne.ensures c.if-ne.true,
    )

pub returns : goal.returns
unfolding judged first_line
returns c =
    rw (
      line-ends c.args.text.now 0 heading c.in-Some.end c.in-Some.ensures.first c.in-Some.ensures.within,
      other (take c.in-Some.end c.args.text.now) _ false c.ne.ensures c.if-ne.false,
      zero-add c.in-Some.end,
    )
