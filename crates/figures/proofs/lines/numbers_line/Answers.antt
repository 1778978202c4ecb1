use Rattle.std.proofs.Common.{◌≡◌, ℕ, ◌+◌, ◌-◌, ◌<◌, List, length, take, drop, sym, ◌∙◌, arith}
use Rattle.std.specs.Prelude.{Some, None}
use Rattle.figures.specs.Lines.{FEED, numbers_of}
use Rattle.figures.specs.Judge.{Result, refused, on_line, with_numbers}
use Rattle.figures.specs.Inner.{first_of, words_of, lines_at, Going}
use Rattle.figures.proofs.Told.{line_open, line-ends, words_told, words_none, some-large, none-large}
use Rattle.figures.proofs.lines.numbers_line.Goals as goal

-- The line of `len` bytes from `at` on,
module _ (text : List ℕ) (at len : ℕ) (e : Some len ≡ first_of FEED (drop at text)) (l : at + len < length text) where
  abbrev line : List ℕ
  line = take (at + len - at) (drop at text)

  -- how the judge goes on after it,
  abbrev going : Going → ℕ → ℕ → ℕ → Result
  going go a b c = go a b c (at + len + 1) (lines_at text (at + len + 1))

  -- and what he does with it.
  abbrev judged : Going → Result
  judged go = on_line at (lines_at text at) (λ l next rest. with_numbers at (numbers_of l) (λ a b c. go a b c next rest))

  ends : (go : Going) → judged go ≡ with_numbers at (numbers_of line) (going go)
  ends go = let k : at + len - at ≡ len = omega arith in line-ends text at _ len e l ∙ rw k

  not_three : None ≡ words_of (numbers_of line) → (go : Going) → refused 11 at ≡ judged go
  unfolding with_numbers
  not_three h go = sym (ends go ∙ rw (words_none (numbers_of line) (sym h)))

pub returns-in_default-clause-reads : goal.returns-in_default-clause-reads
returns-in_default-clause-reads c = λ go. rw c.at.ensures (sym (line_open c.args.text.now c.args.at _ c.in_default.ensures.first))

pub returns-in_default-three-clause-reads : goal.returns-in_default-three-clause-reads
returns-in_default-three-clause-reads c =
    rw c.at-in_default-three.ensures
    (not_three c.args.text.now c.args.at c.in-Some.len c.in-Some.ensures.first c.in-Some.ensures.within c.in_default-three.ensures)

pub returns-then-a-gt-LARGEST-clause-reads : goal.returns-then-a-gt-LARGEST-clause-reads
returns-then-a-gt-LARGEST-clause-reads c =
    let t = words_told _ _ _ _ (sym c.in-Some-three.ensures) in
    λ go. rw c.at-then-a-gt-LARGEST.ensures
    (some-large t _ _ (λ p q r. omega arith)
    ∙ sym (ends c.args.text.now c.args.at c.in-Some.len c.in-Some.ensures.first c.in-Some.ensures.within go))

pub returns-clause-reads : goal.returns-clause-reads
returns-clause-reads c =
    let text : List ℕ = c.args.text.now in
    let t = words_told _ _ _ _ (sym c.in-Some-three.ensures) in
    λ go. none-large t c.args.at (going text c.args.at c.in-Some.len c.in-Some.ensures.first c.in-Some.ensures.within go)
    c.if-a-gt-LARGEST.false c.if-b-gt-LARGEST.false c.if-c-gt-LARGEST.false
    ∙ sym (ends text c.args.at c.in-Some.len c.in-Some.ensures.first c.in-Some.ensures.within go)
