use Rattle.std.proofs.Common.{◌≡◌, ℕ, ◌<◌, ◌≤◌, suc, List, [], length, drop, get_or, true, false, sym, ap, ◌∙◌, arith, add-one}
use lib.ListN.{drop_of_length-le}
use Rattle.numbers.specs.Texts.{is_digit, value}
use borrow.Author.Tests.{eqb-true}
use Rattle.std.proofs.lemmas.Bool.Decides.{nat_tests}
use Rattle.figures.specs.Lines.{all_digits, is_number}
use Rattle.figures.specs.Inner.{held, word_of}
use Rattle.std.specs.Prelude.{Some, None}
use Rattle.figures.proofs.Digits.{no_number, digits_stop, digits_more, value-more, value-held, leading_zero, digits_number}
use Rattle.figures.proofs.words.number.Goals as goal

-- A word that has some digits, and no leading zero, is what its digits are.
stopped :
    (w : List ℕ) (at : ℕ) →
    is_number w ≡ all_digits w →
    all_digits (drop at w) ≡ all_digits w →
    at < length w →
    is_digit (get_or w at 0) ≡ false →
    None ≡ word_of w
unfolding word_of
stopped w at n d l other = rw (n, sym d ∙ digits_stop w at l other)

ended :
    (w : List ℕ) (at v : ℕ) →
    is_number w ≡ all_digits w →
    v ≤ 4294967296 →
    all_digits (drop at w) ≡ all_digits w →
    held (value v (drop at w)) ≡ held (value 0 w) →
    length w ≤ at →
    Some v ≡ word_of w
unfolding word_of all_digits value
ended w at v n m d q l =
    let e : drop at w ≡ [] = drop_of_length-le w l in
    let yes : all_digits w ≡ true = sym d ∙ ap all_digits e in
    let same : held v ≡ held (value 0 w) = sym (ap (λ (xs : List ℕ). held (value v xs)) e) ∙ q in
    let h : v ≡ held (value 0 w) = omega arith in
    rw (n, yes, ← h)

pub returns-then-is_empty : goal.returns-then-is_empty
unfolding word_of
returns-then-is_empty c = rw (no_number _ (eqb-true _ _ (sym c.is_empty.ensures ∙ c.if-is_empty.true)))

pub returns-then-word-gt1 : goal.returns-then-word-gt1
unfolding word_of
returns-then-word-gt1 c = rw (leading_zero c.args.word.now (omega arith) c.if-word-gt1.true)

pub returns-then-not-is_ascii_digit : goal.returns-then-not-is_ascii_digit
unfolding is_digit
returns-then-not-is_ascii_digit c =
    let n = digits_number c.args.word.now (omega arith) c.loop-c.invariant.no_leading_zero in
    stopped c.args.word.now c.loop-c.c-index n c.loop-c.invariant.digits c.loop-c-test.true (sym c.if-not-is_ascii_digit.ensures.value)

pub loop-c-preserved : goal.loop-c-preserved
unfolding is_digit
loop-c-preserved c =
    let w : List ℕ = c.args.word.now in
    let at : ℕ = c.loop-c.c-index in
    let v : ℕ = c.loop-c.value in
    let yes : is_digit (get_or w at 0) ≡ true = sym c.if-not-is_ascii_digit.ensures.value in
    rw (add-one at, c.with_digit-value.ensures) record {
      within = omega arith;
      no_leading_zero = c.loop-c.invariant.no_leading_zero;
      digits = sym (digits_more w at c.loop-c-test.true yes) ∙ c.loop-c.invariant.digits;
      value =
          value-held (drop (suc at) w) _
          ∙ ap held (sym (value-more w at c.loop-c-test.true v yes))
          ∙ c.loop-c.invariant.value;
    }

pub returns : goal.returns
returns c =
    let some : 0 < length c.args.word.now = grind (arith, nat_tests) in
    let n = digits_number c.args.word.now some c.loop-c.invariant.no_leading_zero in
    ended c.args.word.now c.loop-c.c-index c.loop-c.value n c.loop-c.invariant.within c.loop-c.invariant.digits c.loop-c.invariant.value
    c.loop-c-test.false
