-- An accepted text stands for the number 0 and the place 0; a refused one has its own.
use Rattle.std.proofs.Common.{ℕ, zero, suc, ◌≡◌, refl, sym, ◌∙◌, eqb, eq-eqb, ne_eqb}
use lib.Dec.{eqb-zero-suc, eqb-suc-zero}
use Rattle.cases.specs.Files.{is_answer}
use Rattle.cases.proofs.files.is_answer.Goals as goal

-- A test against 0, either way round.
zero_first : (k : ℕ) → eqb k 0 ≡ eqb 0 k
zero_first zero = refl
zero_first (suc k) = eqb-suc-zero k ∙ sym (eqb-zero-suc k)

pub returns-then-number-eq0 : goal.returns-then-number-eq0
unfolding is_answer
returns-then-number-eq0 c = rw (c.in-Ok.is, c.if-number-eq0.true) (zero_first c.args.place)

pub returns-else-number-eq0 : goal.returns-else-number-eq0
unfolding is_answer
returns-else-number-eq0 c = rw (c.in-Ok.is, ← zero_first c.args.number, ne_eqb _ _ c.if-number-eq0.false) refl

pub returns-then-from-number : goal.returns-then-from-number
unfolding is_answer
returns-then-from-number c = rw (c.in-Err.is, ← c.from.ensures, eq-eqb _ _ c.if-from-number.true) refl

pub returns-else-from-number : goal.returns-else-from-number
unfolding is_answer
returns-else-from-number c = rw (c.in-Err.is, ← c.from.ensures, ne_eqb _ _ c.if-from-number.false) refl
