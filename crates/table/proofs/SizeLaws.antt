-- The size of a set by the figures alone, and that a fresh row's size is it.
use Rattle.std.proofs.Common.{◌≡◌, ℕ, zero, suc, ◌^◌, ◌<◌, ◌≤◌, sym, refl, ap, ◌∙◌, le_of_suc-le-suc, arith}
use native.Mathlib.Decide.{le_ind}
use Rattle.relations.specs.Sets.{weight, lowest_to, lowest, rest, larger}
use Rattle.relations.proofs.Lowest.{rest_lt}
use Rattle.table.specs.Figures.{Figures, count, size_rule, size_in, size_of}
use Rattle.table.specs.Tables.{Table, row_at, Fresh}
use Rattle.table.specs.Rule.{NONE, Job, row_with, row_of}
use Rattle.table.specs.declared.rows.Row.{Row}
use Rattle.table.proofs.Reasoning.{strong}

module _ (fig : Figures) where
  -- The empty set counts nothing.
  size-empty : (v : ℕ) → size_rule fig 0 v ≡ 0
  unfolding size_rule larger rest weight lowest lowest_to count
  size-empty v = refl

  -- One relation deeper changes nothing.
  size-more : (f S : ℕ) → S ≤ f → size_in fig (suc f) S ≡ size_in fig f S
  unfolding size_in
  size-more zero zero h = size-empty 0
  size-more zero (suc s) h = absurd (omega arith)
  size-more (suc f) zero h = size-empty (size_in fig (suc f) (rest 0)) ∙ sym (size-empty (size_in fig f (rest 0)))
  size-more (suc f) (suc s) h = ap (size_rule fig (suc s)) (size-more f (rest (suc s)) (omega (arith, rest_lt (suc s) (omega arith))))

  -- S relations deep is deep enough.
  size-enough : (f S : ℕ) → S ≤ f → size_in fig f S ≡ size_of fig S
  unfolding size_of
  size-enough f S h = le_ind (λ (m : ℕ). size_in fig m S ≡ size_in fig S S) refl (λ m k e. size-more m S k ∙ e) f h

  -- The size rule, with the size of the rest by the same rule.
  size_step : (S : ℕ) → size_of fig S ≡ size_rule fig S (size_of fig (rest S))
  unfolding size_of size_in
  size_step zero = sym (size-empty (size_of fig (rest 0)))
  size_step (suc s) = ap (size_rule fig (suc s)) (size-enough s (rest (suc s)) (le_of_suc-le-suc (rest_lt (suc s) (omega arith))))

-- A fresh row's size is that of the figures alone.
fresh-size : (job : Job) (fig : Figures) (top : ℕ) (T : Table) → Fresh (row_of job fig) top T
    → (S : ℕ) → S < top → (row_at T S).size ≡ size_of fig S
fresh-size job fig top T fresh = strong (λ (S : ℕ). S < top → (row_at T S).size ≡ size_of fig S) step
  where
    by_rule : (S : ℕ) → S < top → (row_at T S).size ≡ size_rule fig S (row_at T (rest S)).size
    by_rule S l = ap (λ (r : Row). r.size) (fresh S l) ∙ unfold row_of row_with in refl

    step : (S : ℕ) → ((L : ℕ) → L < S → L < top → (row_at T L).size ≡ size_of fig L) → S < top → (row_at T S).size ≡ size_of fig S
    step zero ih l = by_rule 0 l ∙ size-empty fig (row_at T (rest 0)).size ∙ unfold size_of size_in in refl
    step (suc s) ih l =
        let r = rest_lt (suc s) (omega arith) in
        by_rule (suc s) l ∙ ap (size_rule fig (suc s)) (ih (rest (suc s)) r (omega arith)) ∙ sym (size_step fig (suc s))

-- What demand 2 needs to know of a table: it is fresh, under a limit below NONE, and its sizes are those of the figures alone.
pub record Solved (job : Job) (fig : Figures) (n : ℕ) (T : Table) : Type 0 where
  pub low : job.limit < NONE
  pub fresh : Fresh (row_of job fig) (2 ^ n) T
  pub sized : (S : ℕ) → S < 2 ^ n → (row_at T S).size ≡ size_of fig S

pub solved : (job : Job) (fig : Figures) (n : ℕ) (T : Table) → job.limit < NONE → Fresh (row_of job fig) (2 ^ n) T → Solved job fig n T
solved job fig n T low fresh = record { low = low; fresh = fresh; sized = fresh-size job fig (2 ^ n) T fresh }
