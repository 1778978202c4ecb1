-- What the contracts of the inner functions speak of. No promise to a caller rests on it.
use Rattle.std.specs.Prelude.{ℕ, ◌<◌, false, List, ◌≡◌, length, Result as Outcome, Ok, Err}
use Rattle.newick.specs.Walks.{meets_fault}
use Rattle.newick.specs.Results.{number_of}
use Rattle.newick.specs.declared.Refusal.{Refusal}

-- What the checks find, by its number.
abbrev pub found : Outcome Unit Refusal → ℕ
found (Ok _) = 0
found (Err why) = number_of why

-- The column has a row for S, which is not empty, and the walk from S meets no fault.
pub record Walked (lefts : List ℕ) (S : ℕ) : Type 0 where
  pub some : 0 < S
  pub room : S < length lefts
  pub sound : meets_fault lefts S ≡ false
