-- What the contracts of the inner functions speak of. No promise to a caller rests on it.
use Rattle.std.specs.Prelude.{◌≡◌, ℕ, ◌-◌, ◌*◌, ◌/◌, ◌^◌, ◌≤◌, min, Bool, ◌&&◌, length, slice_index_or, Result as Outcome, Ok, Err}
use Rattle.relations.specs.Sets.{MOST, all_of, inside}
use Rattle.charges.specs.Charges.{priced, charge}
use Rattle.table.specs.Figures.{Figures}
use Rattle.table.specs.Tables.{Table, Room, row_at, mend_to}
use Rattle.table.specs.Rule.{Job, bushy, job_for, row_of}
use Rattle.table.specs.Results.{Call, number_of, planned, Result}
use Rattle.table.specs.declared.splits.Split.{Split}
use Rattle.table.specs.declared.Refusal.{Refusal}

-- A divisor for each pair of relations, and none is 0.
pub record Complete (fig : Figures) : Type 0 where
  pub pairs : length fig.divisors ≡ length fig.counts * (length fig.counts - 1) / 2
  pub positive : (k : ℕ) → 1 ≤ slice_index_or fig.divisors k 1

-- The product of up to fourteen divisors passes 64 bits. The code holds it here, which alters no size (proofs/Products, `up-held`).
abbrev pub HELD : ℕ
HELD = 18446744073709551615

-- What a split into size o pays of its own, beyond what every split pays at least: empty parts are charged no more than others (document
-- 002, section 3.2). It is all that the search charges, within the room that is left.
abbrev pub split_charge : ℕ → ℕ → ℕ → ℕ → ℕ
split_charge model a b o = charge model a b o - charge model 0 0 o

abbrev pub split_job : ℕ → ℕ → Job
split_job model room = record { charge = split_charge model; profile = bushy; limit = room }

-- A split by its cost, held at one that is too high to be of use.
abbrev pub under : ℕ → Split → Split
under above b = record { cost = min b.cost above; left = b.left }

-- S holds the sets a and b. They are the relations that an edit names, one by one, and both are empty for a fill.
unfoldable pub holding : ℕ → ℕ → ℕ → Bool
holding a b S = inside a S && inside b S

-- What the row rule, applied in rising number to the sets below 2^n that f picks, leaves, and what its full row answers.
abbrev pub fold : (ℕ → Bool) → Call → Table
fold f c = mend_to (row_of (job_for c.model c.limit) c.figures) f (2 ^ c.n) c.table

abbrev pub folded : (ℕ → Bool) → Call → Result
folded f c = record { answer = planned (row_at (fold f c) (all_of c.n)); figures = c.figures; table = fold f c }

-- What the checks find, by its number.
abbrev pub found : Outcome Unit Refusal → ℕ
found (Ok _) = 0
found (Err why) = number_of why

-- What the checks 1 to 6 make sure of where none refuses, one by one. The new divisor is d.
pub record Fit (d : ℕ) (c : Call) : Type 0 where
  pub some : 1 ≤ c.n
  pub few : c.n ≤ MOST
  pub counts : length c.figures.counts ≡ c.n
  pub divisors : length c.figures.divisors ≡ c.n * (c.n - 1) / 2
  pub new : 1 ≤ d
  pub stored : (k : ℕ) → 1 ≤ slice_index_or c.figures.divisors k 1
  pub model : (priced c.model 0 0 0).number ≡ 0
  pub limit : c.limit ≤ 2 ^ 60
  pub room : Room c.table (2 ^ c.n)
