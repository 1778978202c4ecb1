-- The row rule (document 01, "Rows of the table"), for any charge, any profile of allowed splits and any limit.
use Rattle.std.specs.Prelude.{◌≡◌, ℕ, zero, suc, ◌+◌, ◌-◌, Bool, true, false, cond, ◌&&◌, [], nat_le, nat_lt, refl}
use Rattle.relations.specs.Sets.{weight, mem, those, without, inside, larger, rest}
use Rattle.charges.specs.Charges.{priced, charge}
use Rattle.table.specs.Figures.{Figures, figures, size_rule}
use Rattle.table.specs.Tables.{Table, row_at}
use Rattle.table.specs.declared.rows.Row.{Row}
use Rattle.table.specs.declared.splits.Split.{Split}

-- The cost of a set that no usable split has: 2^64-1.
abbrev pub NONE : ℕ
NONE = 18446744073709551615

-- What joins are charged, the splits of a set that may be used, which may go by the figures, and the limit.
pub record Job : Type 0 where
  pub charge : ℕ → ℕ → ℕ → ℕ
  pub profile : Figures → ℕ → ℕ → Bool
  pub limit : ℕ

-- Document 01's own profile: every split.
abbrev pub bushy : Figures → ℕ → ℕ → Bool
bushy fig S L = true

-- The job of a model and a limit.
abbrev pub job_for : ℕ → ℕ → Job
job_for model limit = record { charge = charge model; profile = bushy; limit = limit }

-- "Splits are tried in rising order of the left part. Of the usable splits the cheapest is recorded, and among equals the left part with
-- the least number": of the left parts below k, each at its price, the first that is cheaper than all before it. What cannot be used has
-- the price NONE and is never taken; "with none usable, cost is 2^64-1 and the left part 0".
module _ (price : ℕ → ℕ) where
  unfoldable pub better : Split → ℕ → Split
  better b L = cond (nat_lt (price L) b.cost) (record { cost = price L; left = L }) b

  unfoldable pub best_to : ℕ → Split
  best_to zero = record { cost = NONE; left = 0 }
  best_to (suc L) = better (best_to L) L

module _ (job : Job) (fig : Figures) where
  -- "Both parts are non-empty": L, below S, is a left part of S, and the profile allows the split.
  unfoldable pub splits : ℕ → ℕ → Bool
  splits S L = nat_le 1 L && inside L S && job.profile fig S L

  -- "A join costs the left tree plus the right tree plus a charge": of the rows a and b into size o.
  unfoldable pub join_cost : Row → Row → ℕ → ℕ
  join_cost a b o = a.cost + b.cost + job.charge a.size b.size o

  -- "A part whose stored cost exceeds the limit is unusable, and so is a split whose total does."
  unfoldable pub within : Row → Row → ℕ → Bool
  within a b o = nat_le a.cost job.limit && nat_le b.cost job.limit && nat_le (join_cost a b o) job.limit

  module _ (T : Table) (S : ℕ) where
    -- The price of the left part L, with o the size of S.
    unfoldable pub price : ℕ → ℕ → ℕ
    price o L = cond (splits S L && within (row_at T L) (row_at T (S - L)) o) (join_cost (row_at T L) (row_at T (S - L)) o) NONE

    -- "A relation alone costs 0" and has no left part, and so it is with the empty set.
    unfoldable pub split_of : ℕ → Split
    split_of o = cond (larger S) (best_to (price o) S) (record { cost = 0; left = 0 })

    unfoldable pub row_with : ℕ → Row
    row_with o = record { size = o; cost = (split_of o).cost; left = (split_of o).left }

    unfoldable pub row_of : Row
    row_of = row_with (size_rule fig S (row_at T (rest S)).size)

-- ---- computed: of left parts priced 9, 5, 7, 5 and 3 the best of the first four is the second, and of all the last

prices : ℕ → ℕ
prices zero = 9
prices (suc zero) = 5
prices (suc (suc zero)) = 7
prices (suc (suc (suc zero))) = 5
prices (suc (suc (suc (suc _)))) = 3

chosen : (best_to prices 4 ≡ record { cost = 5; left = 1 }) × (best_to prices 5 ≡ record { cost = 3; left = 4 })
unfolding better best_to prices
chosen = (refl, refl)

-- Of the set {2,3} the left part {2} is one, with no predicate across it; {1,2} and the empty set are none.
split : (splits (job_for 0 9) (figures [] []) 6 2 ≡ true)
    × (splits (job_for 0 9) (figures [] []) 6 3 ≡ false)
    × (splits (job_for 0 9) (figures [] []) 6 0 ≡ false)
unfolding weight mem those without inside splits
split = (refl, refl, refl)

-- Parts of cost a and b, into size 1 at the limit 9: the total is at the limit, or above it, or a part is.
abbrev limited : ℕ → ℕ → Bool
limited a b = within (job_for 0 9) (figures [] []) (record { size = 4; cost = a; left = 0 }) (record { size = 4; cost = b; left = 0 }) 1

usable : (limited 4 4 ≡ true) × (limited 4 5 ≡ false) × (limited 10 0 ≡ false) × (limited 0 10 ≡ false)
unfolding priced charge join_cost within
usable = (refl, refl, refl, refl)
