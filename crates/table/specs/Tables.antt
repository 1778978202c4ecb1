-- The table: its rows, its columns and the one fold that fills and mends it (document 01, "Rows of the table"). A further column is a
-- field of `Row` and of `Table` and a line in each definition here.
use Rattle.std.specs.Prelude.{◌≡◌, ℕ, zero, suc, ◌+◌, ◌-◌, ◌<◌, ◌≤◌, Bool, true, false, List, [], ◌∷◌, length, slice_index, slice_set, refl}
use Rattle.relations.specs.Sets.{mem}
use Rattle.table.specs.declared.rows.Row.{Row}

-- "Three lent columns, indexed by set number: size, cost, left part."
pub record Table : Type 0 where
  pub sizes : List ℕ
  pub costs : List ℕ
  pub lefts : List ℕ

abbrev pub columns : List ℕ → List ℕ → List ℕ → Table
columns sizes costs lefts = record { sizes = sizes; costs = costs; lefts = lefts }

unfoldable pub row_at : Table → ℕ → Row
row_at T S = record { size = slice_index T.sizes S; cost = slice_index T.costs S; left = slice_index T.lefts S }

unfoldable pub write_row : Table → ℕ → Row → Table
write_row T S r = record { sizes = slice_set T.sizes S r.size; costs = slice_set T.costs S r.cost; lefts = slice_set T.lefts S r.left }

-- Every column has m rows or more.
pub record Room (T : Table) (m : ℕ) : Type 0 where
  pub sizes : m ≤ length T.sizes
  pub costs : m ≤ length T.costs
  pub lefts : m ≤ length T.lefts

-- A rule gives the row of a set from the rows that are there. It is applied "in rising number" to the touched sets below k.
module _ (rule : Table → ℕ → Row) where
  unfoldable pub mend_row : Bool → Table → ℕ → Table
  mend_row true T S = write_row T S (rule T S)
  mend_row false T S = T

  unfoldable pub mend_to : (ℕ → Bool) → ℕ → Table → Table
  mend_to touched zero T = T
  mend_to touched (suc S) T = mend_row (touched S) (mend_to touched S T) S

  -- Each row below top is what the rule gives from the rows that are there.
  abbrev pub Fresh : ℕ → Table → Type 0
  Fresh top T = (S : ℕ) → S < top → row_at T S ≡ rule T S

-- ---- computed: a rule that adds one to the size in the row before, applied below 4

abbrev next : Table → ℕ → Row
next T S = record { size = (row_at T (S - 1)).size + 1; cost = 0; left = 0 }

abbrev nines : List ℕ
nines = 9 ∷ 9 ∷ 9 ∷ 9 ∷ 9 ∷ []

-- In rising number each row is worked from one that is written already, and row 4 is past the top.
rising : mend_to next (λ S. true) 4 (columns nines nines nines)
    ≡ columns (10 ∷ 11 ∷ 12 ∷ 13 ∷ 9 ∷ []) (0 ∷ 0 ∷ 0 ∷ 0 ∷ 9 ∷ []) (0 ∷ 0 ∷ 0 ∷ 0 ∷ 9 ∷ [])
unfolding row_at write_row mend_row mend_to
rising = refl

-- Of the sets that hold relation 1 the rows are written, from what is found in the others.
touching : mend_to next (mem 1) 4 (columns nines nines nines)
    ≡ columns (9 ∷ 10 ∷ 9 ∷ 10 ∷ 9 ∷ []) (9 ∷ 0 ∷ 9 ∷ 0 ∷ 9 ∷ []) (9 ∷ 0 ∷ 9 ∷ 0 ∷ 9 ∷ [])
unfolding mem row_at write_row mend_row mend_to
touching = refl
