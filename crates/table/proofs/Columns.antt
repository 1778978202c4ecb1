-- What the theory uses of a table: a row that is written is read back, the others are as they were, no column grows or shrinks, and
-- a table is its columns' lengths and its rows.
use Rattle.std.proofs.Common.{◌≡◌, ℕ, zero, suc, ◌<◌, Bool, true, false, ◌≢◌, length, refl, ap, ◌∙◌, arith, length-set, get_or-set_other, get_or-set_same, ext_get_or}
use Rattle.table.specs.Tables.{Table, row_at, write_row, Room, mend_row, mend_to}
use Rattle.table.specs.declared.rows.Row.{Row}

pub row_same : (T : Table) (S : ℕ) (r : Row) {m : ℕ} → Room T m → S < m → row_at (write_row T S r) S ≡ r
unfolding row_at write_row
row_same T S r {m} h l i = record {
  size = get_or-set_same T.sizes S r.size 0 (omega (arith, h.sizes)) i;
  cost = get_or-set_same T.costs S r.cost 0 (omega (arith, h.costs)) i;
  left = get_or-set_same T.lefts S r.left 0 (omega (arith, h.lefts)) i;
}

pub row_other : (T : Table) (S : ℕ) (r : Row) (O : ℕ) → O ≢ S → row_at (write_row T S r) O ≡ row_at T O
unfolding row_at write_row
row_other T S r O h i = record {
  size = get_or-set_other T.sizes S O r.size 0 h i;
  cost = get_or-set_other T.costs S O r.cost 0 h i;
  left = get_or-set_other T.lefts S O r.left 0 h i;
}

pub room-kept : (T : Table) (S : ℕ) (r : Row) {m : ℕ} → Room T m → Room (write_row T S r) m
unfolding write_row
room-kept T S r {m} h = record {
  sizes = omega (arith, h.sizes, length-set T.sizes S r.size);
  costs = omega (arith, h.costs, length-set T.costs S r.cost);
  lefts = omega (arith, h.lefts, length-set T.lefts S r.left);
}

-- The columns of T are as long as those of U.
pub record AsLong (T U : Table) : Type 0 where
  pub sizes : length T.sizes ≡ length U.sizes
  pub costs : length T.costs ≡ length U.costs
  pub lefts : length T.lefts ≡ length U.lefts

-- Such tables with the same rows are one.
pub table_same : (T U : Table) → AsLong T U → ((S : ℕ) → row_at T S ≡ row_at U S) → T ≡ U
unfolding row_at
table_same T U l h i = record {
  sizes = ext_get_or 0 T.sizes U.sizes l.sizes (λ S _. ap (λ (r : Row). r.size) (h S)) i;
  costs = ext_get_or 0 T.costs U.costs l.costs (λ S _. ap (λ (r : Row). r.cost) (h S)) i;
  lefts = ext_get_or 0 T.lefts U.lefts l.lefts (λ S _. ap (λ (r : Row). r.left) (h S)) i;
}

-- Whatever is mended, by whatever rule, the columns stay as long as they were.
pub mend_long : (rule : Table → ℕ → Row) (touched : ℕ → Bool) (k : ℕ) (T : Table) → AsLong (mend_to rule touched k T) T
unfolding mend_to mend_row write_row
mend_long rule touched zero T = record { sizes = refl; costs = refl; lefts = refl }
mend_long rule touched (suc k) T = row (touched k) (mend_to rule touched k T) (mend_long rule touched k T)
  where
    row : (b : Bool) (U : Table) → AsLong U T → AsLong (mend_row rule b U k) T
    row true U l =
        let r : Row = rule U k in
        record {
          sizes = length-set U.sizes k r.size ∙ l.sizes;
          costs = length-set U.costs k r.cost ∙ l.costs;
          lefts = length-set U.lefts k r.left ∙ l.lefts;
        }
    row false U l = l
