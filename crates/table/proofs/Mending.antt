-- The fold that applies a row rule in rising number, for any rule that reads only the rows of proper parts of the set that it is at.
use Rattle.std.proofs.Common.{◌≡◌, ℕ, zero, suc, ◌+◌, ◌<◌, ◌≤◌, Bool, true, false, ◌⊎◌, sym, refl, ap, ◌∙◌, subst, inl, inr, true≢false, le_of_suc-le-suc, eq-or-lt_of_le, arith}
use Rattle.relations.specs.Sets.{Part}
use Rattle.table.specs.Tables.{Table, row_at, write_row, Room, mend_row, mend_to, Fresh}
use Rattle.table.specs.declared.rows.Row.{Row}
use Rattle.table.proofs.Reasoning.{by_test, strong}
use Rattle.table.proofs.Columns.{row_same, row_other, room-kept}

-- ---- one row, by the test of whether it is touched

pub row_kept : (rule : Table → ℕ → Row) (b : Bool) (T : Table) (S : ℕ) → b ≡ false → T ≡ mend_row rule b T S
unfolding mend_row
row_kept rule b T S e = rw e

pub row_made : (rule : Table → ℕ → Row) (b : Bool) (T : Table) (S : ℕ) (r : Row) → b ≡ true → r ≡ rule T S → write_row T S r ≡ mend_row rule b T S
unfolding mend_row
row_made rule b T S r e q = rw (e, q)

-- ---- the fold

-- A turn of the loop.
pub mend_next : (rule : Table → ℕ → Row) (touched : ℕ → Bool) (S : ℕ) (T U W : Table) → U ≡ mend_to rule touched S T
    → W ≡ mend_row rule (touched S) U S → W ≡ mend_to rule touched (S + 1) T
unfolding mend_to
mend_next rule touched S T U W e q =
    let one : suc S ≡ S + 1 = omega arith in
    q ∙ ap (λ (X : Table). mend_row rule (touched S) X S) e ∙ ap (λ (k : ℕ). mend_to rule touched k T) one

-- The two tables have the same rows at the proper parts of S; a rule that reads no others.
abbrev pub Agree : Table → Table → ℕ → Type 0
Agree T U S = (L : ℕ) → L < S → Part L S → row_at T L ≡ row_at U L

abbrev pub Local : (Table → ℕ → Row) → Type 0
Local rule = (T U : Table) (S : ℕ) → Agree T U S → rule T S ≡ rule U S

module _ (rule : Table → ℕ → Row) (touched : ℕ → Bool) where
  pub mend_room : (k : ℕ) (T : Table) {m : ℕ} → Room T m → Room (mend_to rule touched k T) m
  unfolding mend_to mend_row
  mend_room zero T h = h
  mend_room (suc k) T {m} h = row (touched k) (mend_to rule touched k T) (mend_room k T h)
    where
      row : (b : Bool) (U : Table) → Room U m → Room (mend_row rule b U k) m
      row true U g = room-kept U k (rule U k) g
      row false U g = g

  -- T4: a row that is not touched, or stands at k or above, is as it was, whatever the table holds.
  pub mend_keeps : (k : ℕ) (T : Table) (S : ℕ) → (S < k → touched S ≡ false) → row_at (mend_to rule touched k T) S ≡ row_at T S
  unfolding mend_to mend_row
  mend_keeps zero T S h = refl
  mend_keeps (suc k) T S h = row (touched k) refl (mend_to rule touched k T) ∙ mend_keeps k T S (λ l. h (omega arith))
    where
      row : (b : Bool) → touched k ≡ b → (U : Table) → row_at (mend_row rule b U k) S ≡ row_at U S
      row true e U = row_other U k (rule U k) S (λ q. true≢false (sym e ∙ ap touched (sym q) ∙ h (omega arith)))
      row false e U = refl

  -- A touched row below k ends as the rule gives it from the rows that are there at the end.
  module _ (local : Local rule) where
    below : (b : Bool) (U : Table) (k L : ℕ) → L < k → row_at (mend_row rule b U k) L ≡ row_at U L
    unfolding mend_row
    below true U k L l = row_other U k (rule U k) L (omega arith)
    below false U k L l = refl

    -- what the rule reads at S is not changed by a row written at S or above
    steady : (b : Bool) (U : Table) (k S : ℕ) → S ≤ k → rule U S ≡ rule (mend_row rule b U k) S
    steady b U k S h = local U (mend_row rule b U k) S (λ L l _. sym (below b U k L (omega arith)))

    pub mend_made : (k : ℕ) (T : Table) {m : ℕ} → Room T m → k ≤ m → (S : ℕ) → S < k → touched S ≡ true
        → row_at (mend_to rule touched k T) S ≡ rule (mend_to rule touched k T) S
    unfolding mend_to mend_row
    mend_made zero T room h S l t = absurd (omega arith)
    mend_made (suc k) T {m} room h S l t =
        at (touched k) refl (mend_to rule touched k T) (mend_room k T room) (λ g. mend_made k T room (omega arith) S g t) (eq-or-lt_of_le (le_of_suc-le-suc l))
      where
        at : (b : Bool) → touched k ≡ b → (U : Table) → Room U m → (S < k → row_at U S ≡ rule U S) → (S ≡ k) ⊎ (S < k)
            → row_at (mend_row rule b U k) S ≡ rule (mend_row rule b U k) S
        at b e U r ih (inr g) = below b U k S g ∙ ih g ∙ steady b U k S (omega arith)
        at true e U r ih (inl q) = subst (λ (x : ℕ). row_at (mend_row rule true U k) x ≡ rule (mend_row rule true U k) x) (sym q)
            (row_same U k (rule U k) r (omega arith) ∙ steady true U k k (omega arith))
        at false e U r ih (inl q) = absurd (true≢false (sym t ∙ ap touched q ∙ e))

-- T1: a fill, which touches every set, is fresh, whatever the columns held.
pub fill-fresh : (rule : Table → ℕ → Row) → Local rule → (touched : ℕ → Bool) → ((S : ℕ) → touched S ≡ true)
    → (top : ℕ) (T : Table) → Room T top → Fresh rule top (mend_to rule touched top T)
fill-fresh rule local touched every top T room S l = mend_made rule touched local top T room (omega arith) S l (every S)

-- T2: fresh tables have the same rows.
pub fresh_unique : (rule : Table → ℕ → Row) → Local rule → (top : ℕ) (T U : Table) → Fresh rule top T → Fresh rule top U
    → (S : ℕ) → S < top → row_at T S ≡ row_at U S
fresh_unique rule local top T U f g =
    strong (λ (S : ℕ). S < top → row_at T S ≡ row_at U S)
    (λ S ih l. f S l ∙ local T U S (λ L h _. ih L h (omega arith)) ∙ sym (g S l))

-- T3: from a fresh table, mending what a change touches gives a fresh table of the changed rule.
pub mend_fresh : (old new : Table → ℕ → Row) (touched : ℕ → Bool) → Local new
    → ((L S : ℕ) → Part L S → touched L ≡ true → touched S ≡ true)
    → (top : ℕ) (T : Table) → ((S : ℕ) → S < top → touched S ≡ false → old T S ≡ new T S)
    → Room T top → Fresh old top T → Fresh new top (mend_to new touched top T)
mend_fresh old new touched local up top T alike room fresh S l = by_test (touched S) made kept
  where
    made : touched S ≡ true → row_at (mend_to new touched top T) S ≡ new (mend_to new touched top T) S
    made t = mend_made new touched local top T room (omega arith) S l t

    part-kept : touched S ≡ false → (L : ℕ) → L < S → Part L S → row_at T L ≡ row_at (mend_to new touched top T) L
    part-kept t L h p =
        sym (mend_keeps new touched top T L (λ _. by_test (touched L) (λ e. absurd (true≢false (sym (up L S p e) ∙ t))) (λ e. e)))

    kept : touched S ≡ false → row_at (mend_to new touched top T) S ≡ new (mend_to new touched top T) S
    kept t =
        mend_keeps new touched top T S (λ _. t) ∙ fresh S l ∙ alike S l t
        ∙ local T (mend_to new touched top T) S (part-kept t)
