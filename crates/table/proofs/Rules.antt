-- The row rule: its two kinds of row, and that it reads only the rows of proper parts.
use Rattle.std.proofs.Common.{◌≡◌, ℕ, ◌-◌, ◌<◌, ◌≤◌, Bool, true, false, cond, ◌&&◌, leb, sym, refl, ap, ◌∙◌, arith, le-leb, leb-true}
use mathlib.Core.Bool.{and-eq-true_iff}
use borrow.Author.Tests.{lt-leb}
use Rattle.relations.specs.Sets.{Part, inside, lowest, rest, larger}
use Rattle.relations.proofs.Parts.{part-le, part-other, inside-part, part-inside}
use Rattle.relations.proofs.Lowest.{rest_part, rest_lt}
use Rattle.table.specs.Figures.{Figures, count, joined, size_rule}
use Rattle.table.specs.Tables.{Table, row_at}
use Rattle.table.specs.Rule.{NONE, Job, best_to, splits, join_cost, within, price, split_of, row_with, row_of}
use Rattle.table.specs.declared.rows.Row.{Row}
use Rattle.table.specs.declared.splits.Split.{Split}
use Rattle.table.proofs.Reasoning.{by_test}
use Rattle.table.proofs.Mending.{Agree, Local}
use Rattle.table.proofs.Best.{best_ext}

-- ---- the two kinds of set

pub not_larger : (S : ℕ) → rest S ≡ 0 → larger S ≡ false
unfolding larger
not_larger S e = lt-leb 1 (rest S) (omega arith)

pub is_larger : (S : ℕ) → 0 < rest S → larger S ≡ true
unfolding larger
is_larger S h = le-leb 1 (rest S) h

pub larger-rest : (S : ℕ) → larger S ≡ true → 0 < rest S
unfolding larger
larger-rest S e = leb-true 1 (rest S) e

-- A test that gives less than the second of two numbers gives the first.
if_less : (b : Bool) (x y : ℕ) → cond b x y < y → b ≡ true
if_less true x y h = refl
if_less false x y h = absurd (omega arith)

-- ---- the two kinds of row

abbrev pub row_by : ℕ → Split → Row
row_by o b = record { size = o; cost = b.cost; left = b.left }

module _ (job : Job) (fig : Figures) where
  pub row-alone : (T : Table) (S : ℕ) → larger S ≡ false → row_of job fig T S ≡ record { size = count fig.counts (lowest S); cost = 0; left = 0 }
  unfolding row_of row_with split_of size_rule
  row-alone T S e = rw e

  -- The size that the rule gives a set of two or more.
  abbrev pub size_from : Table → ℕ → ℕ
  size_from T S = joined fig S (row_at T (rest S)).size

  pub row-join : (T : Table) (S : ℕ) → larger S ≡ true → row_of job fig T S ≡ row_by (size_from T S) (best_to (price job fig T S (size_from T S)) S)
  unfolding row_of row_with split_of size_rule
  row-join T S e = rw e

  -- The row of a set of two or more from its size and its best split.
  pub row-found : (T : Table) (S o : ℕ) (b : Split) → larger S ≡ true → o ≡ size_from T S → b ≡ best_to (price job fig T S o) S
      → row_by o b ≡ row_of job fig T S
  row-found T S o b e p q = rw (q, p) (sym (row-join T S e))

  -- ---- splits and prices

  -- What a split of S is.
  pub record IsSplit (S L : ℕ) : Type 0 where
    pub some : 0 < L
    pub part : Part L S
    pub allows : job.profile fig S L ≡ true

  pub is_split : (S L : ℕ) → splits job fig S L ≡ true → IsSplit S L
  unfolding splits
  is_split S L h =
      let a = (and-eq-true_iff (leb 1 L && inside L S) (job.profile fig S L)).0 h in
      let b = (and-eq-true_iff (leb 1 L) (inside L S)).0 a.0 in
      record { some = leb-true 1 L b.0; part = inside-part L S b.1; allows = a.1 }

  pub split_is : (S L : ℕ) → IsSplit S L → splits job fig S L ≡ true
  unfolding splits
  split_is S L s = rw (le-leb 1 L s.some, part-inside L S s.part, s.allows)

  -- What is no split has no price.
  pub price-none : (T : Table) (S o L : ℕ) → splits job fig S L ≡ false → price job fig T S o L ≡ NONE
  unfolding price
  price-none T S o L e = rw e

  -- What a price below NONE says, and what gives it: a split within the limit, a and b the rows of its parts.
  pub record Used (S L o : ℕ) (a b : Row) : Type 0 where
    pub split : IsSplit S L
    pub left : a.cost ≤ job.limit
    pub right : b.cost ≤ job.limit
    pub whole : join_cost job fig a b o ≤ job.limit

  -- Such a split has the price of its join,
  pub price-used : (T : Table) (S o L : ℕ) → Used S L o (row_at T L) (row_at T (S - L))
      → price job fig T S o L ≡ join_cost job fig (row_at T L) (row_at T (S - L)) o
  unfolding price within
  price-used T S o L u = rw (split_is S L u.split, le-leb _ _ u.left, le-leb _ _ u.right, le-leb _ _ u.whole)

  -- and no other has a price below NONE.
  pub used-price : (T : Table) (S o L : ℕ) → price job fig T S o L < NONE → Used S L o (row_at T L) (row_at T (S - L))
  unfolding price within
  used-price T S o L h = go (row_at T L) (row_at T (S - L)) h
    where
      go : (a b : Row) → cond (splits job fig S L && within job fig a b o) (join_cost job fig a b o) NONE < NONE → Used S L o a b
      go a b h =
          let x = (and-eq-true_iff (splits job fig S L) (within job fig a b o)).0 (if_less _ _ _ h) in
          let y = (and-eq-true_iff (leb a.cost job.limit && leb b.cost job.limit) (leb (join_cost job fig a b o) job.limit)).0
          x.1 in
          let z = (and-eq-true_iff (leb a.cost job.limit) (leb b.cost job.limit)).0 y.0 in
          record {
            split = is_split S L x.0;
            left = leb-true _ _ z.0;
            right = leb-true _ _ z.1;
            whole = leb-true _ _ y.1;
          }

  -- The price of a split goes by the rows of its two parts.
  price_local : (T U : Table) (S o L : ℕ) → L < S → Agree T U S → price job fig T S o L ≡ price job fig U S o L
  price_local T U S o L l h = by_test (splits job fig S L) split (λ e. price-none T S o L e ∙ sym (price-none U S o L e))
    where
      split : splits job fig S L ≡ true → price job fig T S o L ≡ price job fig U S o L
      split e =
          let s = is_split S L e in
          unfold price in rw (h L l s.part, h (S - L) (omega (arith, s.some)) (part-other L S s.part))

  pub rule_local : Local (row_of job fig)
  rule_local T U S h = by_test (larger S) more (λ e. row-alone T S e ∙ sym (row-alone U S e))
    where
      more : larger S ≡ true → row_of job fig T S ≡ row_of job fig U S
      more e =
          let p : 0 < S = omega (arith, larger-rest S e, part-le (rest S) S (rest_part S)) in
          row-join T S e
          ∙ rw (h (rest S) (rest_lt S p) (rest_part S))
          (ap (row_by (size_from U S))
          (best_ext (price job fig T S (size_from U S)) (price job fig U S (size_from U S)) S
          (λ L l. price_local T U S (size_from U S) L l h)))
          ∙ sym (row-join U S e)
