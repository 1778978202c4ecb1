-- Demand 3: on a table that holds a fresh fill an accepted edit is a fill of the changed figures (`demand_3`), and on any table it writes
-- only rows of touched sets (`keeps`).
use Rattle.std.proofs.Common.{◌≡◌, ℕ, zero, suc, ◌^◌, ◌<◌, ◌≤◌, false, ◌⊎◌, List, [], ◌∷◌, get_or, set, sym, refl, ap, ◌∙◌, inl, inr, eq-zero-or-pos, arith}
use native.Mathlib.Decide.{dec_lt}
use Rattle.relations.specs.Pairs.{place}
use Rattle.relations.specs.Sets.{all_of}
use Rattle.table.specs.Figures.{Figures}
use Rattle.table.specs.Tables.{Table, row_at, Fresh}
use Rattle.table.specs.Rule.{row_of}
use Rattle.table.specs.Requests.{Request, fill, edit_count, edit_pair, change, touches, new_divisor, names}
use Rattle.table.specs.Results.{Call, refusal, job_of, mended, planned, Result, worked, result}
use Rattle.table.specs.Demands.{onto, changed, HoldsFill, Demand3, Keeps}
use Rattle.table.specs.Inner.{Fit}
use Rattle.table.specs.declared.rows.Row.{Row}
use Rattle.table.proofs.Columns.{AsLong, table_same, mend_long}
use Rattle.table.proofs.Mending.{Local, mend_keeps, fill-fresh, fresh_unique}
use Rattle.table.proofs.Rules.{rule_local}
use Rattle.table.proofs.Refusals.{Accepted, accepted, is_accepted, result-done, result-refused}
use Rattle.table.proofs.EditLaws.{counts-long, divisors-long, bushy-steady, edit_fresh}

-- ---- the changed figures are fit

-- A divisor of 1 or more among such divisors.
set-stored : (ds : List ℕ) (p d : ℕ) → 1 ≤ d → ((k : ℕ) → 1 ≤ get_or ds k 1) → (k : ℕ) → 1 ≤ get_or (set ds p d) k 1
set-stored [] p d l h k = h k
set-stored (x ∷ xs) zero d l h zero = l
set-stored (x ∷ xs) zero d l h (suc k) = h (suc k)
set-stored (x ∷ xs) (suc p) d l h zero = h zero
set-stored (x ∷ xs) (suc p) d l h (suc k) = set-stored xs p d l (λ m. h (suc m)) k

change-stored : (q : Request) (fig : Figures) → 1 ≤ new_divisor q → ((k : ℕ) → 1 ≤ get_or fig.divisors k 1)
    → (k : ℕ) → 1 ≤ get_or (change q fig).divisors k 1
unfolding change new_divisor
change-stored fill fig l h = h
change-stored (edit_count k c) fig l h = h
change-stored (edit_pair i j d) fig l h = set-stored fig.divisors (place i j) d l h

pub fit-changed : (q : Request) (c : Call) → Accepted q c → Fit 1 (changed q c)
fit-changed q c a =
    let f = a.fit in
    record {
      some = f.some;
      few = f.few;
      counts = counts-long q c.figures ∙ f.counts;
      divisors = divisors-long q c.figures ∙ f.divisors;
      new = omega arith;
      stored = change-stored q c.figures f.new f.stored;
      model = f.model;
      limit = f.limit;
      room = f.room;
    }

-- So a fill of them is accepted.
pub fill-accepted : (c : Call) → Fit 1 c → refusal fill c ≡ 0
unfolding new_divisor names
fill-accepted c f = is_accepted fill c (record { fit = f; names = refl })

-- ---- to hold what a fill leaves is to be fresh

-- An accepted fill leaves the table fresh.
filled-fresh : (c : Call) → refusal fill c ≡ 0 → Fresh (row_of (job_of c) c.figures) (2 ^ c.n) (mended fill c)
unfolding mended change touches
filled-fresh c e =
    fill-fresh (row_of (job_of c) c.figures) (rule_local (job_of c) c.figures) (touches fill) (λ S. refl) (2 ^ c.n) c.table
    (accepted fill c e).fit.room

-- What has the rows of a fresh table is fresh.
fresh-rows : (rule : Table → ℕ → Row) → Local rule → (top : ℕ) (T U : Table) → ((S : ℕ) → S < top → row_at T S ≡ row_at U S)
    → Fresh rule top U → Fresh rule top T
fresh-rows rule local top T U same fresh S l = same S l ∙ fresh S l ∙ local U T S (λ L h _. sym (same L (omega arith)))

pub holds-fresh : (c : Call) (U : Table) → HoldsFill c U → Fresh (row_of (job_of c) c.figures) (2 ^ c.n) c.table
unfolding job_of
holds-fresh c U h =
    fresh-rows (row_of (job_of c) c.figures) (rule_local (job_of c) c.figures) (2 ^ c.n) c.table (mended fill (onto c U))
    (λ S l. h.rows S l ∙ ap (λ (r : Result). row_at r.table S) (result-done fill (onto c U) h.accepted))
    (filled-fresh (onto c U) h.accepted)

pub fresh_holds : (c : Call) → Fresh (row_of (job_of c) c.figures) (2 ^ c.n) c.table
    → (U : Table) → refusal fill (onto c U) ≡ 0 → HoldsFill c U
unfolding job_of
fresh_holds c fresh U e = record {
  accepted = e;
  rows = λ S l. rw (result-done fill (onto c U) e)
      (fresh_unique (row_of (job_of c) c.figures) (rule_local (job_of c) c.figures) (2 ^ c.n) c.table (mended fill (onto c U))
      fresh (filled-fresh (onto c U) e) S l);
}

-- ---- an edit is a fill

-- The rows that a request may not write.
mended-keeps : (q : Request) (c : Call) (S : ℕ) → (S < 2 ^ c.n → touches q S ≡ false) → row_at (mended q c) S ≡ row_at c.table S
unfolding mended
mended-keeps q c = mend_keeps (row_of (job_of c) (change q c.figures)) (touches q) (2 ^ c.n) c.table

mended-long : (q : Request) (c : Call) → AsLong (mended q c) c.table
unfolding mended
mended-long q c = mend_long (row_of (job_of c) (change q c.figures)) (touches q) (2 ^ c.n) c.table

-- An edit of a fresh table mends it to the table that a fill of the changed figures leaves: below 2^n both are fresh, and from there on
-- neither writes.
same_table_lem : (q : Request) (c : Call) → Accepted q c → Fresh (row_of (job_of c) c.figures) (2 ^ c.n) c.table
    → mended q c ≡ mended fill (changed q c)
unfolding mended job_of
same_table_lem q c a fresh = table_same (mended q c) (mended fill (changed q c)) long (λ S. row S (dec_lt S (2 ^ c.n)))
  where
    long : AsLong (mended q c) (mended fill (changed q c))
    long =
        let x = mended-long q c in
        let y = mended-long fill (changed q c) in
        record { sizes = x.sizes ∙ sym y.sizes; costs = x.costs ∙ sym y.costs; lefts = x.lefts ∙ sym y.lefts }

    row : (S : ℕ) → Dec (S < 2 ^ c.n) → row_at (mended q c) S ≡ row_at (mended fill (changed q c)) S
    row S (yes l) =
        fresh_unique (row_of (job_of c) (change q c.figures)) (rule_local (job_of c) (change q c.figures)) (2 ^ c.n)
        (mended q c) (mended fill (changed q c))
        (edit_fresh (job_of c) bushy-steady c.figures q c.n a.names (2 ^ c.n) c.table a.fit.room fresh)
        (filled-fresh (changed q c) (fill-accepted (changed q c) (fit-changed q c a))) S l
    row S (no g) = mended-keeps q c S (λ l. absurd (g l)) ∙ sym (mended-keeps fill (changed q c) S (λ l. absurd (g l)))

pub edit_is_fill : (q : Request) (c : Call) → refusal q c ≡ 0 → (U : Table) → HoldsFill c U → worked q c ≡ result fill (changed q c)
edit_is_fill q c e U h =
    let a = accepted q c e in
    let filled = fill-accepted (changed q c) (fit-changed q c a) in
    ap done (same_table_lem q c a (holds-fresh c U h)) ∙ sym (unfold change in result-done fill (changed q c) filled)
  where
    done : Table → Result
    done T = record { answer = planned (row_at T (all_of c.n)); figures = change q c.figures; table = T }

pub demand_3 : (q : Request) (c : Call) → Demand3 q c (result q c)
demand_3 q c e U h = result-done q c e ∙ edit_is_fill q c e U h

-- ---- what is kept on any table

pub keeps : (q : Request) (c : Call) → Keeps q c (result q c)
keeps q c = by (eq-zero-or-pos (refusal q c))
  where
    by : (refusal q c ≡ 0) ⊎ (0 < refusal q c) → Keeps q c (result q c)
    by (inl e) = rw (result-done q c e) (record { rows = mended-keeps q c; refused = λ n. absurd (n e) })
    by (inr l) = rw (result-refused q c (refusal q c) refl l) (record { rows = λ S h. refl; refused = λ n. (refl, refl) })
