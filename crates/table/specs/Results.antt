-- What fill and edits answer and leave behind, for accepted and refused calls alike (document 01, "Numbers answered").
use Rattle.std.specs.Prelude.{◌≡◌, ℕ, ◌+◌, ◌-◌, ◌*◌, ◌/◌, ◌^◌, Bool, false, cond, ◌||◌, List, [], ◌∷◌, length, replicate, ◌==◌, nat_le, nat_lt, Result as Outcome, Ok, Err, refl}
use Rattle.relations.specs.Sets.{MOST, weight, mem, all_of, first, lowest_to, lowest, rest, larger, is_relation}
use Rattle.charges.specs.Charges.{priced}
use Rattle.table.specs.Figures.{Figures, figures, count, size_rule}
use Rattle.table.specs.Tables.{Table, columns, row_at, write_row, mend_row, mend_to}
use Rattle.table.specs.Rule.{NONE, Job, job_for, split_of, row_with, row_of}
use Rattle.table.specs.Requests.{Request, fill, edit_count, edit_pair, change, touches, new_divisor, is_pair, names}
use Rattle.table.specs.declared.rows.Row.{Row}
use Rattle.table.specs.declared.Plan.{Plan}
use Rattle.table.specs.declared.Refusal.{Refusal}
use Rattle.table.specs.declared.Refusal.TheVariants.{Relations, Lengths, ZeroDivisor, UnknownModel, HighLimit, ShortColumn, NoPlan, Name}

-- Everything that is passed in, but for the request.
pub record Call : Type 0 where
  pub n : ℕ
  pub figures : Figures
  pub model : ℕ
  pub limit : ℕ
  pub table : Table

abbrev pub called : ℕ → List ℕ → List ℕ → ℕ → ℕ → List ℕ → List ℕ → List ℕ → Call
called n counts divisors model limit sizes costs lefts = record {
  n = n;
  figures = figures counts divisors;
  model = model;
  limit = limit;
  table = columns sizes costs lefts;
}

-- ---- refusals

-- "A divisor is 0."
unfoldable pub any_zero : List ℕ → Bool
any_zero [] = false
any_zero (d ∷ ds) = d == 0 || any_zero ds

-- "A column needed is shorter" than m.
unfoldable pub short : Table → ℕ → Bool
short T m = nat_lt (length T.sizes) m || nat_lt (length T.costs) m || nat_lt (length T.lefts) m

-- "Order for fill and edit: 1, 2, 3, 4, 5, 6, 8 (edit only)": the first of these that there is, and 0 where there is none.
unfoldable pub in_order : List ℕ → ℕ
in_order [] = 0
in_order (r ∷ rs) = first r (in_order rs)

-- 1 to 3, of the figures, with d the new divisor; then 4, 5 and 6, of the model, the limit and the columns.
unfoldable pub bad_figures : ℕ → ℕ → Figures → ℕ
bad_figures n d fig = in_order
    (cond (is_relation MOST n) 0 1
    ∷ cond (length fig.counts == n) 0 2
    ∷ cond (length fig.divisors == n * (n - 1) / 2) 0 2
    ∷ cond (d == 0 || any_zero fig.divisors) 3 0
    ∷ [])

unfoldable pub unfit : ℕ → Call → ℕ
unfit d c = in_order
    (bad_figures c.n d c.figures
    ∷ (priced c.model 0 0 0).number
    ∷ cond (nat_le c.limit (2 ^ 60)) 0 5
    ∷ cond (short c.table (2 ^ c.n)) 6 0
    ∷ [])

unfoldable pub refusal : Request → Call → ℕ
refusal q c = first (unfit (new_divisor q) c) (cond (names q c.n) 0 8)

-- ---- the work

unfoldable pub job_of : Call → Job
job_of c = job_for c.model c.limit

-- The row rule on the changed figures, applied in rising number to the touched sets below 2^n.
unfoldable pub mended : Request → Call → Table
mended q c = mend_to (row_of (job_of c) (change q c.figures)) (touches q) (2 ^ c.n) c.table

-- ---- answers

-- "Only answer 0 gives a cost and size; otherwise both are 0."
pub record Answer : Type 0 where
  pub number : ℕ
  pub cost : ℕ
  pub size : ℕ

abbrev pub refused : ℕ → Answer
refused k = record { number = k; cost = 0; size = 0 }

-- "Fill and edit answer 7 exactly when the full set's new cost is 2^64-1."
unfoldable pub planned : Row → Answer
planned r = cond (r.cost == NONE) (refused 7) (record { number = 0; cost = r.cost; size = r.size })

-- The answer of the code by its number in document 01's table.
abbrev pub number_of : Refusal → ℕ
number_of Relations = 1
number_of Lengths = 2
number_of ZeroDivisor = 3
number_of UnknownModel = 4
number_of HighLimit = 5
number_of ShortColumn = 6
number_of NoPlan = 7
number_of Name = 8

abbrev pub answer : Outcome Plan Refusal → Answer
answer (Ok p) = record { number = 0; cost = p.cost; size = p.size }
answer (Err why) = refused (number_of why)

-- ---- the result

-- The answer, and what stands in all memory lent.
pub record Result : Type 0 where
  pub answer : Answer
  pub figures : Figures
  pub table : Table

abbrev pub result_of : Outcome Plan Refusal → List ℕ → List ℕ → List ℕ → List ℕ → List ℕ → Result
result_of r counts divisors sizes costs lefts = record {
  answer = answer r;
  figures = figures counts divisors;
  table = columns sizes costs lefts;
}

-- "Nothing written."
abbrev pub untouched : Call → ℕ → Result
untouched c k = record { answer = refused k; figures = c.figures; table = c.table }

-- "Then the work, then 7."
abbrev pub worked : Request → Call → Result
worked q c = record {
  answer = planned (row_at (mended q c) (all_of c.n));
  figures = change q c.figures;
  table = mended q c;
}

unfoldable pub result : Request → Call → Result
result q c = cond (refusal q c == 0) (worked q c) (untouched c (refusal q c))

-- ---- computed: each refusal on figures of two relations that are right but for one thing, and the first of several

abbrev rows : ℕ → Table
rows m = columns (replicate m 9) (replicate m 9) (replicate m 9)

abbrev two : ℕ → List ℕ → List ℕ → ℕ → ℕ → ℕ → Call
two n counts divisors model limit m = record { n = n; figures = figures counts divisors; model = model; limit = limit; table = rows m }

judged : (refusal fill (two 2 (4 ∷ 5 ∷ []) (3 ∷ []) 2 (2 ^ 60) 4) ≡ 0)
    × (refusal fill (two 16 (4 ∷ 5 ∷ []) (0 ∷ []) 3 (2 ^ 61) 3) ≡ 1)
    × (refusal fill (two 2 (4 ∷ []) (0 ∷ []) 3 (2 ^ 61) 3) ≡ 2)
    × (refusal fill (two 2 (4 ∷ 5 ∷ []) [] 3 (2 ^ 61) 3) ≡ 2)
    × (refusal fill (two 2 (4 ∷ 5 ∷ []) (0 ∷ []) 3 (2 ^ 61) 3) ≡ 3)
    × (refusal fill (two 2 (4 ∷ 5 ∷ []) (3 ∷ []) 3 (2 ^ 61) 3) ≡ 4)
    × (refusal fill (two 2 (4 ∷ 5 ∷ []) (3 ∷ []) 2 (2 ^ 60 + 1) 3) ≡ 5)
    × (refusal fill (two 2 (4 ∷ 5 ∷ []) (3 ∷ []) 2 (2 ^ 60) 3) ≡ 6)
unfolding priced first is_relation names new_divisor any_zero short in_order bad_figures unfit refusal
judged = (refl, refl, refl, refl, refl, refl, refl, refl)

edited : (refusal (edit_pair 1 2 0) (two 2 (4 ∷ 5 ∷ []) (3 ∷ []) 3 0 4) ≡ 3)
    × (refusal (edit_pair 2 2 7) (two 2 (4 ∷ 5 ∷ []) (3 ∷ []) 2 0 4) ≡ 8)
    × (refusal (edit_count 3 7) (two 2 (4 ∷ 5 ∷ []) (3 ∷ []) 2 0 4) ≡ 8)
    × (refusal (edit_count 2 0) (two 2 (4 ∷ 5 ∷ []) (3 ∷ []) 2 0 4) ≡ 0)
unfolding priced first is_relation is_pair names new_divisor any_zero short in_order bad_figures unfit refusal
edited = (refl, refl, refl, refl)

answered : (planned (record { size = 8; cost = 5; left = 1 }) ≡ record { number = 0; cost = 5; size = 8 })
    × (planned (record { size = 8; cost = NONE; left = 0 }) ≡ record { number = 7; cost = 0; size = 0 })
    × (answer (Err Name) ≡ record { number = 8; cost = 0; size = 0 })
unfolding planned
answered = (refl, refl, refl)

-- The count is stored before its row is worked; row 0 is not touched.
mends : mended (edit_count 1 7) (two 1 (4 ∷ []) [] 0 0 2) ≡ columns (9 ∷ 7 ∷ []) (9 ∷ 0 ∷ []) (9 ∷ 0 ∷ [])
unfolding weight mem first lowest_to lowest rest larger count size_rule row_at write_row mend_row mend_to split_of row_with row_of change touches job_of mended
mends = refl
