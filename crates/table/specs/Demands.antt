-- Demands 2 and 3, as the contracts of fill and edits cite them.
use Rattle.std.specs.Prelude.{◌≡◌, ℕ, ◌^◌, ◌<◌, ◌≤◌, false, ◌≢◌, ◌⊎◌, ◌↔◌}
use Rattle.relations.specs.Sets.{all_of}
use Rattle.table.specs.Figures.{Figures, size_of}
use Rattle.table.specs.Tables.{Table, row_at}
use Rattle.table.specs.Rule.{NONE, Job}
use Rattle.table.specs.Trees.{Tree, join, set_of, Over, tree_cost, plan_of}
use Rattle.table.specs.Requests.{Request, fill, change, touches}
use Rattle.table.specs.Results.{Call, Result, refusal, job_of, result}

-- The row of S is right.
module _ (job : Job) (fig : Figures) where
  pub record Right (T : Table) (S : ℕ) : Type 0 where
    -- Its size is that of the figures alone.
    pub size : (row_at T S).size ≡ size_of fig S
    -- The tree that the left parts give is over S and costs exactly the stored cost, which is within the limit.
    pub over : (row_at T S).cost ≢ NONE → Over (job.profile fig) S (plan_of T.lefts S)
    pub cost : (row_at T S).cost ≢ NONE → tree_cost job fig (plan_of T.lefts S) ≡ (row_at T S).cost
    pub within : (row_at T S).cost ≢ NONE → (row_at T S).cost ≤ job.limit
    -- No tree over S within the limit costs less.
    pub least : (x : Tree) → Over (job.profile fig) S x → tree_cost job fig x ≤ job.limit → (row_at T S).cost ≤ tree_cost job fig x
    -- Of the trees that cost the same none has a lower left part.
    pub ties : (x y : Tree) → Over (job.profile fig) S (join x y) → tree_cost job fig (join x y) ≡ (row_at T S).cost
        → (row_at T S).cost ≢ NONE → (row_at T S).left ≤ set_of x
    -- "No plan" exactly when every tree over S costs more than the limit.
    pub none : ((row_at T S).cost ≡ NONE) ↔ ((x : Tree) → Over (job.profile fig) S x → job.limit < tree_cost job fig x)

-- ---- demand 2, of an accepted fill

pub record Optimal (c : Call) (r : Result) : Type 0 where
  -- Every row of a set of relations 1 to n is right.
  pub rows : (S : ℕ) → 0 < S → S < 2 ^ c.n → Right (job_of c) c.figures r.table S
  -- Where there is a plan, the tree read off the table uses each of the n relations once and costs what is answered, and the size answered
  -- is that of the whole.
  pub plan : r.answer.number ≡ 0 → Over ((job_of c).profile c.figures) (all_of c.n) (plan_of r.table.lefts (all_of c.n))
  pub cost : r.answer.number ≡ 0 → tree_cost (job_of c) c.figures (plan_of r.table.lefts (all_of c.n)) ≡ r.answer.cost
  pub size : r.answer.number ≡ 0 → size_of c.figures (all_of c.n) ≡ r.answer.size
  -- "No plan" is answered exactly when every tree over all n relations costs more than the limit.
  pub none : (r.answer.number ≡ 7)
      ↔ ((x : Tree) → Over ((job_of c).profile c.figures) (all_of c.n) x → c.limit < tree_cost (job_of c) c.figures x)
  -- There is no other answer.
  pub either : (r.answer.number ≡ 0) ⊎ (r.answer.number ≡ 7)

abbrev pub Demand2 : Call → Result → Type 0
Demand2 c r = refusal fill c ≡ 0 → Optimal c r

-- ---- demand 3, of an edit

-- The same call on other columns, and with the figures that a request leaves.
abbrev pub onto : Call → Table → Call
onto c U = record { n = c.n; figures = c.figures; model = c.model; limit = c.limit; table = U }

abbrev pub changed : Request → Call → Call
changed q c = record { n = c.n; figures = change q c.figures; model = c.model; limit = c.limit; table = c.table }

-- The table holds what an accepted fresh fill leaves: its rows below 2^n are those of a fill of these figures, under this model and limit,
-- of whatever columns U.
pub record HoldsFill (c : Call) (U : Table) : Type 0 where
  pub accepted : refusal fill (onto c U) ≡ 0
  pub rows : (S : ℕ) → S < 2 ^ c.n → row_at c.table S ≡ row_at (result fill (onto c U)).table S

-- "On a table that holds a fresh fill, an accepted edit leaves table, figures and answer as a fresh fill of the changed figures would."
abbrev pub Demand3 : Request → Call → Result → Type 0
Demand3 q c r = refusal q c ≡ 0 → (U : Table) → HoldsFill c U → r ≡ result fill (changed q c)

-- "On ANY table an accepted edit writes, besides the figure, only rows of sets that hold the changed relation (or both of the pair); a
-- refused one writes nothing."
pub record Keeps (q : Request) (c : Call) (r : Result) : Type 0 where
  pub rows : (S : ℕ) → (S < 2 ^ c.n → touches q S ≡ false) → row_at r.table S ≡ row_at c.table S
  pub refused : refusal q c ≢ 0 → (r.figures ≡ c.figures) × (r.table ≡ c.table)
