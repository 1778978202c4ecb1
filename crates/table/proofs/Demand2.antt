-- Demand 2: the rows of a fresh table are right, for any charge, any profile and any limit below NONE; and so an accepted fill is optimal.
use Rattle.std.proofs.Common.{◌≡◌, ℕ, ◌+◌, ◌-◌, ◌^◌, ◌<◌, ◌≤◌, true, eqb, ◌≢◌, ◌⊎◌, ◌↔◌, sym, refl, ap, ◌∙◌, ap₂, inl, inr, arith, eqb-true}
use native.Mathlib.Decide.{ℕ_discrete}
use borrow.Author.Tests.{eqb-false}
use Rattle.relations.specs.Sets.{larger, all_of}
use Rattle.relations.proofs.Named.{all-some}
use Rattle.table.specs.Figures.{Figures, size_of}
use Rattle.table.specs.Tables.{Table, row_at, Fresh}
use Rattle.table.specs.Rule.{NONE, Job, row_of}
use Rattle.table.specs.Trees.{Tree, join, set_of, Over, tree_cost, plan_of}
use Rattle.table.specs.Requests.{fill, change, touches}
use Rattle.table.specs.Results.{Call, Answer, refused, refusal, job_of, mended, planned, worked}
use Rattle.table.specs.Demands.{Right, Optimal}
use Rattle.table.specs.declared.rows.Row.{Row}
use Rattle.table.proofs.Reasoning.{by_test, strong}
use Rattle.table.proofs.Mending.{fill-fresh}
use Rattle.table.proofs.Rules.{rule_local}
use Rattle.table.proofs.Refusals.{accepted}
use Rattle.table.proofs.SizeLaws.{solved}
use Rattle.table.proofs.TreeLaws.{parts_cost, Sound, sound-over, over-whole, over-sound, Joins, plan-alone, plan-joins}
use Rattle.table.proofs.Plans.{least, reached, ties, none_iff}

-- Every row of a fresh table is right.
pub right : (job : Job) (fig : Figures) (n : ℕ) (T : Table) → job.limit < NONE → Fresh (row_of job fig) (2 ^ n) T
    → (S : ℕ) → 0 < S → S < 2 ^ n → Right job fig T S
right job fig n T low fresh S p l =
    let ok = solved job fig n T low fresh in
    let plan = reached job fig n T ok S p l in
    record {
      size = ok.sized S l;
      over = λ c. sound-over (job.profile fig) S (plan_of T.lefts S) (plan c).sound (plan c).whole;
      cost = λ c. (plan c).cost;
      within = λ c. (plan c).within;
      least = least job fig n T ok S l;
      ties = ties job fig n T ok S p l;
      none = none_iff job fig n T ok S p l;
    }

-- ---- the answer

-- What a row is answered with: 7 where its cost is NONE, and otherwise its cost and size.
abbrev Answered : Row → Type 0
Answered r =
    ((r.cost ≡ NONE) × (planned r ≡ refused 7)) ⊎ ((r.cost ≢ NONE) × (planned r ≡ record { number = 0; cost = r.cost; size = r.size }))

answered : (r : Row) → Answered r
unfolding planned
answered r =
    by_test (eqb r.cost NONE) (λ e. inl (eqb-true r.cost NONE e, rw e)) (λ e. inr (eqb-false r.cost NONE e, rw e))

either-answer : (r : Row) → Answered r → ((planned r).number ≡ 0) ⊎ ((planned r).number ≡ 7)
either-answer r (inl a) = inr (ap (λ (x : Answer). x.number) a.1)
either-answer r (inr a) = inl (ap (λ (x : Answer). x.number) a.1)

-- What it says of the trees over S where the row is right.
module _ (job : Job) (fig : Figures) (T : Table) (S : ℕ) (h : Right job fig T S) where
  plan-answer : Answered (row_at T S) → (planned (row_at T S)).number ≡ 0
      → Over (job.profile fig) S (plan_of T.lefts S)
      × (tree_cost job fig (plan_of T.lefts S) ≡ (planned (row_at T S)).cost)
      × (size_of fig S ≡ (planned (row_at T S)).size)
  plan-answer (inl a) e = absurd (omega (arith, ap (λ (x : Answer). x.number) a.1))
  plan-answer (inr a) e = rw a.1 (h.over a.0, h.cost a.0, sym h.size)

  none-answer : Answered (row_at T S)
      → ((planned (row_at T S)).number ≡ 7) ↔ ((x : Tree) → Over (job.profile fig) S x → job.limit < tree_cost job fig x)
  none-answer (inl a) = (λ _. h.none.0 a.0, λ _. ap (λ (x : Answer). x.number) a.1)
  none-answer (inr a) =
      (λ e. absurd (omega (arith, ap (λ (x : Answer). x.number) a.1)), λ f. absurd (a.0 (h.none.1 f)))

-- A fill that is not refused is optimal.
pub optimal : (c : Call) → refusal fill c ≡ 0 → Optimal c (worked fill c)
unfolding mended job_of change touches
optimal c e =
    let fit = (accepted fill c e).fit in
    let S = all_of c.n in
    let all = all-some c.n fit.some fit.few in
    let T = mended fill c in
    let rule = row_of (job_of c) c.figures in
    let fresh = fill-fresh rule (rule_local (job_of c) c.figures) (touches fill) (λ S. refl) (2 ^ c.n) c.table fit.room in
    let rows = right (job_of c) c.figures c.n T (omega (arith, fit.limit)) fresh in
    let whole = rows S all.0 all.1 in
    let a = answered (row_at T S) in
    let plan = plan-answer (job_of c) c.figures T S whole a in
    record {
      rows = rows;
      plan = λ z. (plan z).0;
      cost = λ z. (plan z).1;
      size = λ z. (plan z).2;
      none = none-answer (job_of c) c.figures T S whole a;
      either = either-answer (row_at T S) a;
    }

-- ---- nothing else is right

module _ (job : Job) (fig : Figures) where
  -- Of two right rows of one set neither costs more,
  cost-le : (T U : Table) (S : ℕ) → Right job fig T S → Right job fig U S → (row_at T S).cost ≢ NONE → (row_at U S).cost ≤ (row_at T S).cost
  cost-le T U S t u c = omega (arith, t.cost c, t.within c, u.least (plan_of T.lefts S) (t.over c) (omega (arith, t.cost c, t.within c)))

  -- and both or neither are NONE: they cost the same.
  none_too : (T U : Table) (S : ℕ) → Right job fig T S → Right job fig U S → (row_at T S).cost ≡ NONE → (row_at U S).cost ≡ NONE
  none_too T U S t u e = u.none.1 (t.none.0 e)

  cost-only : (T U : Table) (S : ℕ) → Right job fig T S → Right job fig U S → (row_at T S).cost ≡ (row_at U S).cost
  cost-only T U S t u = by (ℕ_discrete (row_at T S).cost NONE)
    where
      by : Dec ((row_at T S).cost ≡ NONE) → (row_at T S).cost ≡ (row_at U S).cost
      by (yes e) = e ∙ sym (none_too T U S t u e)
      by (no c) = let d : (row_at U S).cost ≢ NONE = λ e. c (none_too U T S u t e) in omega (arith, cost-le T U S t u c, cost-le U T S u t d)

  -- Of a right row of a set of two or more that is not NONE, the tree is the join of the trees of the two parts,
  joins : (T : Table) (S : ℕ) → Right job fig T S → (row_at T S).cost ≢ NONE → larger S ≡ true → Joins T.lefts S (row_at T S).left
  unfolding row_at
  joins T S t c m = plan-joins T.lefts S m (over-whole (job.profile fig) S (plan_of T.lefts S) (t.over c))

  -- and of two such rows neither has a lower left part.
  left-most : (T U : Table) (S : ℕ) → Right job fig T S → Right job fig U S → (row_at T S).cost ≢ NONE → larger S ≡ true
      → (row_at T S).left ≤ (row_at U S).left
  left-most T U S t u c m =
      let e = cost-only T U S t u in
      let d : (row_at U S).cost ≢ NONE = λ q. c (e ∙ q) in
      let j = joins U S u d m in
      let M = (row_at U S).left in
      rw j.left at (t.ties (plan_of U.lefts M) (plan_of U.lefts (S - M)) (rw j.tree at (u.over d)) ((rw j.tree at (u.cost d)) ∙ sym e) c)

  -- A right row is not NONE where its tree is over the set and within the limit, and so neither are those of the two parts.
  has-plan : (T : Table) (A : ℕ) → Right job fig T A → Sound (job.profile fig) (plan_of T.lefts A) → set_of (plan_of T.lefts A) ≡ A
      → tree_cost job fig (plan_of T.lefts A) ≤ job.limit → (row_at T A).cost ≢ NONE
  has-plan T A t s w h e = omega (arith, t.none.0 e (plan_of T.lefts A) (sound-over (job.profile fig) A (plan_of T.lefts A) s w))

  parts_plan : (T : Table) (S : ℕ) → Right job fig T S → (row_at T S).cost ≢ NONE → larger S ≡ true
      → (Right job fig T (row_at T S).left → (row_at T (row_at T S).left).cost ≢ NONE)
      × (Right job fig T (S - (row_at T S).left) → (row_at T (S - (row_at T S).left)).cost ≢ NONE)
  parts_plan T S t c m =
      let L = (row_at T S).left in
      let j = joins T S t c m in
      let s : Sound (job.profile fig) (join (plan_of T.lefts L) (plan_of T.lefts (S - L))) =
      rw j.tree at (over-sound (job.profile fig) S (plan_of T.lefts S) (t.over c)) in
      let k : tree_cost job fig (join (plan_of T.lefts L) (plan_of T.lefts (S - L))) ≡ (row_at T S).cost = rw j.tree at (t.cost c) in
      let h : tree_cost job fig (plan_of T.lefts L) + tree_cost job fig (plan_of T.lefts (S - L)) ≤ job.limit =
      omega (arith, parts_cost job fig (plan_of T.lefts L) (plan_of T.lefts (S - L)), t.within c) in
      (λ a. has-plan T L a s.0 j.left (omega arith), λ b. has-plan T (S - L) b s.1 j.right (omega arith))

  -- The rows of the sets of relations 1 to n are right.
  abbrev pub AllRight : ℕ → Table → Type 0
  AllRight n T = (S : ℕ) → 0 < S → S < 2 ^ n → Right job fig T S

  -- From the parts to the whole, the trees are the same.
  plan-only : (n : ℕ) (T U : Table) → AllRight n T → AllRight n U
      → (S : ℕ) → 0 < S → S < 2 ^ n → (row_at T S).cost ≢ NONE → plan_of T.lefts S ≡ plan_of U.lefts S
  plan-only n T U ts us = strong (λ (S : ℕ). 0 < S → S < 2 ^ n → (row_at T S).cost ≢ NONE → plan_of T.lefts S ≡ plan_of U.lefts S) step
    where
      step : (S : ℕ) → ((A : ℕ) → A < S → 0 < A → A < 2 ^ n → (row_at T A).cost ≢ NONE → plan_of T.lefts A ≡ plan_of U.lefts A)
          → 0 < S → S < 2 ^ n → (row_at T S).cost ≢ NONE → plan_of T.lefts S ≡ plan_of U.lefts S
      step S ih p l c = by_test (larger S) more (λ e. plan-alone T.lefts S p e ∙ sym (plan-alone U.lefts S p e))
        where
          more : larger S ≡ true → plan_of T.lefts S ≡ plan_of U.lefts S
          more m =
              let L = (row_at T S).left in
              let t = ts S p l in
              let u = us S p l in
              let d : (row_at U S).cost ≢ NONE = λ q. c (cost-only T U S t u ∙ q) in
              let same : L ≡ (row_at U S).left = omega (arith, left-most T U S t u c m, left-most U T S u t d m) in
              let j = joins T S t c m in
              let h = parts_plan T S t c m in
              let a : L < 2 ^ n = omega (arith, j.less) in
              let b : S - L < 2 ^ n = omega arith in
              let r : 0 < S - L = omega (arith, j.less) in
              j.tree
              ∙ ap₂ join (ih L j.less j.some a (h.0 (ts L j.some a)))
              (ih (S - L) (omega (arith, j.some)) r b (h.1 (ts (S - L) r b)))
              ∙ ap (λ (x : ℕ). join (plan_of U.lefts x) (plan_of U.lefts (S - x))) same
              ∙ sym (joins U S u d m).tree

-- Demand 2 alone determines the sizes, the costs and the trees.
pub right-only : (job : Job) (fig : Figures) (n : ℕ) (T U : Table)
    → AllRight job fig n T → AllRight job fig n U → (S : ℕ) → 0 < S → S < 2 ^ n
    → ((row_at T S).size ≡ (row_at U S).size) × ((row_at T S).cost ≡ (row_at U S).cost) × ((row_at T S).cost ≢ NONE → plan_of T.lefts S ≡ plan_of U.lefts S)
right-only job fig n T U ts us S p l =
    let t = ts S p l in
    let u = us S p l in
    (t.size ∙ sym u.size, cost-only job fig T U S t u, plan-only job fig n T U ts us S p l)
