-- Demand 2, of the plan of a text: by Vance and Maier's cost of trees and the figures read alone, no table is spoken of.
use Rattle.std.specs.Prelude.{ℕ, ◌+◌, ◌≤◌, ◌<◌, List, ◌++◌, ◌↔◌, ◌≡◌, length, drop}
use Rattle.relations.specs.Sets.{all_of}
use Rattle.figures.specs.Judge.{judged}
use Rattle.figures.specs.declared.Figures.{Figures as Read}
use Rattle.table.specs.Figures.{Figures, figures, size_of}
use Rattle.table.specs.Rule.{job_for}
use Rattle.table.specs.Trees.{Tree, leaf, join, set_of, Over, tree_cost}
use Rattle.newick.specs.Texts.{whole_text}
use Rattle.planner.specs.Plans.{counts_of, divisors_of, unfit, Result}

-- The figures of n relations, as trees are priced by them.
abbrev pub fig : Read → Figures
fig f = figures (counts_of f) (divisors_of f)

module _ (f : Read) (model limit : ℕ) where
  -- A tree that "uses each relation once": those of the set S, or all n,
  abbrev pub OverSet : ℕ → Tree → Type 0
  OverSet S t = Over ((job_for model limit).profile (fig f)) S t

  abbrev pub OverAll : Tree → Type 0
  OverAll t = OverSet (all_of f.n) t

  -- and what it costs.
  abbrev pub cost_of : Tree → ℕ
  cost_of t = tree_cost (job_for model limit) (fig f) t

  -- "Among equals the left part with the least number", at every join of a tree: of the joins over the same relations that cost the same
  -- none has a lower left part.
  abbrev pub LeastLefts : Tree → Type 0
  LeastLefts (leaf k) = Unit {0}
  LeastLefts (join l r) =
      LeastLefts l
      × LeastLefts r
      × ((x y : Tree) → OverSet (set_of l + set_of r) (join x y) → cost_of (join x y) ≡ cost_of (join l r) → set_of l ≤ set_of x)

  -- The plan that is answered, in the room that was lent.
  pub record Best (room : List ℕ) (r : Result) : Type 0 where
    pub tree : Tree
    pub text : r.room ≡ whole_text tree ++ drop (length (whole_text tree)) room
    pub over : OverAll tree
    pub cost : cost_of tree ≡ r.answer.cost
    pub within : r.answer.cost ≤ limit
    -- "No bushy tree over them costs less."
    pub least : (x : Tree) → OverAll x → r.answer.cost ≤ cost_of x
    -- "Ties go by 01's rule."
    pub ties : LeastLefts tree
    pub size : size_of (fig f) (all_of f.n) ≡ r.answer.size

  -- ""No plan" is answered exactly when every such tree costs more than the limit."
  abbrev pub NoPlan : Result → Type 0
  NoPlan r = (r.answer.number ≡ 7) ↔ ((x : Tree) → OverAll x → limit < cost_of x)

-- Answer 0 comes with the best plan, and where nothing that comes before 7 is due, 7 is answered exactly when there is none.
pub record Demand2 (text : List ℕ) (model limit : ℕ) (room : List ℕ) (r : Result) : Type 0 where
  pub best : r.answer.number ≡ 0 → Best (judged text).figures model limit room r
  pub none : unfit (judged text) model limit (length room) ≡ 0 → NoPlan (judged text).figures model limit r
