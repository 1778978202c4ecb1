-- The tree of a right row has at every join the least left part of those that cost the same; and there is only one best plan.
use Prim.Native.Nat.{ℕ, zero, suc, ◌+◌, ◌-◌, ◌^◌, ◌≤◌, ◌<◌}
use native.Mathlib.Omega.{arith}
use mathlib.Core.Bool.{Bool, true}
use mathlib.Core.List.{List, ◌++◌}
use mathlib.Core.Logic.{◌≢◌}
use mathlib.Core.Path.{◌≡◌, refl, sym, ap, ap₂, ◌∙◌, subst}
use lib.ListN.{length, drop}
use Rattle.relations.specs.Sets.{weight, mem, larger, all_of}
use Rattle.relations.proofs.Members.{mem-weight, mem-alone}
use Rattle.relations.proofs.Parts.{apart-part}
use Rattle.relations.proofs.Lowest.{alone_no_part, rest-weight}
use Rattle.figures.specs.declared.Figures.{Figures as Read}
use Rattle.table.specs.Demands.{Right}
use Rattle.table.specs.Figures.{Figures}
use Rattle.table.specs.Rule.{NONE, Job, job_for}
use Rattle.table.specs.Tables.{Table, row_at}
use Rattle.table.specs.Trees.{Tree, leaf, join, set_of, cost_of as cost_by, tree_cost, plan_of}
use Rattle.table.proofs.Demand2.{AllRight}
use Rattle.table.proofs.Reasoning.{by_test, strong}
use Rattle.table.proofs.TreeLaws.{parts_cost, Sound, sound-some, sound-over, over-whole, over-sound, over-set, Joins, plan-alone, plan-joins}
use Rattle.newick.specs.Texts.{whole_text}
use Rattle.planner.specs.Plans.{Result}
use Rattle.planner.specs.Best.{fig, OverSet, cost_of, LeastLefts, Best}

module _ (f : Read) (model limit : ℕ) where
  abbrev job : Job
  job = job_for model limit

  abbrev figs : Figures
  figs = fig f

  abbrev allows : ℕ → ℕ → Bool
  allows = job.profile figs

  -- ---- the trees of right rows

  module _ (n : ℕ) (T : Table) (rows : AllRight job figs n T) where
    abbrev tree : ℕ → Tree
    tree S = plan_of T.lefts S

    abbrev HasPlan : ℕ → Type 0
    HasPlan S = (row_at T S).cost ≢ NONE

    -- A set whose tree is over it and within the limit has a plan.
    has-plan : (S : ℕ) → 0 < S → S < 2 ^ n → OverSet f model limit S (tree S) → tree_cost job figs (tree S) ≤ limit → HasPlan S
    has-plan S p l o h e = omega (arith, (rows S p l).none.0 e (tree S) o)

    -- A set of two or more that has one: so have its parts, and no join over it that costs the same has a lower left part.
    module _ (S : ℕ) (p : 0 < S) (l : S < 2 ^ n) (c : HasPlan S) (m : larger S ≡ true) where
      abbrev L : ℕ
      L = (row_at T S).left

      row : Right job figs T S
      row = rows S p l

      joins : Joins T.lefts S L
      unfolding row_at
      joins = plan-joins T.lefts S m (over-whole allows S (tree S) (row.over c))

      sound : Sound allows (join (tree L) (tree (S - L)))
      sound = rw joins.tree at (over-sound allows S (tree S) (row.over c))

      cost : tree_cost job figs (join (tree L) (tree (S - L))) ≡ (row_at T S).cost
      cost = rw joins.tree at (row.cost c)

      parts_within : tree_cost job figs (tree L) + tree_cost job figs (tree (S - L)) ≤ limit
      parts_within = omega (arith, parts_cost job figs (tree L) (tree (S - L)), cost, row.within c)

      left-plan : HasPlan L
      left-plan =
          has-plan L joins.some (omega (arith, joins.less)) (sound-over allows L (tree L) sound.0 joins.left)
          (omega (arith, parts_within))

      right-plan : HasPlan (S - L)
      right-plan =
          has-plan (S - L) (omega (arith, joins.less)) (omega arith)
          (sound-over allows (S - L) (tree (S - L)) sound.1 joins.right)
          (omega (arith, parts_within))

      sum : set_of (tree L) + set_of (tree (S - L)) ≡ S
      sum = omega (arith, joins.left, joins.right, joins.less)

      left-least : (x y : Tree) → OverSet f model limit (set_of (tree L) + set_of (tree (S - L))) (join x y)
          → tree_cost job figs (join x y) ≡ tree_cost job figs (join (tree L) (tree (S - L))) → set_of (tree L) ≤ set_of x
      left-least x y o e =
          omega (arith, joins.left, row.ties x y (subst (λ (A : ℕ). OverSet f model limit A (join x y)) sum o) (e ∙ cost) c)

    abbrev Leftmost : ℕ → Type 0
    Leftmost S = 0 < S → S < 2 ^ n → HasPlan S → LeastLefts f model limit (tree S)

    pub least-lefts : (S : ℕ) → Leftmost S
    least-lefts = strong Leftmost step
      where
        step : (S : ℕ) → ((A : ℕ) → A < S → Leftmost A) → Leftmost S
        step S ih p l c = by_test (larger S) more (λ e. rw (plan-alone T.lefts S p e) tt)
          where
            more : larger S ≡ true → LeastLefts f model limit (tree S)
            more m =
                let j = joins S p l c m in
                let A : ℕ = (row_at T S).left in
                rw j.tree (
                  ih A j.less j.some (omega (arith, j.less)) (left-plan S p l c m),
                  ih (S - A) (omega (arith, j.some)) (omega (arith, j.less)) (omega arith) (right-plan S p l c m),
                  left-least S p l c m,
                )

  -- ---- nothing else is best

  -- No tree over the same relations costs less.
  abbrev Least : Tree → Type 0
  Least t = (x : Tree) → OverSet f model limit (set_of t) x → tree_cost job figs t ≤ tree_cost job figs x

  -- The parts of a least tree are least: a cheaper one in its place would make a cheaper tree.
  module _ (l r : Tree) (s : Sound allows (join l r)) (h : Least (join l r)) where
    left_too : Least l
    unfolding tree_cost cost_by set_of
    left_too x o =
        let w = over-set allows (set_of l) x o in
        let sx : Sound allows (join x r) = (over-sound allows (set_of l) x o, s.1, rw w s.2, refl) in
        let lower = h (join x r) (sound-over allows (set_of l + set_of r) (join x r) sx (rw w)) in
        omega (arith, rw w at lower)

    right_too : Least r
    unfolding tree_cost cost_by set_of
    right_too x o =
        let w = over-set allows (set_of r) x o in
        let sx : Sound allows (join l x) = (s.0, over-sound allows (set_of r) x o, rw w s.2, refl) in
        let lower = h (join l x) (sound-over allows (set_of l + set_of r) (join l x) sx (rw w)) in
        omega (arith, rw w at lower)

  -- A relation alone is no join.
  not_both : (k : ℕ) (l r : Tree) → Sound allows (leaf k) → Sound allows (join l r) → set_of (leaf k) ≡ set_of (join l r) → ⊥
  unfolding set_of weight
  not_both zero l r k s e = absurd (omega arith)
  not_both (suc p) l r k s e =
      alone_no_part (set_of l + set_of r) (set_of l) (rw e at (rest-weight p)) (apart-part (set_of l) (set_of r) s.2) (sound-some allows l s.0)
      (omega (arith, sound-some allows r s.1))

  -- Two least trees over the same relations, each with the least left parts, are one.
  same-tree : (x y : Tree) → Sound allows x → Sound allows y → set_of x ≡ set_of y → Least x → Least y
      → LeastLefts f model limit x → LeastLefts f model limit y → x ≡ y
  unfolding set_of
  same-tree (leaf j) (leaf k) sx sy e hx hy lx ly =
      ap leaf (mem-alone j k (subst (λ (A : ℕ). mem j A ≡ true) e (mem-weight j sx)))
  same-tree (leaf k) (join l r) sx sy e hx hy lx ly = absurd (not_both k l r sx sy e)
  same-tree (join l r) (leaf k) sx sy e hx hy lx ly = absurd (not_both k l r sy sx (sym e))
  same-tree (join l r) (join m s) sx sy e hx hy lx ly =
      let ox = sound-over allows (set_of m + set_of s) (join l r) sx e in
      let oy = sound-over allows (set_of l + set_of r) (join m s) sy (sym e) in
      let a = hx (join m s) oy in
      let b = hy (join l r) ox in
      let d : tree_cost job figs (join m s) ≡ tree_cost job figs (join l r) = omega (arith, a, b) in
      let g : set_of l ≡ set_of m = omega (arith, lx.2 m s oy d, ly.2 l r ox (sym d)) in
      let i : set_of r ≡ set_of s = omega (arith, g, e) in
      ap₂ join
      (same-tree l m sx.0 sy.0 g (left_too l r sx hx) (left_too m s sy hy) lx.0 ly.0)
      (same-tree r s sx.1 sy.1 i (right_too l r sx hx) (right_too m s sy hy) lx.1 ly.1)

  -- To be the best plan determines the room, the cost and the size.
  module _ (room : List ℕ) (r q : Result) (b : Best f model limit room r) (d : Best f model limit room q) where
    abbrev all : ℕ
    all = all_of f.n

    least_of : (p : Result) (h : Best f model limit room p) → Least h.tree
    least_of p h x o =
        omega (arith, h.cost, h.least x (subst (λ (A : ℕ). OverSet f model limit A x) (over-set allows all h.tree h.over) o))

    tree-only : b.tree ≡ d.tree
    tree-only =
        same-tree b.tree d.tree (over-sound allows all b.tree b.over) (over-sound allows all d.tree d.over)
        (over-set allows all b.tree b.over ∙ sym (over-set allows all d.tree d.over))
        (least_of r b) (least_of q d) b.ties d.ties

    pub best-only : (r.room ≡ q.room) × (r.answer.cost ≡ q.answer.cost) × (r.answer.size ≡ q.answer.size)
    best-only = (
      b.text ∙ ap (λ (t : Tree). whole_text t ++ drop (length (whole_text t)) room) tree-only ∙ sym d.text,
      sym b.cost ∙ ap (cost_of f model limit) tree-only ∙ d.cost,
      sym b.size ∙ d.size,
    )
