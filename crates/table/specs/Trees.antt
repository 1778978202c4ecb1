-- Trees, the sets that they are over, what they cost, and the tree that a column of left parts gives.
use Rattle.std.specs.Prelude.{◌≡◌, ℕ, zero, suc, ◌+◌, ◌-◌, Bool, true, cond, List, [], ◌∷◌, ◌==◌, slice_index, refl}
use Rattle.relations.specs.Sets.{weight, mem, first, lowest_to, lowest, rest, larger}
use Rattle.table.specs.Figures.{Figures, size_of}
use Rattle.table.specs.Rule.{Job}

-- A tree is a relation or a join of two trees.
pub data Tree : Type 0 where
  leaf : ℕ → Tree
  join : Tree → Tree → Tree

-- How often relation k stands in a tree.
unfoldable pub times : ℕ → Tree → ℕ
times k (leaf j) = cond (j == k) 1 0
times k (join l r) = times k l + times k r

-- The number of the set of a tree's relations.
unfoldable pub set_of : Tree → ℕ
set_of (leaf k) = weight k
set_of (join l r) = set_of l + set_of r

-- Every join of the tree is a split that the profile allows.
module _ (allows : ℕ → ℕ → Bool) where
  abbrev pub Allowed : Tree → Type 0
  Allowed (leaf k) = Unit {0}
  Allowed (join l r) = Allowed l × Allowed r × (allows (set_of l + set_of r) (set_of l) ≡ true)

  -- A tree over S "uses each relation once": those of S, and no other.
  pub record Over (S : ℕ) (t : Tree) : Type 0 where
    pub once : (k : ℕ) → times k t ≡ cond (mem k S) 1 0
    pub allowed : Allowed t

-- "A relation alone costs 0. A join costs the left tree plus the right tree plus a charge", on the three sizes.
module _ (charge : ℕ → ℕ → ℕ → ℕ) (size : ℕ → ℕ) where
  unfoldable pub cost_of : Tree → ℕ
  cost_of (leaf k) = 0
  cost_of (join l r) = cost_of l + cost_of r + charge (size (set_of l)) (size (set_of r)) (size (set_of l + set_of r))

-- The sizes by the figures alone.
unfoldable pub tree_cost : Job → Figures → Tree → ℕ
tree_cost job fig = cost_of job.charge (size_of fig)

-- The tree that a column of left parts gives for S, at most f joins deep: of two or more relations, the tree of the left part joined with
-- that of what is left.
unfoldable pub plan_in : ℕ → List ℕ → ℕ → Tree
plan_in zero lefts S = leaf 0
plan_in (suc f) lefts S = cond (larger S) (join (plan_in f lefts (slice_index lefts S)) (plan_in f lefts (S - slice_index lefts S))) (leaf (lowest S))

unfoldable pub plan_of : List ℕ → ℕ → Tree
plan_of lefts S = plan_in S lefts S

-- ---- computed: the tree ((1,2),3) is over the set of the three, and costs the charges of its two joins

unfoldable tree : Tree
tree = join (join (leaf 1) (leaf 2)) (leaf 3)

counted : (set_of tree ≡ 7) × (times 2 tree ≡ 1) × (times 4 tree ≡ 0)
unfolding weight tree times set_of
counted = (refl, refl, refl)

costed : cost_of (λ a b o. a + b + o) (λ S. S) tree ≡ (1 + 2 + 3) + (3 + 4 + 7)
unfolding weight tree set_of cost_of
costed = refl

-- It is the tree of a column in which row 7 has the left part 3 and row 3 the left part 1.
read : plan_of (0 ∷ 0 ∷ 0 ∷ 1 ∷ 0 ∷ 0 ∷ 0 ∷ 3 ∷ []) 7 ≡ tree
unfolding weight mem first lowest_to lowest rest larger tree plan_in plan_of
read = refl
