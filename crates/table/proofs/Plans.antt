-- On a fresh table the cost of a row is the least cost of a tree over its set, the left parts give such a tree, and of the trees that
-- cost the same none has a lower left part.
use Rattle.std.proofs.Common.{◌≡◌, ℕ, zero, suc, ◌+◌, ◌-◌, ◌^◌, ◌<◌, ◌≤◌, true, false, cond, ◌≢◌, ◌⊎◌, ◌↔◌, sym, ap, ◌∙◌, subst, inl, inr, le_of_eq, le_of_suc-le-suc, eq-zero-or-pos, lt_of_not-le, arith}
use native.Mathlib.Decide.{ℕ_discrete}
use native.Mathlib.Nat.{add-sub_cancel_left}
use Rattle.relations.specs.Sets.{weight, Apart, lowest, rest, larger}
use Rattle.relations.proofs.Parts.{part_apart, apart-part}
use Rattle.relations.proofs.Lowest.{lowest_pos, alone_no_part, rest-weight}
use Rattle.table.specs.Figures.{Figures, size_of}
use Rattle.table.specs.Tables.{Table, row_at}
use Rattle.table.specs.Rule.{NONE, Job, join_cost, price}
use Rattle.table.specs.Trees.{Tree, leaf, join, set_of, Over, cost_of, tree_cost, plan_in, plan_of}
use Rattle.table.specs.declared.rows.Row.{Row}
use Rattle.table.proofs.Reasoning.{by_test}
use Rattle.table.proofs.Best.{Best, best}
use Rattle.table.proofs.Rules.{not_larger, is_larger, row-alone, row-join, size_from, IsSplit, Used, price-used, used-price}
use Rattle.table.proofs.SizeLaws.{Solved}
use Rattle.table.proofs.TreeLaws.{parts_cost, Sound, sound-some, sound-over, over-sound, over-set, leaf-set}

-- ---- joins

-- Two sets that are not empty and have no relation in common make up a set of two or more.
sum-larger : (A B : ℕ) → 0 < A → 0 < B → Apart A B → larger (A + B) ≡ true
sum-larger A B a b d = is_larger (A + B) (by (eq-zero-or-pos (rest (A + B))))
  where
    by : (rest (A + B) ≡ 0) ⊎ (0 < rest (A + B)) → 0 < rest (A + B)
    by (inl e) = absurd (alone_no_part (A + B) A e (apart-part A B d) a (omega arith))
    by (inr m) = m

module _ (job : Job) (fig : Figures) (n : ℕ) (T : Table) (ok : Solved job fig n T) where
  -- ---- the two kinds of row

  -- A relation alone costs 0.
  cost-alone : (S : ℕ) → S < 2 ^ n → larger S ≡ false → (row_at T S).cost ≡ 0
  cost-alone S l e = ap (λ (r : Row). r.cost) (ok.fresh S l ∙ row-alone job fig T S e)

  -- The row of a set of two or more holds its cheapest split.
  best-split : (S : ℕ) → S < 2 ^ n → larger S ≡ true
      → Best (price job fig T S (size_of fig S)) S (record { cost = (row_at T S).cost; left = (row_at T S).left })
  best-split S l m =
      let e = ok.fresh S l ∙ row-join job fig T S m in
      let o : size_from job fig T S ≡ size_of fig S = sym (ap (λ (r : Row). r.size) e) ∙ ok.sized S l in
      subst (λ (x : ℕ). Best (price job fig T S x) S (record { cost = (row_at T S).cost; left = (row_at T S).left })) o
      (subst (λ (r : Row). Best (price job fig T S (size_from job fig T S)) S (record { cost = r.cost; left = r.left })) (sym e)
      (best (price job fig T S (size_from job fig T S)) S))

  -- No row costs more than NONE.
  cost-most : (S : ℕ) → S < 2 ^ n → (row_at T S).cost ≤ NONE
  cost-most S l = by_test (larger S) (λ m. (best-split S l m).most) (λ e. omega (arith, cost-alone S l e))

  -- ---- no tree costs less

  -- The charge for joining A and B, on the sizes by the figures alone.
  abbrev charged : ℕ → ℕ → ℕ → ℕ
  charged A B S = job.charge (size_of fig A) (size_of fig B) (size_of fig S)

  -- What the rule charges for a join of two rows goes by these sizes.
  join_cost_lem : (A B S : ℕ) → A < 2 ^ n → B < 2 ^ n
      → join_cost job fig (row_at T A) (row_at T B) (size_of fig S) ≡ (row_at T A).cost + (row_at T B).cost + charged A B S
  unfolding join_cost
  join_cost_lem A B S a b = rw (ok.sized A a, ok.sized B b)

  -- The set of a join is one of two or more.
  join-larger : (x y : Tree) → Sound (job.profile fig) (join x y) → larger (set_of x + set_of y) ≡ true
  join-larger x y s =
      sum-larger (set_of x) (set_of y) (sound-some (job.profile fig) x s.0) (sound-some (job.profile fig) y s.1) s.2

  -- The row of the set of x costs no more than x.
  abbrev Low : Tree → Type 0
  Low x = (row_at T (set_of x)).cost ≤ tree_cost job fig x

  -- The price of the left part of a join that is within the limit is no more than the join costs.
  price-most : (x y : Tree) → Sound (job.profile fig) (join x y) → set_of x + set_of y < 2 ^ n → Low x → Low y
      → tree_cost job fig (join x y) ≤ job.limit
      → price job fig T (set_of x + set_of y) (size_of fig (set_of x + set_of y)) (set_of x) ≤ tree_cost job fig (join x y)
  unfolding tree_cost cost_of
  price-most x y s l hx hy h =
      let A : ℕ = set_of x in
      let B : ℕ = set_of y in
      let o : ℕ = size_of fig (A + B) in
      let j = join_cost_lem A B (A + B) (omega arith) (omega arith) in
      let split : IsSplit job fig (A + B) A =
      record { some = sound-some (job.profile fig) x s.0; part = apart-part A B s.2; allows = s.3 } in
      let u : Used job fig (A + B) A o (row_at T A) (row_at T (A + B - A)) =
      rw (add-sub_cancel_left A B) (record { split = split; left = omega arith; right = omega arith; whole = omega arith }) in
      let c : price job fig T (A + B) o A ≡ join_cost job fig (row_at T A) (row_at T B) o =
      rw (add-sub_cancel_left A B) at (price-used job fig T (A + B) o A u) in
      omega arith

  -- No tree within the limit costs less than the row of its set.
  lower : (x : Tree) → Sound (job.profile fig) x → set_of x < 2 ^ n → tree_cost job fig x ≤ job.limit → Low x
  unfolding tree_cost cost_of set_of weight
  lower (leaf zero) s l h = absurd (omega arith)
  lower (leaf (suc p)) s l h = le_of_eq (cost-alone (2 ^ p) l (not_larger (2 ^ p) (rest-weight p)))
  lower (join x y) s l h =
      let p = price-most x y s l (lower x s.0 (omega arith) (omega arith)) (lower y s.1 (omega arith) (omega arith)) h in
      let below : set_of x < set_of x + set_of y = omega (arith, sound-some (job.profile fig) y s.1) in
      omega (arith, (best-split (set_of x + set_of y) l (join-larger x y s)).least (set_of x) below)

  -- The same of a tree over S.
  pub least : (S : ℕ) → S < 2 ^ n → (x : Tree) → Over (job.profile fig) S x → tree_cost job fig x ≤ job.limit
      → (row_at T S).cost ≤ tree_cost job fig x
  least S l x o h = let w = over-set (job.profile fig) S x o in rw w at (lower x (over-sound (job.profile fig) S x o) (rw w l) h)

  -- Of the joins that cost what the row of their set does none has a lower left part.
  first-left : (x y : Tree) → Sound (job.profile fig) (join x y) → set_of x + set_of y < 2 ^ n → tree_cost job fig (join x y) ≤ job.limit
      → tree_cost job fig (join x y) ≡ (row_at T (set_of x + set_of y)).cost → (row_at T (set_of x + set_of y)).left ≤ set_of x
  first-left x y s l h e =
      let parts = parts_cost job fig x y in
      let p = price-most x y s l (lower x s.0 (omega arith) (omega arith)) (lower y s.1 (omega arith) (omega arith)) h in
      le_of_suc-le-suc (lt_of_not-le (λ (q : set_of x < (row_at T (set_of x + set_of y)).left).
      omega (arith, (best-split (set_of x + set_of y) l (join-larger x y s)).first (set_of x) q (omega (arith, ok.low)))))

  -- ---- the left parts give a tree

  -- A tree over S of exactly the cost of the row of S, which is within the limit.
  pub record Plan (S : ℕ) (x : Tree) : Type 0 where
    pub sound : Sound (job.profile fig) x
    pub whole : set_of x ≡ S
    pub cost : tree_cost job fig x ≡ (row_at T S).cost
    pub within : (row_at T S).cost ≤ job.limit

  -- It is the relation itself, of a relation alone,
  alone-planned : (S : ℕ) → 0 < S → S < 2 ^ n → larger S ≡ false → Plan S (leaf (lowest S))
  unfolding tree_cost cost_of set_of
  alone-planned S p l e =
      let z = cost-alone S l e in
      record { sound = lowest_pos S p; whole = leaf-set S e; cost = sym z; within = omega arith }

  -- and the join of two such trees, of the two parts of the split that the row holds.
  join-planned : (S L : ℕ) → L < S → S < 2 ^ n → Used job fig S L (size_of fig S) (row_at T L) (row_at T (S - L))
      → join_cost job fig (row_at T L) (row_at T (S - L)) (size_of fig S) ≡ (row_at T S).cost
      → (x y : Tree) → Plan L x → Plan (S - L) y → Plan S (join x y)
  unfolding tree_cost cost_of set_of
  join-planned S L g l u c x y px py =
      let sum : L + (S - L) ≡ S = omega arith in
      record {
        sound = (
          px.sound,
          py.sound,
          rw (px.whole, py.whole) (part_apart L S u.split.part),
          rw (px.whole, py.whole, sum) u.split.allows,
        );
        whole = rw (px.whole, py.whole, sum);
        cost = rw (px.whole, py.whole, sum, px.cost, py.cost) (sym (join_cost_lem L (S - L) S (omega arith) (omega arith)) ∙ c);
        within = omega (arith, u.whole);
      }

  -- So the left parts give one, S joins deep or more.
  planned_in : (f S : ℕ) → S ≤ f → 0 < S → S < 2 ^ n → (row_at T S).cost < NONE → Plan S (plan_in f T.lefts S)
  unfolding plan_in row_at
  planned_in zero S h p l c = absurd (omega arith)
  planned_in (suc f) S h p l c = by_test (larger S) (more (planned_in f)) (λ e. rw e (alone-planned S p l e))
    where
      L : ℕ
      L = (row_at T S).left

      more : ((A : ℕ) → A ≤ f → 0 < A → A < 2 ^ n → (row_at T A).cost < NONE → Plan A (plan_in f T.lefts A)) → larger S ≡ true
          → Plan S (cond (larger S) (join (plan_in f T.lefts L) (plan_in f T.lefts (S - L))) (leaf (lowest S)))
      more ih m =
          let k = (best-split S l m).some c in
          let u = used-price job fig T S (size_of fig S) L (omega arith) in
          rw m
          (join-planned S L k.0 l u (sym (price-used job fig T S (size_of fig S) L u) ∙ k.1) (plan_in f T.lefts L) (plan_in f T.lefts (S - L))
          (ih L (omega arith) u.split.some (omega arith) (omega (arith, u.left, ok.low)))
          (ih (S - L) (omega (arith, u.split.some)) (omega arith) (omega arith) (omega (arith, u.right, ok.low))))

  -- Where the row is not NONE, the left parts give such a tree.
  pub reached : (S : ℕ) → 0 < S → S < 2 ^ n → (row_at T S).cost ≢ NONE → Plan S (plan_of T.lefts S)
  unfolding plan_of
  reached S p l c = planned_in S S (omega arith) p l (omega (arith, cost-most S l))

  -- Of the trees over S that cost what the row does none has a lower left part.
  pub ties : (S : ℕ) → 0 < S → S < 2 ^ n → (x y : Tree) → Over (job.profile fig) S (join x y)
      → tree_cost job fig (join x y) ≡ (row_at T S).cost → (row_at T S).cost ≢ NONE → (row_at T S).left ≤ set_of x
  unfolding set_of
  ties S p l x y o e c =
      let w = over-set (job.profile fig) S (join x y) o in
      let h = (reached S p l c).within in
      rw w at (first-left x y (over-sound (job.profile fig) S (join x y) o) (rw w l) (omega arith) (rw w e))

  -- ---- no plan

  -- A row is NONE exactly when every tree over its set costs more than the limit.
  pub none_iff : (S : ℕ) → 0 < S → S < 2 ^ n
      → ((row_at T S).cost ≡ NONE) ↔ ((x : Tree) → Over (job.profile fig) S x → job.limit < tree_cost job fig x)
  none_iff S p l = (dear, unreached)
    where
      dear : (row_at T S).cost ≡ NONE → (x : Tree) → Over (job.profile fig) S x → job.limit < tree_cost job fig x
      dear e x o = lt_of_not-le (λ (q : tree_cost job fig x ≤ job.limit). omega (arith, least S l x o q, ok.low))

      unreached : ((x : Tree) → Over (job.profile fig) S x → job.limit < tree_cost job fig x) → (row_at T S).cost ≡ NONE
      unreached f = by (ℕ_discrete (row_at T S).cost NONE)
        where
          by : Dec ((row_at T S).cost ≡ NONE) → (row_at T S).cost ≡ NONE
          by (yes e) = e
          by (no c) =
              let g = reached S p l c in
              let o = sound-over (job.profile fig) S (plan_of T.lefts S) g.sound g.whole in
              absurd (omega (arith, f (plan_of T.lefts S) o, g.cost, g.within))
