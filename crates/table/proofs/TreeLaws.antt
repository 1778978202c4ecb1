-- A tree over S by its joins: no relation 0, and at every join two parts with no relation in common; the sets of the parts add up to S.
-- And of the tree that left parts give for S: where it has no relation 0, its set is S, and it is made of the trees of the two parts.
use Rattle.std.proofs.Common.{◌≡◌, ℕ, zero, suc, ◌+◌, ◌-◌, ◌<◌, ◌≤◌, Bool, true, false, cond, ◌||◌, eqb, List, get_or, sym, refl, ap, ◌∙◌, subst, ap₂, arith, eq-eqb, eqb-true, leb-false}
use native.Mathlib.Decide.{le_ind}
use Rattle.numbers.proofs.Tests.{same_test}
use Rattle.relations.specs.Sets.{weight, mem, lowest_to, lowest, rest, larger, Apart}
use Rattle.relations.proofs.Members.{mem_zero, mem-weight, mem-alone, weight_pos, members_same}
use Rattle.relations.proofs.Parts.{mem-sum}
use Rattle.relations.proofs.Lowest.{alone}
use Rattle.table.specs.Figures.{Figures}
use Rattle.table.specs.Rule.{Job}
use Rattle.table.specs.Trees.{Tree, leaf, join, times, set_of, Allowed, Over, cost_of, tree_cost, plan_in, plan_of}
use Rattle.table.proofs.Reasoning.{by_test}

-- ---- what stands once

-- Once or not at all, as a test says.
abbrev pub once : Bool → ℕ
once b = cond b 1 0

once_true : (b : Bool) → b ≡ true → once b ≡ 1
once_true b e = ap once e

once-most : (b : Bool) → once b ≤ 1
once-most true = omega arith
once-most false = omega arith

-- Two tests that say the same number are one.
once-same : (a b : Bool) → once a ≡ once b → a ≡ b
once-same true true e = refl
once-same true false e = absurd (omega arith)
once-same false true e = absurd (omega arith)
once-same false false e = refl

-- Two tests that never pass together, counted together.
once-sum : (a b : Bool) → (a ≡ true → b ≡ true → ⊥) → once a + once b ≡ once (a || b)
once-sum true true f = absurd (f refl refl)
once-sum true false f = refl
once-sum false true f = refl
once-sum false false f = refl

-- The members of a relation alone.
mem-leaf : (j k : ℕ) → 1 ≤ j → eqb j k ≡ mem k (weight j)
mem-leaf j k h =
    same_test (eqb j k) (mem k (weight j))
    (λ e. subst (λ (x : ℕ). mem x (weight j) ≡ true) (eqb-true j k e) (mem-weight j h))
    (λ m. eq-eqb j k (sym (mem-alone k j m)))

-- ---- trees over a set

-- The tree has no relation 0.
abbrev pub Whole : Tree → Type 0
Whole x = times 0 x ≡ 0

-- Two trees cost no more than their join.
pub parts_cost : (job : Job) (fig : Figures) (x y : Tree) → tree_cost job fig x + tree_cost job fig y ≤ tree_cost job fig (join x y)
unfolding tree_cost cost_of
parts_cost job fig x y = omega arith

module _ (allows : ℕ → ℕ → Bool) where
  -- No relation 0, and every join an allowed split into two parts with no relation in common.
  abbrev pub Sound : Tree → Type 0
  Sound (leaf k) = 1 ≤ k
  Sound (join l r) = Sound l × Sound r × Apart (set_of l) (set_of r) × (allows (set_of l + set_of r) (set_of l) ≡ true)

  -- The set of a sound tree is not empty.
  pub sound-some : (x : Tree) → Sound x → 0 < set_of x
  unfolding set_of
  sound-some (leaf k) s = weight_pos k s
  sound-some (join l r) s = omega (arith, sound-some l s.0)

  -- A sound tree has each relation of its set once, and no other.
  sound-times : (x : Tree) → Sound x → (k : ℕ) → times k x ≡ once (mem k (set_of x))
  unfolding times set_of
  sound-times (leaf j) s k = ap once (mem-leaf j k s)
  sound-times (join l r) s k =
      ap₂ (λ (a b : ℕ). a + b) (sound-times l s.0 k) (sound-times r s.1 k)
      ∙ once-sum (mem k (set_of l)) (mem k (set_of r)) (s.2 k)
      ∙ ap once (sym (mem-sum k (set_of l) (set_of r) s.2))

  sound-allowed : (x : Tree) → Sound x → Allowed allows x
  sound-allowed (leaf k) s = tt
  sound-allowed (join l r) s = (sound-allowed l s.0, sound-allowed r s.1, s.3)

  -- A sound tree is over its set.
  pub sound-over : (S : ℕ) (x : Tree) → Sound x → set_of x ≡ S → Over allows S x
  sound-over S x s e = record {
    once = λ k. sound-times x s k ∙ ap (λ (A : ℕ). once (mem k A)) e;
    allowed = sound-allowed x s;
  }

  -- A tree that has no relation 0, and no other twice, is sound: a relation of both parts of a join would stand in it twice.
  once-sound : (x : Tree) → Whole x → ((k : ℕ) → times k x ≤ 1) → Allowed allows x → Sound x
  unfolding times
  once-sound (leaf zero) z h a = absurd (omega arith)
  once-sound (leaf (suc p)) z h a = omega arith
  once-sound (join l r) z h a =
      let sl = once-sound l (omega arith) (λ k. omega (arith, h k)) a.0 in
      let sr = once-sound r (omega arith) (λ k. omega (arith, h k)) a.1 in
      (sl, sr, apart sl sr, a.2)
    where
      apart : Sound l → Sound r → Apart (set_of l) (set_of r)
      apart sl sr k ml mr =
          let tl : times k l ≡ 1 = sound-times l sl k ∙ once_true (mem k (set_of l)) ml in
          let tr : times k r ≡ 1 = sound-times r sr k ∙ once_true (mem k (set_of r)) mr in
          omega (arith, h k)

  -- A tree over S has no relation 0, for S has none,
  pub over-whole : (S : ℕ) (x : Tree) → Over allows S x → Whole x
  over-whole S x o = o.once 0 ∙ ap once (mem_zero S)

  -- is sound,
  pub over-sound : (S : ℕ) (x : Tree) → Over allows S x → Sound x
  over-sound S x o = once-sound x (over-whole S x o) (λ k. omega (arith, o.once k, once-most (mem k S))) o.allowed

  -- and its set is S.
  pub over-set : (S : ℕ) (x : Tree) → Over allows S x → set_of x ≡ S
  over-set S x o =
      members_same (set_of x) S
      (λ k. once-same (mem k (set_of x)) (mem k S) (sym (sound-times x (over-sound S x o) k) ∙ o.once k))

-- ---- the tree that left parts give

-- A set that is not one of two or more is that of its lowest relation.
pub leaf-set : (S : ℕ) → larger S ≡ false → set_of (leaf (lowest S)) ≡ S
unfolding set_of larger
leaf-set S e = alone S (omega (arith, leb-false 1 (rest S) e))

join-set : (l r : Tree) → set_of (join l r) ≡ set_of l + set_of r
unfolding set_of
join-set l r = refl

not_whole : Whole (leaf 0) → ⊥
unfolding times
not_whole z = omega arith

module _ (lefts : List ℕ) where
  -- The two kinds of tree.
  plan-leaf : (f S : ℕ) → larger S ≡ false → plan_in (suc f) lefts S ≡ leaf (lowest S)
  unfolding plan_in
  plan-leaf f S e = rw e

  plan_node : (f S : ℕ) → larger S ≡ true → plan_in (suc f) lefts S ≡ join (plan_in f lefts (get_or lefts S 0)) (plan_in f lefts (S - get_or lefts S 0))
  unfolding plan_in
  plan_node f S e = rw e

  -- What they give for the empty set is relation 0, and so a tree without it is that of another set.
  plan-empty : (f : ℕ) → plan_in f lefts 0 ≡ leaf 0
  unfolding plan_in larger rest weight lowest lowest_to
  plan-empty zero = refl
  plan-empty (suc f) = refl

  plan-some : (f S : ℕ) → Whole (plan_in f lefts S) → 0 < S
  plan-some f zero z = absurd (not_whole (rw (plan-empty f) at z))
  plan-some f (suc s) z = omega arith

  -- Of a join with no relation 0: neither part has one, and so both parts of S are not empty.
  record Halves (f S L : ℕ) : Type 0 where
    pub some : 0 < L
    pub less : L < S
    pub left : Whole (plan_in f lefts L)
    pub right : Whole (plan_in f lefts (S - L))

  halves : (f S : ℕ) → larger S ≡ true → Whole (plan_in (suc f) lefts S) → Halves f S (get_or lefts S 0)
  halves f S m z =
      let L : ℕ = get_or lefts S 0 in
      let both : times 0 (plan_in f lefts L) + times 0 (plan_in f lefts (S - L)) ≡ 0 = unfold times in rw (plan_node f S m) at z in
      let l : Whole (plan_in f lefts L) = omega arith in
      let r : Whole (plan_in f lefts (S - L)) = omega arith in
      record { some = plan-some f L l; less = omega (arith, plan-some f (S - L) r); left = l; right = r }

  -- The set of a tree that they give for S and has no relation 0 is S.
  plan-set : (f S : ℕ) → S ≤ f → Whole (plan_in f lefts S) → set_of (plan_in f lefts S) ≡ S
  plan-set zero S h z = absurd (omega (arith, plan-some zero S z))
  plan-set (suc f) S h z = by_test (larger S) (more (plan-set f)) (λ e. ap set_of (plan-leaf f S e) ∙ leaf-set S e)
    where
      more : ((A : ℕ) → A ≤ f → Whole (plan_in f lefts A) → set_of (plan_in f lefts A) ≡ A) → larger S ≡ true → set_of (plan_in (suc f) lefts S) ≡ S
      more ih m =
          let L : ℕ = get_or lefts S 0 in
          let w = halves f S m z in
          let l = ih L (omega (arith, w.less)) w.left in
          let r = ih (S - L) (omega (arith, w.some)) w.right in
          ap set_of (plan_node f S m) ∙ join-set (plan_in f lefts L) (plan_in f lefts (S - L)) ∙ omega (arith, w.less)

  -- Such a tree is no more than S joins deep.
  plan-more : (f S : ℕ) → S ≤ f → Whole (plan_in (suc f) lefts S) → plan_in (suc f) lefts S ≡ plan_in f lefts S
  plan-more zero S h z = absurd (omega (arith, plan-some (suc zero) S z))
  plan-more (suc f) S h z = by_test (larger S) (more (plan-more f)) (λ e. plan-leaf (suc f) S e ∙ sym (plan-leaf f S e))
    where
      more : ((A : ℕ) → A ≤ f → Whole (plan_in (suc f) lefts A) → plan_in (suc f) lefts A ≡ plan_in f lefts A) → larger S ≡ true
          → plan_in (suc (suc f)) lefts S ≡ plan_in (suc f) lefts S
      more ih m =
          let L : ℕ = get_or lefts S 0 in
          let w = halves (suc f) S m z in
          plan_node (suc f) S m
          ∙ ap₂ join (ih L (omega (arith, w.less)) w.left) (ih (S - L) (omega (arith, w.some)) w.right)
          ∙ sym (plan_node f S m)

  plan-enough : (f S : ℕ) → S ≤ f → Whole (plan_in f lefts S) → plan_in f lefts S ≡ plan_of lefts S
  unfolding plan_of
  plan-enough f S h =
      le_ind (λ (m : ℕ). Whole (plan_in m lefts S) → plan_in m lefts S ≡ plan_in S lefts S) (λ _. refl)
      (λ m k ih z. let e = plan-more m S k z in e ∙ ih (rw e at z)) f h

  pub plan-alone : (S : ℕ) → 0 < S → larger S ≡ false → plan_of lefts S ≡ leaf (lowest S)
  unfolding plan_of
  plan-alone zero p e = absurd (omega arith)
  plan-alone (suc s) p e = plan-leaf s (suc s) e

  -- The tree of a set of two or more joins that of its left part L with that of what is left, and their sets are these.
  pub record Joins (S L : ℕ) : Type 0 where
    pub some : 0 < L
    pub less : L < S
    pub tree : plan_of lefts S ≡ join (plan_of lefts L) (plan_of lefts (S - L))
    pub left : set_of (plan_of lefts L) ≡ L
    pub right : set_of (plan_of lefts (S - L)) ≡ S - L

  pub plan-joins : (S : ℕ) → larger S ≡ true → Whole (plan_of lefts S) → Joins S (get_or lefts S 0)
  unfolding plan_of
  plan-joins zero m z = absurd (omega (arith, plan-some zero 0 z))
  plan-joins (suc s) m z =
      let S = suc s in
      let L : ℕ = get_or lefts S 0 in
      let w = halves s S m z in
      let a : L ≤ s = omega (arith, w.less) in
      let b : S - L ≤ s = omega (arith, w.some) in
      let l : plan_in s lefts L ≡ plan_in L lefts L = plan-enough s L a w.left in
      let r : plan_in s lefts (S - L) ≡ plan_in (S - L) lefts (S - L) = plan-enough s (S - L) b w.right in
      record {
        some = w.some;
        less = w.less;
        tree = plan_node s S m ∙ ap₂ join l r;
        left = rw l at (plan-set s L a w.left);
        right = rw r at (plan-set s (S - L) b w.right);
      }
