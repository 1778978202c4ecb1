-- The walk through a column of left parts, step by step, and what it finds: it meets no fault exactly when the tree that the left parts
-- give is a tree over the set.
use Prim.Native.Nat.{ℕ, zero, suc, ◌+◌, ◌-◌, ◌≤◌, ◌<◌}
use native.Mathlib.Omega.{arith}
use mathlib.Core.Path.{◌≡◌, refl, sym, ap, ap₂, ◌∙◌}
use mathlib.Core.Bool.{Bool, true, false, not, ◌&&◌, ◌||◌}
use mathlib.Core.List.{List}
use mathlib.Core.Logic.{◌≢◌, ◌↔◌}
use lib.Dec.{eqb}
use lib.ListN.{get_or}
use borrow.Author.Tests.{eqb-false, ne_eqb, not-false}
use Rattle.numbers.proofs.Tests.{neither}
use Rattle.relations.specs.Sets.{EMPTY, weight, Part, Apart, inside, without, lowest_to, lowest, rest, larger}
use Rattle.relations.proofs.Parts.{part-le, part_apart, apart-part, inside-part, part-inside, without-part}
use Rattle.relations.proofs.Lowest.{lowest_pos}
use Rattle.table.specs.Trees.{join, set_of, Over, plan_in, plan_of}
use Rattle.table.proofs.Reasoning.{by_test, strong}
use Rattle.table.proofs.TreeLaws.{Sound, sound-over, over-whole, over-sound, leaf-set, plan-joins}
use Rattle.newick.specs.Walks.{faulty, meets, meets_fault}
use Rattle.newick.specs.Inner.{Walked}

-- Every split is allowed, as in document 01's own plans.
abbrev pub any_split : ℕ → ℕ → Bool
any_split S L = true

-- ---- left parts

-- L is a left part of S.
pub record IsLeft (L S : ℕ) : Type 0 where
  pub some : 0 < L
  pub less : L < S
  pub part : Part L S

pub no_fault : (L S : ℕ) → faulty L S ≡ false → IsLeft L S
unfolding faulty
no_fault L S e =
    let a = neither (eqb L EMPTY || eqb L S) (not (inside L S)) e in
    let b = neither (eqb L EMPTY) (eqb L S) a.0 in
    let part = inside-part L S (not-false (inside L S) a.1) in
    let some : L ≢ 0 = eqb-false L 0 b.0 in
    let other : L ≢ S = eqb-false L S b.1 in
    record { some = omega arith; less = omega (arith, part-le L S part); part = part }

pub right_lower : (L S R : ℕ) → R ≡ without S L → false ≡ faulty L S → R < S
right_lower L S R r e = let i = no_fault L S (sym e) in omega (arith, r, without-part S L i.part, i.some, i.less)

faultless : (L S : ℕ) → IsLeft L S → faulty L S ≡ false
unfolding faulty
faultless L S h = rw (ne_eqb L 0 (omega (arith, h.some)), ne_eqb L S (omega (arith, h.less)), part-inside L S h.part)

-- Where S has no fault, and nothing is met from its two parts.
clear : (L S : ℕ) (l r : Bool) → (faulty L S || l || r) ≡ false → IsLeft L S × (l ≡ false) × (r ≡ false)
clear L S l r e =
    let a = neither (faulty L S || l) r e in
    let b = neither (faulty L S) l a.0 in
    (no_fault L S b.0, b.1, a.1)

-- What is met from the two parts counts only where L is a left part of S.
parts_same : (L S : ℕ) (l r l' r' : Bool) → (IsLeft L S → (l ≡ l') × (r ≡ r')) → (faulty L S || l || r) ≡ (faulty L S || l' || r')
parts_same L S l r l' r' h =
    by_test (faulty L S) (λ e. rw e) (λ e. let s = h (no_fault L S e) in ap₂ (λ (x y : Bool). faulty L S || x || y) s.0 s.1)

module _ (lefts : List ℕ) where
  -- ---- the step

  -- From the empty set nothing is met.
  meets-none : (f : ℕ) → meets f lefts 0 ≡ false
  unfolding meets larger rest weight lowest lowest_to
  meets-none zero = refl
  meets-none (suc f) = refl

  -- S sets are deep enough.
  enough : (f g S : ℕ) → S ≤ f → S ≤ g → meets f lefts S ≡ meets g lefts S
  unfolding meets
  enough zero g S h k = let e : S ≡ 0 = omega arith in rw e (sym (meets-none g))
  enough (suc f) zero S h k = let e : S ≡ 0 = omega arith in rw e (meets-none (suc f))
  enough (suc f) (suc g) S h k = ap (λ (b : Bool). larger S && b) (parts_same L S _ _ _ _ (same (enough f g)))
    where
      L : ℕ
      L = get_or lefts S 0

      same : ((A : ℕ) → A ≤ f → A ≤ g → meets f lefts A ≡ meets g lefts A) → IsLeft L S
          → (meets f lefts L ≡ meets g lefts L) × (meets f lefts (S - L) ≡ meets g lefts (S - L))
      same ih i =
          let l = i.less in
          let s = i.some in
          (ih L (omega arith) (omega arith), ih (S - L) (omega arith) (omega arith))

  -- From S on the walk meets what it meets at S, from its left part and from what is left.
  pub walk_step : (S : ℕ) → meets_fault lefts S
      ≡ larger S && (faulty (get_or lefts S 0) S || meets_fault lefts (get_or lefts S 0) || meets_fault lefts (S - get_or lefts S 0))
  unfolding meets_fault meets
  walk_step S =
      enough S (suc S) S (omega arith) (omega arith)
      ∙ ap (λ (b : Bool). larger S && b)
      (parts_same L S _ _ _ _
      (λ i. (enough S L L (omega (arith, i.less)) (omega arith), enough S (S - L) (S - L) (omega arith) (omega arith))))
    where
      L : ℕ
      L = get_or lefts S 0

  -- The walk ends at a relation alone, and goes on from a set of two or more.
  pub walk_end : (S : ℕ) → larger S ≡ false → meets_fault lefts S ≡ false
  walk_end S z = walk_step S ∙ rw z

  pub walk_more : (S L : ℕ) → larger S ≡ true → L ≡ get_or lefts S 0
      → meets_fault lefts S ≡ (faulty L S || meets_fault lefts L || meets_fault lefts (S - L))
  walk_more S L m e = walk_step S ∙ rw (m, ← e)

  -- The same with the right part R as it is worked out, which is what is left where S has no fault.
  module _ (S L R : ℕ) (m : true ≡ larger S) (l : L ≡ get_or lefts S 0) (r : R ≡ without S L) where
    pub walk_parts : (b : Bool) → b ≡ (faulty L S || meets_fault lefts L || meets_fault lefts R) → b ≡ meets_fault lefts S
    walk_parts b e =
        e
        ∙ parts_same L S _ _ _ _ (λ i. (refl, ap (meets_fault lefts) (r ∙ without-part S L i.part)))
        ∙ sym (walk_more S L (sym m) l)

  -- ---- the tree

  -- Where nothing is met the left parts give a tree over S,
  walked_in : (f S : ℕ) → S ≤ f → 0 < S → meets f lefts S ≡ false → Sound any_split (plan_in f lefts S) × (set_of (plan_in f lefts S) ≡ S)
  unfolding plan_in meets set_of
  walked_in zero S h p e = absurd (omega arith)
  walked_in (suc f) S h p e = by_test (larger S) (more (walked_in f)) (λ z. rw z (lowest_pos S p, leaf-set S z))
    where
      L : ℕ
      L = get_or lefts S 0

      more : ((A : ℕ) → A ≤ f → 0 < A → meets f lefts A ≡ false → Sound any_split (plan_in f lefts A) × (set_of (plan_in f lefts A) ≡ A))
          → larger S ≡ true → Sound any_split (plan_in (suc f) lefts S) × (set_of (plan_in (suc f) lefts S) ≡ S)
      more ih m =
          let c = clear L S (meets f lefts L) (meets f lefts (S - L)) (rw m at e) in
          let i = c.0 in
          let l = ih L (omega (arith, i.less)) i.some c.1 in
          let r = ih (S - L) (omega (arith, i.some)) (omega (arith, i.less)) c.2 in
          rw m ((l.0, r.0, rw (l.1, r.1) (part_apart L S i.part), refl), rw (l.1, r.1) (omega (arith, i.less)))

  -- and where they give one, of whatever profile, nothing is met.
  pub over-walked : (allows : ℕ → ℕ → Bool) (S : ℕ) → Over allows S (plan_of lefts S) → meets_fault lefts S ≡ false
  over-walked allows = strong (λ (S : ℕ). Over allows S (plan_of lefts S) → meets_fault lefts S ≡ false) step
    where
      step : (S : ℕ) → ((A : ℕ) → A < S → Over allows A (plan_of lefts A) → meets_fault lefts A ≡ false)
          → Over allows S (plan_of lefts S) → meets_fault lefts S ≡ false
      step S ih o = walk_step S ∙ by_test (larger S) more (λ z. rw z)
        where
          L : ℕ
          L = get_or lefts S 0

          more : larger S ≡ true → (larger S && (faulty L S || meets_fault lefts L || meets_fault lefts (S - L))) ≡ false
          more m =
              let j = plan-joins lefts S m (over-whole allows S (plan_of lefts S) o) in
              let s : Sound allows (join (plan_of lefts L) (plan_of lefts (S - L))) = rw j.tree at (over-sound allows S (plan_of lefts S) o) in
              let sum : L + (S - L) ≡ S = omega (arith, j.less) in
              let apart : Apart L (S - L) = rw (j.left, j.right) at s.2 in
              let i : IsLeft L S = record { some = j.some; less = j.less; part = rw sum at (apart-part L (S - L) apart) } in
              rw (
                m,
                faultless L S i,
                ih L j.less (sound-over allows L (plan_of lefts L) s.0 j.left),
                ih (S - L) (omega (arith, j.some)) (sound-over allows (S - L) (plan_of lefts (S - L)) s.1 j.right),
              )

  -- So the walk meets no fault exactly where the left parts give a tree over S: "10, table holds no tree".
  pub holds-tree : (S : ℕ) → 0 < S → (meets_fault lefts S ≡ false) ↔ Over any_split S (plan_of lefts S)
  unfolding meets_fault plan_of
  holds-tree S p = (forth, over-walked any_split S)
    where
      forth : meets S lefts S ≡ false → Over any_split S (plan_in S lefts S)
      forth e = let w = walked_in S S (omega arith) p e in sound-over any_split S (plan_in S lefts S) w.0 w.1

  -- ---- what the walk that prints goes by

  -- A set of two or more: its tree is the join of those of its two parts, from both the walk goes on, and their numbers are lower.
  pub record Steps (S L R : ℕ) : Type 0 where
    pub tree : plan_of lefts S ≡ join (plan_of lefts L) (plan_of lefts R)
    pub left : Walked lefts L
    pub right : Walked lefts R
    pub falls_left : L < S
    pub falls_right : R < S

  steps : (S : ℕ) → larger S ≡ true → Walked lefts S → Part (get_or lefts S 0) S × Steps S (get_or lefts S 0) (S - get_or lefts S 0)
  steps S m w =
      let L : ℕ = get_or lefts S 0 in
      let c = clear L S (meets_fault lefts L) (meets_fault lefts (S - L)) (sym (walk_more S L m refl) ∙ w.sound) in
      let i = c.0 in
      let o = (holds-tree S w.some).0 w.sound in (
        i.part,
        record {
          tree = (plan-joins lefts S m (over-whole any_split S (plan_of lefts S) o)).tree;
          left = record { some = i.some; room = omega (arith, i.less, w.room); sound = c.1 };
          right = record { some = omega (arith, i.less); room = omega (arith, w.room); sound = c.2 };
          falls_left = i.less;
          falls_right = omega (arith, i.some, i.less);
        },
      )

  -- The left part L as it is read, and the right part R as what is left.
  pub walk_on : (S L R : ℕ) → larger S ≡ true → L ≡ get_or lefts S 0 → R ≡ without S L → Walked lefts S → Steps S L R
  walk_on S L R m e r w =
      let t = steps S m w in
      let part : Part L S = rw e t.0 in
      let right : R ≡ S - L = r ∙ without-part S L part in
      rw (right, e) t.1
