-- What the checks find: where none refuses, the columns hold a plan and the room is long enough.
use Prim.Native.Nat.{ℕ, zero, suc, ◌+◌, ◌-◌, ◌^◌, ◌≤◌, ◌<◌}
use native.Mathlib.Decide.{dec_le}
use native.Mathlib.Omega.{arith}
use mathlib.Core.Bool.{Bool, ◌||◌, true, false, cond}
use mathlib.Core.List.{List, [], ◌∷◌}
use mathlib.Core.Logic.{◌≢◌}
use mathlib.Core.Path.{◌≡◌, refl, sym, subst, ◌∙◌}
use lib.Dec.{eqb, leb, ltb}
use lib.ListN.{length, get_or}
use lib.Pow.{pow_pos}
use Rattle.std.proofs.lemmas.Bool.Decides.{nat_tests}
use borrow.Author.Tests.{eqb-true, eqb-false, eq-eqb, ne_eqb, ltb-false}
use Rattle.numbers.proofs.Tests.{neither, is_false}
use Rattle.relations.specs.Sets.{MOST, all_of, first, is_relation}
use Rattle.relations.proofs.Named.{all_is, all_none, all-some, is_relation_lem, relation_is}
use Rattle.table.specs.Results.{in_order}
use Rattle.table.specs.Rule.{NONE}
use Rattle.table.specs.Trees.{Over, plan_of}
use Rattle.table.proofs.Reasoning.{by_test}
use Rattle.table.proofs.Refusals.{first_zero, passed_true, passed_false}
use Rattle.newick.specs.Texts.{whole_text, needed}
use Rattle.newick.specs.Walks.{meets_fault}
use Rattle.newick.specs.Results.{short_column, unprinted, number_of, unwritten, written, printed}
use Rattle.newick.specs.Inner.{Walked}
use Rattle.newick.specs.declared.Refusal.{Refusal}
use Rattle.newick.specs.declared.Refusal.TheVariants.{Relations, ShortColumn, NoPlan, ShortText, NoTree}
use Rattle.newick.proofs.WalkLaws.{any_split, holds-tree}
use Rattle.newick.proofs.TextLaws.{text-length}

-- ---- the numbers of relations

-- The set of all n is empty exactly where n is refused.
pub none_allowed : (n : ℕ) → all_of n ≡ 0 → is_relation MOST n ≡ false
none_allowed n e =
    is_false (is_relation MOST n)
    (λ h. let b = is_relation_lem MOST n h in omega (arith, (all-some n b.0 b.1).0))

pub some-allowed : (n : ℕ) → all_of n ≢ 0 → (1 ≤ n) × (n ≤ MOST)
some-allowed zero h = absurd (h (all_is 0 (omega arith)))
some-allowed (suc n) h = (omega arith, by (dec_le (suc n) MOST))
  where
    by : Dec (suc n ≤ MOST) → suc n ≤ MOST
    by (yes l) = l
    by (no l) = absurd (h (all_none (suc n) (omega arith)))

-- A column that ends at the full set, the last of 2^n, or before.
edge : (n x full : ℕ) → full ≡ 2 ^ n - 1 → leb x full ≡ ltb x (2 ^ n)
edge n x full e = let whole : full + 1 ≡ 2 ^ n = omega (arith, pow_pos n) in grind (arith, nat_tests)

-- ---- the tests in turn; `full` is the full set's number

-- What the first test leaves: n is 1 to 15.
pub full_bounds : (n full : ℕ) → full ≡ all_of n → full ≢ 0 → (1 ≤ n) × (n ≤ MOST)
full_bounds n full is some = some-allowed n (λ e. some (is ∙ e))

-- The first refusal that is due is found, and else the next is looked for.
next : (s r c m : Bool) → in_order (cond s 6 0 ∷ cond r 9 0 ∷ cond c 7 0 ∷ cond m 10 0 ∷ []) ≡ cond s 6 (cond r 9 (cond c 7 (cond m 10 0)))
unfolding in_order first
next true r c m = refl
next false true c m = refl
next false false true m = refl
next false false false true = refl
next false false false false = refl

-- What the tests find in turn, of a set of all n, full, and columns that end at it or go on past it.
abbrev pub tests : ℕ → ℕ → List ℕ → List ℕ → ℕ → ℕ
tests n full costs lefts room =
    cond (eqb full 0) 1
    (cond (leb (length costs) full || leb (length lefts) full) 6
    (cond (ltb room (needed n)) 9 (cond (eqb (get_or costs full 0) NONE) 7 (cond (meets_fault lefts full) 10 0))))

-- It is what "print: 1, 6, 9, then 7, then 10" asks for.
in_turn : (n full : ℕ) (costs lefts : List ℕ) (room : ℕ) → full ≡ all_of n → unprinted n costs lefts room ≡ tests n full costs lefts room
unfolding unprinted short_column in_order first
in_turn n full costs lefts room is =
    by_test (eqb full 0) (λ e. rw (e, none_allowed n (sym is ∙ eqb-true full 0 e)))
    (λ e.
    let b = full_bounds n full is (eqb-false full 0 e) in
    let last : full ≡ 2 ^ n - 1 = is ∙ all_is n b.1 in
    rw (e, relation_is MOST n b.0 b.1, ← edge n (length costs) full last, ← edge n (length lefts) full last, ← is)
    (next (leb (length costs) full || leb (length lefts) full) (ltb room (needed n)) (eqb (get_or costs full 0) NONE) (meets_fault lefts full)))

pub found_in_turn : (n full : ℕ) (costs lefts : List ℕ) (room k : ℕ) → full ≡ all_of n → k ≡ tests n full costs lefts room
    → k ≡ unprinted n costs lefts room
found_in_turn n full costs lefts room k is e = e ∙ sym (in_turn n full costs lefts room is)

-- ---- columns that hold a plan

-- What all but refusal 9 make sure of.
pub record HoldsPlan (n : ℕ) (costs lefts : List ℕ) : Type 0 where
  pub relations : is_relation MOST n ≡ true
  pub columns : short_column n costs lefts ≡ false
  pub plan : get_or costs (all_of n) 0 ≢ NONE
  pub tree : meets_fault lefts (all_of n) ≡ false

module _ (n : ℕ) (costs lefts : List ℕ) (room : ℕ) where
  pub printable : unprinted n costs lefts room ≡ 0 → HoldsPlan n costs lefts × (needed n ≤ room)
  unfolding unprinted in_order
  printable e =
      let a = first_zero _ _ e in
      let b = first_zero _ _ a.1 in
      let c = first_zero _ _ b.1 in
      let d = first_zero _ _ c.1 in
      let f = first_zero _ _ d.1 in (
        record {
          relations = passed_true 0 _ a.0;
          columns = passed_false 5 _ b.0;
          plan = eqb-false _ _ (passed_false 6 _ d.0);
          tree = passed_false 9 _ f.0;
        },
        ltb-false room (needed n) (passed_false 8 _ c.0),
      )

  -- Where they hold a plan only the room is left to be refused.
  pub only-room : HoldsPlan n costs lefts → unprinted n costs lefts room ≡ cond (ltb room (needed n)) 9 0
  unfolding unprinted in_order first
  only-room h =
      rw (h.relations, h.columns, ne_eqb _ _ h.plan, h.tree) (by_test (ltb room (needed n)) (λ e. rw e) (λ e. rw e))

-- ---- the tree of such columns

module _ (n : ℕ) (costs lefts : List ℕ) (h : HoldsPlan n costs lefts) where
  bounds : (1 ≤ n) × (n ≤ MOST)
  bounds = is_relation_lem MOST n h.relations

  -- The walk from the full set goes through.
  pub plan-walked : Walked lefts (all_of n)
  unfolding short_column
  plan-walked =
      let b = bounds in
      let s = all-some n b.0 b.1 in
      let l = ltb-false (length lefts) (2 ^ n) (neither (ltb (length costs) (2 ^ n)) (ltb (length lefts) (2 ^ n)) h.columns).1 in
      record { some = s.0; room = omega (arith, s.1, l); sound = h.tree }

  -- What it finds is a tree over all n relations, whose text has the needed length.
  pub plan-over : Over any_split (all_of n) (plan_of lefts (all_of n))
  plan-over = (holds-tree lefts (all_of n) plan-walked.some).0 h.tree

  pub plan-length : length (whole_text (plan_of lefts (all_of n))) ≡ needed n
  plan-length =
      text-length any_split n (plan_of lefts (all_of n)) bounds.0
      (subst (λ (S : ℕ). Over any_split S (plan_of lefts (all_of n))) (all_is n bounds.1) plan-over)

-- ---- the result, of a call that is accepted and of one that is refused

module _ (n : ℕ) (costs lefts room : List ℕ) where
  pub printed-done : unprinted n costs lefts (length room) ≡ 0 → printed n costs lefts room ≡ written room (whole_text (plan_of lefts (all_of n)))
  unfolding printed
  printed-done e = rw (eq-eqb _ 0 e)

  pub printed-refused : (k : ℕ) → k ≡ unprinted n costs lefts (length room) → 0 < k → printed n costs lefts room ≡ unwritten room k
  unfolding printed
  printed-refused k e h = rw (← e, ne_eqb k 0 (omega arith))

pub number_pos : (why : Refusal) → 0 < number_of why
number_pos Relations = omega arith
number_pos ShortColumn = omega arith
number_pos NoPlan = omega arith
number_pos ShortText = omega arith
number_pos NoTree = omega arith
