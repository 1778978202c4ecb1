-- What the checks find: where none refuses, the figures, the model, the limit and the columns are fit.
use Rattle.std.proofs.lemmas.Bool.Decides.{nat_tests}
use Rattle.std.specs.List.{list_any}
use Rattle.std.specs.Prelude.{◌==◌}
use Rattle.std.proofs.Common.{◌≡◌, ℕ, zero, suc, ◌+◌, ◌-◌, ◌*◌, ◌/◌, ◌^◌, ◌<◌, ◌≤◌, min, max, Bool, true, false, cond, not, ◌&&◌, eqb, ◌≢◌, List, [], ◌∷◌, get_or, refl, ◌∙◌, arith, pow_pos, eq-eqb, ne_eqb, eqb-true, le-leb, leb-true}
use mathlib.Core.Bool.{and-eq-true_iff}
use borrow.Author.Tests.{eqb-false, not-true}
use Rattle.numbers.proofs.Tests.{neither}
use Rattle.relations.specs.Pairs.{place}
use Rattle.relations.specs.Sets.{MOST, all_of, first, is_relation}
use Rattle.relations.proofs.Named.{all_is, is_relation_lem, relation_is}
use Rattle.relations.proofs.Places.{before-all}
use Rattle.table.specs.Tables.{Table, Room}
use Rattle.table.specs.Requests.{Request, new_divisor, names, edit_pair, is_pair}
use Rattle.table.specs.declared.Refusal.{Refusal}
use Rattle.table.specs.declared.Refusal.TheVariants.{Relations, Lengths, ZeroDivisor, UnknownModel, HighLimit, ShortColumn, NoPlan, Name}
use Rattle.table.specs.Results.{number_of, Call, any_zero, short, in_order, bad_figures, unfit, refusal, worked, untouched, result}
use Rattle.table.specs.Inner.{Fit}

-- ---- the first of several

pub first_zero : (a b : ℕ) → first a b ≡ 0 → (a ≡ 0) × (b ≡ 0)
unfolding first
first_zero zero b e = (refl, e)
first_zero (suc a) b e = absurd (omega arith)

pub first_past : (a b : ℕ) → a ≡ 0 → first a b ≡ b
unfolding first
first_past a b e = rw e

-- What is found first is answered.
pub first_found : (a b w : ℕ) → w ≡ a → 0 < w → w ≡ first a b
unfolding first
first_found zero b w e h = absurd (omega arith)
first_found (suc a) b w e h = e

-- ---- a test that refuses

pub passed_true : (k : ℕ) (b : Bool) → cond b 0 (suc k) ≡ 0 → b ≡ true
passed_true k true e = refl
passed_true k false e = absurd (omega arith)

pub passed_false : (k : ℕ) (b : Bool) → cond b (suc k) 0 ≡ 0 → b ≡ false
passed_false k true e = absurd (omega arith)
passed_false k false e = refl

-- ---- the single tests

zero_none : (ds : List ℕ) → any_zero ds ≡ false → (k : ℕ) → 1 ≤ get_or ds k 1
unfolding any_zero
zero_none [] e k = omega arith
zero_none (d ∷ ds) e zero = let h = eqb-false d 0 (neither (eqb d 0) (any_zero ds) e).0 in omega arith
zero_none (d ∷ ds) e (suc k) = zero_none ds (neither (eqb d 0) (any_zero ds) e).1 k

pub none_zero : (ds : List ℕ) → ((k : ℕ) → 1 ≤ get_or ds k 1) → any_zero ds ≡ false
unfolding any_zero
none_zero [] h = refl
none_zero (d ∷ ds) h = rw (ne_eqb d 0 (omega (arith, h 0)), none_zero ds (λ k. h (suc k)))

-- The library's look for a 0.
pub zero_any : (ds : List ℕ) → list_any (λ d. d == 0) ds ≡ any_zero ds
unfolding any_zero
zero_any [] = refl
zero_any (d ∷ ds) = rw (zero_any ds)

-- The full set is the last of 2^n.
pub full_last : (n : ℕ) → n ≤ MOST → all_of n + 1 ≡ 2 ^ n
full_last n h = omega (arith, all_is n h, pow_pos n)

long-enough : (T : Table) (m : ℕ) → short T m ≡ false → Room T m
unfolding short
long-enough T m e = record { sizes = grind (arith, nat_tests); costs = grind (arith, nat_tests); lefts = grind (arith, nat_tests) }

enough-long : (T : Table) (m : ℕ) → Room T m → short T m ≡ false
unfolding short
enough-long T m r = grind (arith, nat_tests)

-- The first place past the pairs of n relations.
pub pairs_end : (n : ℕ) → place 1 (n + 1) ≡ n * (n - 1) / 2
unfolding place
pairs_end n =
    let high : max 1 (n + 1) ≡ suc n = omega arith in
    let low : min 1 (n + 1) - 1 ≡ 0 = omega arith in
    rw (high, low) (omega (arith, before-all n))

pub number_pos : (why : Refusal) → 0 < number_of why
number_pos Relations = omega arith
number_pos Lengths = omega arith
number_pos ZeroDivisor = omega arith
number_pos UnknownModel = omega arith
number_pos HighLimit = omega arith
number_pos ShortColumn = omega arith
number_pos NoPlan = omega arith
number_pos Name = omega arith

-- ---- all of them

pub fit : (d : ℕ) (c : Call) → unfit d c ≡ 0 → Fit d c
unfolding unfit bad_figures in_order
fit d c e =
    let e1 = first_zero _ _ e in
    let e2 = first_zero _ _ e1.1 in
    let e3 = first_zero _ _ e2.1 in
    let e4 = first_zero _ _ e3.1 in
    let f1 = first_zero _ _ e1.0 in
    let f2 = first_zero _ _ f1.1 in
    let f3 = first_zero _ _ f2.1 in
    let f4 = first_zero _ _ f3.1 in
    let n = is_relation_lem MOST c.n (passed_true 0 _ f1.0) in
    let z = neither (eqb d 0) (any_zero c.figures.divisors) (passed_false 2 _ f4.0) in
    let new = eqb-false d 0 z.0 in
    record {
      some = n.0;
      few = n.1;
      counts = eqb-true _ _ (passed_true 1 _ f2.0);
      divisors = eqb-true _ _ (passed_true 1 _ f3.0);
      new = omega arith;
      stored = zero_none c.figures.divisors z.1;
      model = e2.0;
      limit = leb-true c.limit (2 ^ 60) (passed_true 4 _ e3.0);
      room = long-enough c.table (2 ^ c.n) (passed_false 5 _ e4.0);
    }

pub is_fit : (d : ℕ) (c : Call) → Fit d c → unfit d c ≡ 0
unfolding unfit bad_figures in_order first
is_fit d c f =
    rw (
      relation_is MOST c.n f.some f.few,
      eq-eqb _ _ f.counts,
      eq-eqb _ _ f.divisors,
      ne_eqb d 0 (omega (arith, f.new)),
      none_zero c.figures.divisors f.stored,
      f.model,
      le-leb c.limit (2 ^ 60) f.limit,
      enough-long c.table (2 ^ c.n) f.room,
    )

-- ---- names

-- What the names of an edit are.
pub record IsPair (n i j : ℕ) : Type 0 where
  pub one : is_relation n i ≡ true
  pub other : is_relation n j ≡ true
  pub two : i ≢ j

pub is_pair_lem : (n i j d : ℕ) → names (edit_pair i j d) n ≡ true → IsPair n i j
unfolding names is_pair
is_pair_lem n i j d e =
    let a = (and-eq-true_iff (is_relation n i && is_relation n j) (not (eqb i j))).0 e in
    let b = (and-eq-true_iff (is_relation n i) (is_relation n j)).0 a.0 in
    record { one = b.0; other = b.1; two = eqb-false i j (not-true (eqb i j) a.1) }

-- ---- of a request

pub record Accepted (q : Request) (c : Call) : Type 0 where
  pub fit : Fit (new_divisor q) c
  pub names : names q c.n ≡ true

pub accepted : (q : Request) (c : Call) → refusal q c ≡ 0 → Accepted q c
unfolding refusal
accepted q c e =
    let h = first_zero _ _ e in
    record { fit = fit (new_divisor q) c h.0; names = passed_true 7 _ h.1 }

pub is_accepted : (q : Request) (c : Call) → Accepted q c → refusal q c ≡ 0
unfolding refusal
is_accepted q c a = first_past _ _ (is_fit (new_divisor q) c a.fit) ∙ rw a.names

-- ---- the result, of a request that is accepted and of one that is refused

pub result-done : (q : Request) (c : Call) → refusal q c ≡ 0 → result q c ≡ worked q c
unfolding result
result-done q c e = rw (eq-eqb (refusal q c) 0 e)

pub result-refused : (q : Request) (c : Call) (k : ℕ) → refusal q c ≡ k → 0 < k → result q c ≡ untouched c k
unfolding result
result-refused q c k e h = rw (e, ne_eqb k 0 (omega arith))
