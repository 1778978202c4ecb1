-- What is a relation; and the named values, what `Set::one` and `Set::all` give, and what it holds. (Of a relation alone see `mem-weight` and `mem-alone`.)
use Rattle.std.proofs.Common.{◌≡◌, ℕ, zero, suc, ◌-◌, ◌^◌, ◌<◌, ◌≤◌, true, ◌&&◌, leb, ◌⊎◌, sym, refl, ap, ◌∙◌, inl, inr, arith, pow_pos, le-leb, leb-true}
use lib.Pow.{ones_lt, pow-lt}
use borrow.Author.Tests.{lt-leb}
use Rattle.numbers.proofs.Tests.{both, first_true, second_true, same_test}
use Rattle.relations.specs.Sets.{MOST, is_relation, weight, mem, those, one_of, all_of}
use Rattle.relations.proofs.Members.{mem_pos, mem-most}
use Rattle.relations.proofs.Parts.{those-has}

-- To be numbered 1 to n.
pub is_relation_lem : (n k : ℕ) → is_relation n k ≡ true → (1 ≤ k) × (k ≤ n)
unfolding is_relation
is_relation_lem n k e = (leb-true 1 k (first_true (leb 1 k) (leb k n) e), leb-true k n (second_true (leb 1 k) (leb k n) e))

pub relation_is : (n k : ℕ) → 1 ≤ k → k ≤ n → is_relation n k ≡ true
unfolding is_relation
relation_is n k h l = both (leb 1 k) (leb k n) (le-leb 1 k h) (le-leb k n l)

pub one_is : (k : ℕ) → 1 ≤ k → k ≤ MOST → one_of k ≡ 2 ^ (k - 1)
unfolding one_of weight
one_is zero h l = absurd (omega arith)
one_is (suc p) h l = let e : suc p - 1 ≡ p = omega arith in rw (le-leb (suc p) MOST l, e)

pub one_none : (k : ℕ) → (k ≡ 0) ⊎ (MOST < k) → one_of k ≡ 0
unfolding one_of weight
one_none k (inl e) = rw e
one_none k (inr l) = rw (lt-leb k MOST l)

pub all_is : (n : ℕ) → n ≤ MOST → all_of n ≡ 2 ^ n - 1
unfolding all_of
all_is n l = rw (le-leb n MOST l)

pub all_none : (n : ℕ) → MOST < n → all_of n ≡ 0
unfolding all_of
all_none n l = rw (lt-leb n MOST l)

-- The set of all n is one of the sets of relations 1 to n, and not the empty one.
pub all-some : (n : ℕ) → 1 ≤ n → n ≤ MOST → (0 < all_of n) × (all_of n < 2 ^ n)
all-some n some few =
    let h : 2 ^ 0 < 2 ^ n = pow-lt some in
    let e = all_is n few in
    (omega arith, omega arith)

-- The set of all n holds relations 1 to n.
every : (n : ℕ) → those (λ k. true) n ≡ 2 ^ n - 1
unfolding those weight
every zero = refl
every (suc n) = omega (arith, every n, pow_pos n)

pub mem-all : (k n : ℕ) → mem k (2 ^ n - 1) ≡ leb 1 k && leb k n
mem-all k n = same_test (mem k (2 ^ n - 1)) (leb 1 k && leb k n) only has
  where
    only : mem k (2 ^ n - 1) ≡ true → leb 1 k && leb k n ≡ true
    only m = both (leb 1 k) (leb k n) (le-leb 1 k (mem_pos k (2 ^ n - 1) m)) (le-leb k n (mem-most k (2 ^ n - 1) n m (ones_lt n)))

    has : leb 1 k && leb k n ≡ true → mem k (2 ^ n - 1) ≡ true
    has e =
        let low : 1 ≤ k = leb-true 1 k (first_true (leb 1 k) (leb k n) e) in
        let high : k ≤ n = leb-true k n (second_true (leb 1 k) (leb k n) e) in
        ap (mem k) (sym (every n)) ∙ those-has (λ j. true) n k low high refl
