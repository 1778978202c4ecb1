-- How many sets an edit touches: of the 2^n sets of n relations half hold the changed relation (`count-touches`), and a quarter both
-- relations of the pair (`pair_touches`).
use Rattle.std.proofs.Common.{◌≡◌, ℕ, zero, suc, ◌+◌, ◌-◌, ◌^◌, ◌<◌, ◌≤◌, Bool, true, false, cond, ◌&&◌, ◌||◌, sym, refl, ap, ◌∙◌, ap₂, arith}
use native.Mathlib.Decide.{le_ind, dec_lt}
use mathlib.Core.Bool.{and_comm, and-false, and-true}
use Rattle.relations.proofs.Named.{is_relation_lem}
use Rattle.numbers.proofs.Tests.{is_false}
use Rattle.relations.specs.Sets.{weight, mem, Apart, is_relation}
use Rattle.relations.proofs.Members.{mem-most, mem-weight, mem-alone}
use Rattle.relations.proofs.Parts.{mem-sum, apart-part}
use Rattle.table.specs.Requests.{edit_count, edit_pair, touches, names}
use Rattle.table.proofs.Refusals.{IsPair, is_pair_lem}

-- How many numbers below k pass a test.
unfoldable pub count_to : (ℕ → Bool) → ℕ → ℕ
count_to test zero = 0
count_to test (suc k) = count_to test k + cond (test k) 1 0

-- ---- counting

-- It goes by the test below k alone.
count_ext : (f g : ℕ → Bool) (k : ℕ) → ((S : ℕ) → S < k → f S ≡ g S) → count_to f k ≡ count_to g k
unfolding count_to
count_ext f g zero h = refl
count_ext f g (suc k) h =
    ap₂ (λ (x : ℕ) (t : Bool). x + cond t 1 0) (count_ext f g k (λ S l. h S (omega arith))) (h k (omega arith))

-- A test that all pass, or none.
count-all : (k : ℕ) → count_to (λ S. true) k ≡ k
unfolding count_to
count-all zero = refl
count-all (suc k) = omega (arith, count-all k)

count_none : (k : ℕ) → count_to (λ S. false) k ≡ 0
unfolding count_to
count_none zero = refl
count_none (suc k) = omega (arith, count_none k)

-- Those below a, and those from there on.
count_add : (f : ℕ → Bool) (a b : ℕ) → count_to f (a + b) ≡ count_to f a + count_to (λ S. f (a + S)) b
unfolding count_to
count_add f a zero = let e : a + 0 ≡ a = omega arith in omega (arith, ap (count_to f) e)
count_add f a (suc b) = let e : a + suc b ≡ suc (a + b) = omega arith in omega (arith, ap (count_to f) e, count_add f a b)

-- The sets of m + 1 relations: those without relation m + 1, and the same with it.
count-halves : (f : ℕ → Bool) (m : ℕ) → count_to f (2 ^ suc m) ≡ count_to f (2 ^ m) + count_to (λ S. f (2 ^ m + S)) (2 ^ m)
count-halves f m = let e : 2 ^ suc m ≡ 2 ^ m + 2 ^ m = omega arith in ap (count_to f) e ∙ count_add f (2 ^ m) (2 ^ m)

-- ---- the members of a set with one relation more

module _ (m S : ℕ) (l : S < 2 ^ m) where
  -- Relation m + 1 is in no set of relations 1 to m.
  further : Apart (weight (suc m)) S
  further k a b = omega (arith, mem-alone k (suc m) a, mem-most k S m b l)

  without-further : mem (suc m) S ≡ false
  without-further = is_false (mem (suc m) S) (further (suc m) (mem-weight (suc m) (omega arith)))

  with_further : mem (suc m) (2 ^ m + S) ≡ true
  unfolding weight
  with_further = apart-part (weight (suc m)) S further (suc m) (mem-weight (suc m) (omega arith))

  -- The others are as they were.
  with_others : (k : ℕ) → k ≤ m → mem k (2 ^ m + S) ≡ mem k S
  unfolding weight
  with_others k h =
      mem-sum k (weight (suc m)) S further
      ∙ ap (λ (t : Bool). t || mem k S) (is_false (mem k (weight (suc m))) (λ a. omega (arith, mem-alone k (suc m) a)))

-- ---- the sets that hold a relation

-- A test that goes by relations 1 to p alone.
abbrev By : ℕ → (ℕ → Bool) → Type 0
By p f = (m S : ℕ) → p ≤ m → S < 2 ^ m → f (2 ^ m + S) ≡ f S

by-mem : (p k : ℕ) → k ≤ p → By p (mem k)
by-mem p k h m S g l = with_others m S l k (omega arith)

by_both : (p : ℕ) (f g : ℕ → Bool) → By p f → By p g → By p (λ S. f S && g S)
by_both p f g a b m S h l = ap₂ ◌&&◌ (a m S h l) (b m S h l)

-- With each further relation twice as many sets pass it.
count-double : (f : ℕ → Bool) (b e : ℕ) → By b f → count_to f (2 ^ b) ≡ 2 ^ e → (n : ℕ) → b ≤ n → count_to f (2 ^ n) ≡ 2 ^ (n - b + e)
count-double f b e h start = le_ind (λ (n : ℕ). count_to f (2 ^ n) ≡ 2 ^ (n - b + e)) first step
  where
    first : count_to f (2 ^ b) ≡ 2 ^ (b - b + e)
    first = let z : b - b + e ≡ e = omega arith in start ∙ ap (λ (x : ℕ). 2 ^ x) (sym z)

    step : (m : ℕ) → b ≤ m → count_to f (2 ^ m) ≡ 2 ^ (m - b + e) → count_to f (2 ^ suc m) ≡ 2 ^ (suc m - b + e)
    step m l ih =
        let z : suc m - b + e ≡ suc (m - b + e) = omega arith in
        let again : count_to (λ S. f (2 ^ m + S)) (2 ^ m) ≡ count_to f (2 ^ m) = count_ext (λ S. f (2 ^ m + S)) f (2 ^ m) (λ S. h m S l) in
        rw z (omega (arith, count-halves f m, again, ih))

-- Of a test by relations 1 to p and of relation p + 1: it is passed by as many sets with relation p + 1 as pass the test without it.
count_with : (g : ℕ → Bool) (p e n : ℕ) → By p g → count_to g (2 ^ p) ≡ 2 ^ e → p < n
    → count_to (λ S. g S && mem (suc p) S) (2 ^ n) ≡ 2 ^ (n - suc p + e)
count_with g p e n h start =
    count-double f (suc p) e
    (by_both (suc p) g (mem (suc p)) (λ m S l. h m S (omega arith)) (by-mem (suc p) (suc p) (omega arith)))
    (omega (arith, count-halves f p, low, high)) n
  where
    f : ℕ → Bool
    f S = g S && mem (suc p) S

    low : count_to f (2 ^ p) ≡ 0
    low =
        count_ext f (λ S. false) (2 ^ p) (λ S l. ap (λ (t : Bool). g S && t) (without-further p S l) ∙ and-false (g S))
        ∙ count_none (2 ^ p)

    high : count_to (λ S. f (2 ^ p + S)) (2 ^ p) ≡ 2 ^ e
    high =
        count_ext (λ S. f (2 ^ p + S)) g (2 ^ p)
        (λ S l. ap₂ ◌&&◌ (h p S (omega arith) l) (with_further p S l) ∙ and-true (g S))
        ∙ start

count-mem : (n k : ℕ) → 1 ≤ k → k ≤ n → count_to (mem k) (2 ^ n) ≡ 2 ^ (n - 1)
count-mem n zero h l = absurd (omega arith)
count-mem n (suc p) h l =
    let e : n - suc p + p ≡ n - 1 = omega arith in
    count_with (λ S. true) p p n (λ m S _ _. refl) (count-all (2 ^ p)) l ∙ ap (λ (x : ℕ). 2 ^ x) e

count_pair : (n i j : ℕ) → 1 ≤ i → i < j → j ≤ n → count_to (λ S. mem i S && mem j S) (2 ^ n) ≡ 2 ^ (n - 2)
count_pair n i zero h g l = absurd (omega arith)
count_pair n i (suc p) h g l =
    let e : n - suc p + (p - 1) ≡ n - 2 = omega arith in
    count_with (mem i) p (p - 1) n (by-mem p i (omega arith)) (count-mem p i h (omega arith)) l ∙ ap (λ (x : ℕ). 2 ^ x) e

-- ---- the sets that an edit touches

pub count-touches : (n k c : ℕ) → is_relation n k ≡ true → count_to (touches (edit_count k c)) (2 ^ n) ≡ 2 ^ (n - 1)
unfolding touches
count-touches n k c e = let r = is_relation_lem n k e in count-mem n k r.0 r.1

pub pair_touches : (n i j d : ℕ) → names (edit_pair i j d) n ≡ true → count_to (touches (edit_pair i j d)) (2 ^ n) ≡ 2 ^ (n - 2)
unfolding touches
pair_touches n i j d e = by (dec_lt i j)
  where
    p : IsPair n i j
    p = is_pair_lem n i j d e

    a : (1 ≤ i) × (i ≤ n)
    a = is_relation_lem n i p.one

    b : (1 ≤ j) × (j ≤ n)
    b = is_relation_lem n j p.other

    by : Dec (i < j) → count_to (λ S. mem i S && mem j S) (2 ^ n) ≡ 2 ^ (n - 2)
    by (yes l) = count_pair n i j a.0 l b.1
    by (no l) =
        count_ext (λ S. mem i S && mem j S) (λ S. mem j S && mem i S) (2 ^ n) (λ S _. and_comm (mem i S) (mem j S))
        ∙ count_pair n j i b.0 (omega (arith, p.two)) a.1
