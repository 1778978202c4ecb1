-- Parts of a set, sets apart, sums and differences. A part has no larger number (`part-le`); the other part of a split is what is
-- left, inside the set (`part-other`), apart from the first (`part_apart`) and together with it the set (`mem-other`).
use Rattle.std.proofs.Common.{◌≡◌, ℕ, zero, suc, ◌+◌, ◌-◌, ◌/◌, ◌%◌, ◌^◌, ◌<◌, ◌≤◌, Bool, true, false, cond, not, ◌&&◌, ◌||◌, eqb, ◌⊎◌, sym, refl, ap, ◌∙◌, subst, ap₂, inl, inr, arith, eq-eqb, eqb-true}
use native.Mathlib.Decide.{ℕ_discrete}
use mathlib.Core.Bool.{or-true, false≢true}
use lib.Bits.{bit_and, and_le_r, or_disjoint}
use borrow.Author.Tests.{not-true}
use Rattle.relations.specs.Sets.{weight, mem, those, Part, Apart, without, inside}
use Rattle.numbers.proofs.Tests.{both, first_true, second_true, is_false, same_test}
use Rattle.relations.proofs.Members.{mem_pos, mem-one, mem_half, mem-empty, not_in_empty, mem-most, mem-le, mem-weight, mem-alone, members_same, those-same, mem_common, mem-joined}

-- ---- the order of parts

pub part_none : (S : ℕ) → Part 0 S
part_none S k m = absurd (not_in_empty k m)

pub part_self : (S : ℕ) → Part S S
part_self S k m = m

pub part_trans : (A B C : ℕ) → Part A B → Part B C → Part A C
part_trans A B C h g k m = g k (h k m)

pub part_antisym : (A B : ℕ) → Part A B → Part B A → A ≡ B
part_antisym A B h g = members_same A B (λ k. same_test (mem k A) (mem k B) (h k) (g k))

-- What two sets have in common is inside each, and is the whole of a part.
pub common_part : (A B : ℕ) → Part (bit_and A B) A
common_part A B k m = first_true (mem k A) (mem k B) (sym (mem_common k A B) ∙ m)

pub part_common : (L S : ℕ) → Part L S → bit_and L S ≡ L
part_common L S h = part_antisym (bit_and L S) L (common_part L S) (λ k m. mem_common k L S ∙ both (mem k L) (mem k S) m (h k m))

-- A part has a smaller or equal number.
pub part-le : (L S : ℕ) → Part L S → L ≤ S
part-le L S h = omega (arith, and_le_r L S, part_common L S h)

pub weight-part : (k S : ℕ) → mem k S ≡ true → Part (weight k) S
weight-part k S m j n = subst (λ (x : ℕ). mem x S ≡ true) (sym (mem-alone j k n)) m

-- ---- sets apart, and their sum

apart_common : (A B : ℕ) → Apart A B → bit_and A B ≡ 0
apart_common A B h = members_same (bit_and A B) 0 (λ k. mem_common k A B ∙ is_false (mem k A && mem k B) (none k) ∙ sym (mem-empty k))
  where
    none : (k : ℕ) → mem k A && mem k B ≡ true → ⊥
    none k m = h k (first_true (mem k A) (mem k B) m) (second_true (mem k A) (mem k B) m)

-- Two sets apart make up their sum.
pub mem-sum : (k A B : ℕ) → Apart A B → mem k (A + B) ≡ mem k A || mem k B
mem-sum k A B h = ap (mem k) (sym (or_disjoint A B (apart_common A B h))) ∙ mem-joined k A B

pub in_sum : (k A B : ℕ) → Apart A B → mem k (A + B) ≡ true → (mem k A ≡ true) ⊎ (mem k B ≡ true)
in_sum k A B h m = by (mem k A) (mem k B) (sym (mem-sum k A B h) ∙ m)
  where
    by : (a b : Bool) → a || b ≡ true → (a ≡ true) ⊎ (b ≡ true)
    by true b e = inl refl
    by false b e = inr e

pub apart-part : (A B : ℕ) → Apart A B → Part A (A + B)
apart-part A B h k m = mem-sum k A B h ∙ ap (λ (t : Bool). t || mem k B) m

-- ---- the set of those that pass a test

those-below : (f : ℕ → Bool) (n : ℕ) → those f n < 2 ^ n
unfolding those weight
those-below f zero = omega arith
those-below f (suc n) = by (f (suc n)) (those-below f n)
  where
    by : (t : Bool) → those f n < 2 ^ n → those f n + cond t (2 ^ n) 0 < 2 ^ suc n
    by true h = omega arith
    by false h = omega arith

-- What a further relation adds.
added : (t : Bool) (n k : ℕ) → mem k (cond t (weight (suc n)) 0) ≡ true → (k ≡ suc n) × (t ≡ true)
added true n k m = (mem-alone k (suc n) m, refl)
added false n k m = absurd (not_in_empty k m)

those-apart : (f : ℕ → Bool) (n : ℕ) → Apart (those f n) (cond (f (suc n)) (weight (suc n)) 0)
those-apart f n k a b = omega (arith, mem-most k (those f n) n a (those-below f n), (added (f (suc n)) n k b).0)

pub those-only : (f : ℕ → Bool) (n k : ℕ) → mem k (those f n) ≡ true → (k ≤ n) × (f k ≡ true)
unfolding those
those-only f zero k m = absurd (not_in_empty k m)
those-only f (suc n) k m = by (those-only f n k) (in_sum k (those f n) (cond (f (suc n)) (weight (suc n)) 0) (those-apart f n) m)
  where
    by : (mem k (those f n) ≡ true → (k ≤ n) × (f k ≡ true)) → (mem k (those f n) ≡ true) ⊎ (mem k (cond (f (suc n)) (weight (suc n)) 0) ≡ true)
        → (k ≤ suc n) × (f k ≡ true)
    by ih (inl a) = let r = ih a in (omega (arith, r.0), r.1)
    by ih (inr b) = let r = added (f (suc n)) n k b in (omega (arith, r.0), ap f r.0 ∙ r.1)

pub those-has : (f : ℕ → Bool) (n k : ℕ) → 1 ≤ k → k ≤ n → f k ≡ true → mem k (those f n) ≡ true
unfolding those
those-has f zero k h l e = absurd (omega arith)
those-has f (suc n) k h l e = by (ℕ_discrete k (suc n)) (those-has f n k h)
  where
    B : ℕ
    B = cond (f (suc n)) (weight (suc n)) 0

    by : Dec (k ≡ suc n) → (k ≤ n → f k ≡ true → mem k (those f n) ≡ true) → mem k (those f n + B) ≡ true
    by (yes q) ih =
        let t : f (suc n) ≡ true = ap f (sym q) ∙ e in
        let b : mem k B ≡ true = ap₂ (λ (x : ℕ) (t : Bool). mem x (cond t (weight (suc n)) 0)) q t ∙ mem-weight (suc n) (omega arith) in
        mem-sum k (those f n) B (those-apart f n) ∙ ap (λ (t : Bool). mem k (those f n) || t) b ∙ or-true (mem k (those f n))
    by (no q) ih = apart-part (those f n) B (those-apart f n) k (ih (omega arith) e)

-- ---- the difference

pub mem-without : (k S L : ℕ) → mem k (without S L) ≡ mem k S && not (mem k L)
unfolding without
mem-without k S L =
    same_test (mem k (without S L)) (mem k S && not (mem k L)) (λ m. (those-only (λ j. mem j S && not (mem j L)) S k m).1)
    (λ m.
    let a : mem k S ≡ true = first_true (mem k S) (not (mem k L)) m in
    those-has (λ j. mem j S && not (mem j L)) S k (mem_pos k S a) (mem-le k S a) m)

without-apart : (S L : ℕ) → Apart (without S L) L
without-apart S L k m l =
    let n : mem k L ≡ false = not-true (mem k L) (second_true (mem k S) (not (mem k L)) (sym (mem-without k S L) ∙ m)) in
    false≢true (sym n ∙ l)

-- Of a part, the difference is the other part.
without-sum : (S L : ℕ) → Part L S → without S L + L ≡ S
without-sum S L h = members_same (without S L + L) S same
  where
    by : (s l : Bool) → (l ≡ true → s ≡ true) → s && not l || l ≡ s
    by true true f = refl
    by true false f = refl
    by false true f = sym (f refl)
    by false false f = refl

    same : (k : ℕ) → mem k (without S L + L) ≡ mem k S
    same k =
        mem-sum k (without S L) L (without-apart S L) ∙ ap (λ (t : Bool). t || mem k L) (mem-without k S L)
        ∙ by (mem k S) (mem k L) (h k)

pub without-part : (S L : ℕ) → Part L S → without S L ≡ S - L
without-part S L h = omega (arith, without-sum S L h)

-- The other part of a split.
pub mem-other : (k S L : ℕ) → Part L S → mem k (S - L) ≡ mem k S && not (mem k L)
mem-other k S L h = ap (mem k) (sym (without-part S L h)) ∙ mem-without k S L

pub part-other : (L S : ℕ) → Part L S → Part (S - L) S
part-other L S h k m = first_true (mem k S) (not (mem k L)) (sym (mem-other k S L h) ∙ m)

pub part_apart : (L S : ℕ) → Part L S → Apart L (S - L)
part_apart L S h k l m = without-apart S L k (ap (mem k) (without-part S L h) ∙ m) l

-- Code: less what the two have in common.
pub without_common : (S L : ℕ) → S - bit_and S L ≡ without S L
unfolding without
without_common S L =
    sym (without-part S (bit_and S L) (common_part S L))
    ∙ those-same (λ k. mem k S && not (mem k (bit_and S L))) (λ k. mem k S && not (mem k L)) same S
  where
    by : (s l : Bool) → s && not (s && l) ≡ s && not l
    by true l = refl
    by false l = refl

    same : (k : ℕ) → mem k S && not (mem k (bit_and S L)) ≡ mem k S && not (mem k L)
    same k = ap (λ (t : Bool). mem k S && not t) (mem_common k S L) ∙ by (mem k S) (mem k L)

-- ---- the test

pub inside-part : (L S : ℕ) → inside L S ≡ true → Part L S
unfolding inside
inside-part L S e k m = by (mem k S) refl
  where
    by : (t : Bool) → mem k S ≡ t → mem k S ≡ true
    by true q = q
    by false q =
        let out : mem k (without L S) ≡ true = mem-without k L S ∙ ap₂ (λ (a b : Bool). a && not b) m q in
        absurd (not_in_empty k (ap (mem k) (sym (eqb-true (without L S) 0 e)) ∙ out))

pub part-inside : (L S : ℕ) → Part L S → inside L S ≡ true
unfolding inside
part-inside L S h = eq-eqb (without L S) 0 (members_same (without L S) 0 none)
  where
    by : (l s : Bool) → (l ≡ true → s ≡ true) → l && not s ≡ false
    by true s f = ap not (f refl)
    by false s f = refl

    none : (k : ℕ) → mem k (without L S) ≡ mem k 0
    none k = mem-without k L S ∙ by (mem k L) (mem k S) (h k) ∙ sym (mem-empty k)

-- Code: what they have in common is the part.
pub inside_common : (L S : ℕ) → eqb (bit_and L S) L ≡ inside L S
inside_common L S =
    same_test (eqb (bit_and L S) L) (inside L S) (λ e. part-inside L S (of_common (eqb-true (bit_and L S) L e)))
    (λ e. eq-eqb (bit_and L S) L (part_common L S (inside-part L S e)))
  where
    of_common : bit_and L S ≡ L → Part L S
    of_common e k m = second_true (mem k L) (mem k S) (sym (mem_common k L S) ∙ ap (mem k) e ∙ m)

-- A set holds relation k where it holds the set of k alone.
pub inside-weight : (k S : ℕ) → 1 ≤ k → inside (weight k) S ≡ mem k S
inside-weight k S h =
    same_test (inside (weight k) S) (mem k S) (λ e. inside-part (weight k) S e k (mem-weight k h))
    (λ m. part-inside (weight k) S (weight-part k S m))

-- ---- by halves, as the step goes

pub part-halves : (L S : ℕ) → Part L S → Part (L / 2) (S / 2) × (L % 2 ≤ S % 2)
part-halves L S h = (upper, last (ℕ_discrete (L % 2) 1))
  where
    upper : Part (L / 2) (S / 2)
    upper zero m = absurd (omega (arith, mem_pos 0 (L / 2) m))
    upper (suc k) m = sym (mem_half k S) ∙ h (suc (suc k)) (mem_half k L ∙ m)

    last : Dec (L % 2 ≡ 1) → L % 2 ≤ S % 2
    last (yes e) = omega (arith, eqb-true (S % 2) 1 (sym (mem-one S) ∙ h 1 (mem-one L ∙ eq-eqb (L % 2) 1 e)))
    last (no e) = omega arith

pub halves-part : (L S : ℕ) → Part (L / 2) (S / 2) → L % 2 ≤ S % 2 → Part L S
halves-part L S h d zero m = absurd (omega (arith, mem_pos 0 L m))
halves-part L S h d (suc zero) m = mem-one S ∙ eq-eqb (S % 2) 1 (omega (arith, eqb-true (L % 2) 1 (sym (mem-one L) ∙ m)))
halves-part L S h d (suc (suc k)) m = mem_half k S ∙ h (suc k) (sym (mem_half k L) ∙ m)
