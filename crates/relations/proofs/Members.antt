-- Members, and that numbers speak of sets as document 01 does: a set's number is the sum of its members' weights (`members_sum`), so
-- that two sets with the same members are one (`members_same`). What `&` and `|` do to members (`mem_common`, `mem-joined`) is all that
-- the laws of parts use of digits.
use Rattle.std.proofs.Common.{◌≡◌, ℕ, zero, suc, ◌+◌, ◌-◌, ◌*◌, ◌/◌, ◌%◌, ◌^◌, ◌<◌, ◌≤◌, min, max, Bool, true, false, cond, ◌&&◌, ◌||◌, eqb, sym, refl, ap, ◌∙◌, ap₂, le_of_suc-le-suc, mod-eq_of_lt, mul_comm, pow-suc, lt_of_not-le, div-one, mul-div_cancel, one-add, arith, pow_pos, pow_mono, pow-add, eq-eqb, eqb-true}
use native.Mathlib.Decide.{ℕ_discrete}
use native.Mathlib.Nat.{div-div-eq-div-mul, div-eq_of_lt, div_self, mod-one, zero-div}
use mathlib.Core.Bool.{false≢true}
use lib.Bits.{bit_and, bit_or, and_step, and_shr, or_shr, or_step}
use lib.Pow.{pow-lt, mod-pow-add}
use Rattle.relations.specs.Sets.{weight, mem, those}

-- ---- a member is a digit

pub mem_bit : (p S : ℕ) → mem (suc p) S ≡ true → S / 2 ^ p % 2 ≡ 1
unfolding mem
mem_bit p S m = eqb-true (S / 2 ^ p % 2) 1 m

pub bit_mem : (p S : ℕ) → S / 2 ^ p % 2 ≡ 1 → mem (suc p) S ≡ true
unfolding mem
bit_mem p S e = eq-eqb (S / 2 ^ p % 2) 1 e

-- Relation 1 is the last digit, and the others are those of the half.
pub mem-one : (S : ℕ) → mem 1 S ≡ eqb (S % 2) 1
unfolding mem
mem-one S = ap (λ (x : ℕ). eqb (x % 2) 1) (div-one S)

pub mem_half : (k S : ℕ) → mem (suc (suc k)) S ≡ mem (suc k) (S / 2)
unfolding mem
mem_half k S =
    ap (λ (x : ℕ). eqb (x % 2) 1)
    (ap (λ (x : ℕ). S / x) (pow-suc 2 k ∙ mul_comm (2 ^ k) 2) ∙ sym (div-div-eq-div-mul S 2 (2 ^ k)))

-- ---- which relations a set may hold

-- There is no relation 0.
pub mem_zero : (S : ℕ) → mem 0 S ≡ false
unfolding mem
mem_zero S = refl

pub mem_pos : (k S : ℕ) → mem k S ≡ true → 1 ≤ k
mem_pos zero S m = absurd (false≢true (sym (mem_zero S) ∙ m))
mem_pos (suc p) S m = omega arith

-- The empty set holds none.
pub mem-empty : (k : ℕ) → mem k 0 ≡ false
unfolding mem
mem-empty zero = refl
mem-empty (suc p) = ap (λ (x : ℕ). eqb (x % 2) 1) (zero-div (2 ^ p))

pub not_in_empty : (k : ℕ) → mem k 0 ≡ true → ⊥
not_in_empty k m = false≢true (sym (mem-empty k) ∙ m)

pub weight-le : (k S : ℕ) → mem k S ≡ true → weight k ≤ S
unfolding weight
weight-le zero S m = omega arith
weight-le (suc p) S m = le_of_suc-le-suc (lt_of_not-le (λ (q : S < 2 ^ p). omega (arith, div-eq_of_lt q, mem_bit p S m)))

pub mem-most : (k S n : ℕ) → mem k S ≡ true → S < 2 ^ n → k ≤ n
unfolding weight
mem-most zero S n m l = omega arith
mem-most (suc p) S n m l = lt_of_not-le (λ (q : n ≤ p). omega (arith, pow_mono q, weight-le (suc p) S m))

pub below_power : (S : ℕ) → S < 2 ^ S
below_power zero = omega arith
below_power (suc s) = omega (arith, below_power s)

-- A relation's number is no more than that of a set that holds it.
pub mem-le : (k S : ℕ) → mem k S ≡ true → k ≤ S
mem-le k S m = mem-most k S S m (below_power S)

-- ---- a relation's weight, and the relation alone

pub weight_pos : (k : ℕ) → 1 ≤ k → 0 < weight k
unfolding weight
weight_pos zero h = absurd (omega arith)
weight_pos (suc p) h = pow_pos p

pub mem-weight : (k : ℕ) → 1 ≤ k → mem k (weight k) ≡ true
unfolding weight
mem-weight zero h = absurd (omega arith)
mem-weight (suc p) h = bit_mem p (2 ^ p) (ap (λ (x : ℕ). x % 2) (div_self (pow_pos p)))

-- A relation alone has no other member: a lower one would be a digit of an even quotient.
pub mem-alone : (k j : ℕ) → mem k (weight j) ≡ true → k ≡ j
unfolding weight
mem-alone zero j m = absurd (omega (arith, mem_pos 0 (weight j) m))
mem-alone (suc p) zero m = absurd (not_in_empty (suc p) m)
mem-alone (suc p) (suc q) m = by (ℕ_discrete p q)
  where
    above : (r : ℕ) → q ≡ suc r + p → 2 ^ q / 2 ^ p % 2 ≡ 0
    above r e = rw (e, pow-add 2 (suc r) p, mul-div_cancel (2 ^ suc r) (pow_pos p)) (omega arith)

    by : Dec (p ≡ q) → suc p ≡ suc q
    by (yes e) = ap suc e
    by (no e) =
        let l : p ≤ q = le_of_suc-le-suc (mem-most (suc p) (2 ^ q) (suc q) m (pow-lt (omega arith))) in
        absurd (omega (arith, mem_bit p (2 ^ q) m, above (q - suc p) (omega arith)))

-- ---- "a set's number is the sum of its members' weights"

digit-weight : (d v : ℕ) → d < 2 → cond (eqb d 1) v 0 ≡ d * v
digit-weight zero v h = omega arith
digit-weight (suc zero) v h = omega arith
digit-weight (suc (suc d)) v h = absurd (omega arith)

pub members_mod : (n S : ℕ) → those (λ k. mem k S) n ≡ S % 2 ^ n
unfolding those weight mem
members_mod zero S = sym (mod-one S)
members_mod (suc n) S =
    let high : S % 2 ^ suc n ≡ S / 2 ^ n % 2 * 2 ^ n + S % 2 ^ n = ap (λ (x : ℕ). S % 2 ^ x) (sym (one-add n)) ∙ mod-pow-add S 1 n in
    omega (arith, members_mod n S, digit-weight (S / 2 ^ n % 2) (2 ^ n) (omega arith), high)

pub members_sum : (n S : ℕ) → S < 2 ^ n → those (λ k. mem k S) n ≡ S
members_sum n S h = members_mod n S ∙ mod-eq_of_lt h

pub those-same : (f g : ℕ → Bool) → ((k : ℕ) → f k ≡ g k) → (n : ℕ) → those f n ≡ those g n
unfolding those
those-same f g h zero = refl
those-same f g h (suc n) = ap₂ (λ (x : ℕ) (t : Bool). x + cond t (weight (suc n)) 0) (those-same f g h n) (h (suc n))

-- Two sets with the same members are one set.
pub members_same : (A B : ℕ) → ((k : ℕ) → mem k A ≡ mem k B) → A ≡ B
members_same A B h =
    sym (members_sum (A + B) A (omega (arith, below_power (A + B))))
    ∙ those-same (λ k. mem k A) (λ k. mem k B) h (A + B)
    ∙ members_sum (A + B) B (omega (arith, below_power (A + B)))

-- ---- code: `&` is what two sets have in common, `|` is both together

-- What holds of the four pairs of digits holds of two digits.
on_digits : (P : ℕ → ℕ → Type 0) → P 0 0 → P 0 1 → P 1 0 → P 1 1 → (a b : ℕ) → a < 2 → b < 2 → P a b
on_digits P p q r s zero zero ha hb = p
on_digits P p q r s zero (suc zero) ha hb = q
on_digits P p q r s zero (suc (suc b)) ha hb = absurd (omega arith)
on_digits P p q r s (suc zero) zero ha hb = r
on_digits P p q r s (suc zero) (suc zero) ha hb = s
on_digits P p q r s (suc zero) (suc (suc b)) ha hb = absurd (omega arith)
on_digits P p q r s (suc (suc a)) b ha hb = absurd (omega arith)

-- An operation that takes two numbers digit by digit, each pair of digits by f, takes two sets relation by relation, by the test t.
module _ (op f : ℕ → ℕ → ℕ) (t : Bool → Bool → Bool) where
  relation_wise : ((a b k : ℕ) → op a b / 2 ^ k ≡ op (a / 2 ^ k) (b / 2 ^ k)) → ((a b : ℕ) → op a b % 2 ≡ f (a % 2) (b % 2))
      → t false false ≡ false → ((a b : ℕ) → a < 2 → b < 2 → eqb (f a b) 1 ≡ t (eqb a 1) (eqb b 1))
      → (k A B : ℕ) → mem k (op A B) ≡ t (mem k A) (mem k B)
  unfolding mem
  relation_wise upper last none digits zero A B = sym none
  relation_wise upper last none digits (suc p) A B =
      ap (λ (x : ℕ). eqb (x % 2) 1) (upper A B p) ∙ ap (λ (x : ℕ). eqb x 1) (last (A / 2 ^ p) (B / 2 ^ p))
      ∙ digits (A / 2 ^ p % 2) (B / 2 ^ p % 2) (omega arith) (omega arith)

pub mem_common : (k A B : ℕ) → mem k (bit_and A B) ≡ mem k A && mem k B
mem_common =
    relation_wise bit_and min ◌&&◌ and_shr (λ a b. omega (arith, and_step a b)) refl
    (on_digits (λ a b. eqb (min a b) 1 ≡ eqb a 1 && eqb b 1) refl refl refl refl)

pub mem-joined : (k A B : ℕ) → mem k (bit_or A B) ≡ mem k A || mem k B
mem-joined =
    relation_wise bit_or max ◌||◌ or_shr (λ a b. omega (arith, or_step a b)) refl
    (on_digits (λ a b. eqb (max a b) 1 ≡ eqb a 1 || eqb b 1) refl refl refl refl)
