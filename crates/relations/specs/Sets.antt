-- Sets of relations as numbers (document 01, "One numbering").
use Rattle.std.specs.Prelude.{◌≡◌, ℕ, zero, suc, ◌+◌, ◌-◌, ◌/◌, ◌%◌, ◌^◌, Bool, true, false, cond, not, ◌&&◌, ◌==◌, ◌≢◌, Option, None, Some, nat_le, refl}

-- "There are n relations, 1 to 15."
abbrev pub MOST : ℕ
MOST = 15

-- "Numbered 1 to n": k is one of n relations.
unfoldable pub is_relation : ℕ → ℕ → Bool
is_relation n k = nat_le 1 k && nat_le k n

-- "Relation k has the weight 2^(k-1)." There is no relation 0: it weighs nothing.
unfoldable pub weight : ℕ → ℕ
weight zero = 0
weight (suc p) = 2 ^ p

-- Relation k is in the set S: its weight, a power of two, is one of those that S is the sum of.
unfoldable pub mem : ℕ → ℕ → Bool
mem zero S = false
mem (suc p) S = S / 2 ^ p % 2 == 1

-- "A set's number is the sum of its members' weights": the set of those of the relations 1 to n that pass a test.
unfoldable pub those : (ℕ → Bool) → ℕ → ℕ
those test zero = 0
those test (suc k) = those test k + cond (test (suc k)) (weight (suc k)) 0

-- The named values: "the empty set, the set of one relation and the set of all n. Asked for 0, or for a number above the most
-- relations allowed, they give the empty set."
abbrev pub EMPTY : ℕ
EMPTY = 0

unfoldable pub one_of : ℕ → ℕ
one_of k = cond (nat_le k MOST) (weight k) EMPTY

unfoldable pub all_of : ℕ → ℕ
all_of n = cond (nat_le n MOST) (2 ^ n - 1) EMPTY

-- Every relation of L is in S; and A and B have no relation in common.
abbrev pub Part : ℕ → ℕ → Type 0
Part L S = (k : ℕ) → mem k L ≡ true → mem k S ≡ true

abbrev pub Apart : ℕ → ℕ → Type 0
Apart A B = (k : ℕ) → mem k A ≡ true → mem k B ≢ true

-- The relations of S that are not in L. A relation's number is no more than the number of a set that holds it, so that it is enough to
-- look at the first S relations, here and for the lowest.
unfoldable pub without : ℕ → ℕ → ℕ
without S L = those (λ k. mem k S && not (mem k L)) S

-- L is inside S, as a test: L without S is empty.
unfoldable pub inside : ℕ → ℕ → Bool
inside L S = without L S == EMPTY

-- "Let r be its lowest-numbered relation": the first of 1 to k that is in S, and 0 where none is.
unfoldable pub first : ℕ → ℕ → ℕ
first zero next = next
first (suc r) next = suc r

unfoldable pub lowest_to : ℕ → ℕ → ℕ
lowest_to zero S = 0
lowest_to (suc k) S = first (lowest_to k S) (cond (mem (suc k) S) (suc k) 0)

unfoldable pub lowest : ℕ → ℕ
lowest S = lowest_to S S

-- "and V the rest". It is empty for the empty set and for a relation alone, and for no other set.
unfoldable pub rest : ℕ → ℕ
rest S = S - weight (lowest S)

-- A step over the relations of a set, the lowest first, from S with T left: it gives the lowest and leaves the rest, or there is none.
abbrev pub LowestFirst : ℕ → Option ℕ → ℕ → Type 0
LowestFirst S None T = (S ≡ EMPTY) × (T ≡ EMPTY)
LowestFirst S (Some k) T = (S ≢ EMPTY) × (k ≡ lowest S) × (T ≡ rest S)

-- "A single relation", and "a set S of two or more".
unfoldable pub single : ℕ → Bool
single S = nat_le 1 S && rest S == EMPTY

unfoldable pub larger : ℕ → Bool
larger S = nat_le 1 (rest S)

-- ---- computed: the set of relations 1, 3 and 4 is number 1 + 4 + 8

numbered : (those (λ k. mem k 13) 4 ≡ 13) × (mem 3 13 ≡ true) × (mem 2 13 ≡ false)
unfolding weight mem those
numbered = (refl, refl, refl)

named : (one_of 3 ≡ 4) × (one_of 0 ≡ 0) × (one_of 15 ≡ 16384) × (one_of 16 ≡ 0)
unfolding weight one_of
named = (refl, refl, refl, refl)

full : (all_of 3 ≡ 7) × (all_of 0 ≡ 0) × (all_of 15 ≡ 32767) × (all_of 16 ≡ 0)
unfolding all_of
full = (refl, refl, refl, refl)

held : (inside 5 13 ≡ true) × (inside 6 13 ≡ false) × (inside 0 0 ≡ true) × (without 13 6 ≡ 9)
unfolding weight mem those without inside
held = (refl, refl, refl, refl)

found : (lowest 12 ≡ 3) × (rest 12 ≡ 8) × (lowest 0 ≡ 0) × (rest 0 ≡ 0)
unfolding weight mem first lowest_to lowest rest
found = (refl, refl, refl, refl)

told : (single 8 ≡ true) × (single 12 ≡ false) × (single 0 ≡ false) × (larger 12 ≡ true) × (larger 8 ≡ false) × (larger 0 ≡ false)
unfolding weight mem first lowest_to lowest rest single larger
told = (refl, refl, refl, refl, refl, refl)
