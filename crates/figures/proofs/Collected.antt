-- Entries that were collected: what is found among them does not depend on their order.
use Prim.Native.Nat.{ℕ, zero, suc, ◌≤◌}
use native.Mathlib.Omega.{arith}
use mathlib.Core.Bool.{Bool, true, false, cond, not, ◌&&◌}
use mathlib.Core.List.{List, [], ◌∷◌, ◌++◌, reverse_aux}
use mathlib.Core.Path.{◌≡◌, refl, ap}
use lib.Dec.{eqb, leb}
use borrow.Author.Tests.{eqb-true, eqb-false, eq-eqb, ne_eqb, leb-true, le-leb, not-true}
use Rattle.numbers.proofs.Tests.{both, first_true, second_true, neither}
use Rattle.relations.specs.Pairs.{place}
use Rattle.relations.specs.Sets.{is_relation}
use Rattle.relations.proofs.Named.{is_relation_lem, relation_is}
use Rattle.figures.specs.Entries.{Entry, entry, in_triangle, is_at, is_pair_at, given, all_counted, value_of}

-- ---- one

-- Where it stands,
pub at_is : (i j : ℕ) (e : Entry) → is_at i j e ≡ true → (e.row ≡ i) × (e.column ≡ j)
unfolding is_at
at_is i j e h =
    let r : Bool = eqb e.row i in
    let c : Bool = eqb e.column j in
    (eqb-true e.row i (first_true r c h), eqb-true e.column j (second_true r c h))

pub is_at_lem : (i j : ℕ) (e : Entry) → e.row ≡ i → e.column ≡ j → is_at i j e ≡ true
unfolding is_at
is_at_lem i j e p q = both (eqb e.row i) (eqb e.column j) (eq-eqb e.row i p) (eq-eqb e.column j q)

-- and of which pair it is the divisor.
pub pair_at_is : (p : ℕ) (e : Entry) → is_pair_at p e ≡ true → (e.row ≡ e.column → ⊥) × (place e.row e.column ≡ p)
unfolding is_pair_at
pair_at_is p e h =
    let d : Bool = eqb e.row e.column in
    let s : Bool = eqb (place e.row e.column) p in
    (eqb-false e.row e.column (not-true d (first_true (not d) s h)), eqb-true (place e.row e.column) p (second_true (not d) s h))

pub is_pair_at_lem : (p i j v : ℕ) → (i ≡ j → ⊥) → place i j ≡ p → is_pair_at p (entry i j v) ≡ true
unfolding is_pair_at
is_pair_at_lem p i j v h e = both (not (eqb i j)) (eqb (place i j) p) (ap not (ne_eqb i j h)) (eq-eqb (place i j) p e)

-- A place of the lower triangle.
pub triangle : (n i j : ℕ) → in_triangle n i j ≡ true → (1 ≤ j) × (j ≤ i) × (i ≤ n)
unfolding in_triangle
triangle n i j h =
    let t = first_true (is_relation n i && is_relation n j) (leb j i) h in
    let a = is_relation_lem n i (first_true (is_relation n i) (is_relation n j) t) in
    let b = is_relation_lem n j (second_true (is_relation n i) (is_relation n j) t) in
    (b.0, leb-true j i (second_true (is_relation n i && is_relation n j) (leb j i) h), a.1)

pub triangle_is : (n i j : ℕ) → 1 ≤ j → j ≤ i → i ≤ n → in_triangle n i j ≡ true
unfolding in_triangle
triangle_is n i j a b c =
    both (is_relation n i && is_relation n j) (leb j i)
    (both (is_relation n i) (is_relation n j) (relation_is n i (omega arith) c) (relation_is n j a (omega arith)))
    (le-leb j i b)

-- ---- every one

-- P holds of every entry.
abbrev pub All : (Entry → Type 0) → List Entry → Type 0
All P [] = Unit {0}
All P (e ∷ es) = P e × All P es

-- It holds of all entries of two lists, if it does of those of each,
pub all_both : (P : Entry → Type 0) (xs ys : List Entry) → All P xs → All P ys → All P (xs ++ ys)
all_both P [] ys g h = h
all_both P (x ∷ xs) ys g h = (g.0, all_both P xs ys g.1 h)

-- and only then;
pub all_first : (P : Entry → Type 0) (xs ys : List Entry) → All P (xs ++ ys) → All P xs
all_first P [] ys h = tt
all_first P (x ∷ xs) ys h = (h.0, all_first P xs ys h.1)

pub all-second : (P : Entry → Type 0) (xs ys : List Entry) → All P (xs ++ ys) → All P ys
all-second P [] ys h = h
all-second P (x ∷ xs) ys h = all-second P xs ys h.1

-- of those in the other order, if it does of those in this,
pub all-turned : (P : Entry → Type 0) (xs ys : List Entry) → All P xs → All P ys → All P (reverse_aux xs ys)
all-turned P [] ys g h = h
all-turned P (x ∷ xs) ys g h = all-turned P xs (x ∷ ys) g.1 (g.0, h)

-- and only then.
pub turned-all : (P : Entry → Type 0) (xs ys : List Entry) → All P (reverse_aux xs ys) → All P xs × All P ys
turned-all P [] ys h = (tt, h)
turned-all P (x ∷ xs) ys h = let r = turned-all P xs (x ∷ ys) h in ((r.1.0, r.0), r.1.1)

-- What follows from P for each entry holds of all of which P does.
pub all_same : (P Q : Entry → Type 0) (es : List Entry) → ((e : Entry) → P e → Q e) → All P es → All Q es
all_same P Q [] f h = tt
all_same P Q (e ∷ es) f h = (f e h.0, all_same P Q es f h.1)

-- ---- what a test finds

-- A test that no entry passes.
abbrev pub NoneFor : (Entry → Bool) → List Entry → Type 0
NoneFor test = All (λ e. test e ≡ false)

-- The value found is v, if it is that of each entry that passes, and that of an absent one where none does.
pub value_found : (test : Entry → Bool) (absent v : ℕ) (es : List Entry)
    → All (λ e. test e ≡ true → e.value ≡ v) es → (NoneFor test es → absent ≡ v) → value_of test absent es ≡ v
unfolding value_of
value_found test absent v [] g h = h tt
value_found test absent v (e ∷ es) g h = by (test e) refl (λ k. value_found test absent v es g.1 k)
  where
    by : (b : Bool) → test e ≡ b → ((NoneFor test es → absent ≡ v) → value_of test absent es ≡ v)
        → cond (test e) e.value (value_of test absent es) ≡ v
    by true t rest = rw t (g.0 t)
    by false t rest = rw t (rest (λ n. h (t, n)))

-- Nothing is given at (i, j) where no entry stands, and only there.
given-none : (i j : ℕ) (es : List Entry) → given i j es ≡ false → NoneFor (is_at i j) es
unfolding given
given-none i j [] h = tt
given-none i j (e ∷ es) h = let n = neither (is_at i j e) (given i j es) h in (n.0, given-none i j es n.1)

pub none-given : (i j : ℕ) (es : List Entry) → NoneFor (is_at i j) es → given i j es ≡ false
unfolding given
none-given i j [] h = refl
none-given i j (e ∷ es) h = rw (h.0, none-given i j es h.1)

-- All are counted, if none of 1 to n lacks its entry.
pub all_counted_lem : (n : ℕ) (es : List Entry) → ((k : ℕ) → 1 ≤ k → k ≤ n → NoneFor (is_at k k) es → ⊥) → all_counted n es ≡ true
unfolding all_counted
all_counted_lem zero es h = refl
all_counted_lem (suc n) es h =
    both (given (suc n) (suc n) es) (all_counted n es) (by (given (suc n) (suc n) es) refl) (all_counted_lem n es (λ k l m. h k l (omega arith)))
  where
    by : (b : Bool) → given (suc n) (suc n) es ≡ b → b ≡ true
    by true t = refl
    by false t = absurd (h (suc n) (omega arith) (omega arith) (given-none (suc n) (suc n) es t))
