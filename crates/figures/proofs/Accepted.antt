-- What the judge accepts are figures as document 01 has them (`Proper`): 1 to 15 relations, counts that may be 0, divisors that may not, and
-- 0 past them.
use Prim.Native.Nat.{ℕ, zero, suc, ◌+◌, ◌-◌, ◌*◌, ◌/◌, ◌≤◌, ◌<◌}
use native.Mathlib.Decide.{dec_lt}
use native.Mathlib.Omega.{arith}
use mathlib.Core.Bool.{Bool, true, false, cond, not, ◌||◌}
use mathlib.Core.List.{List, [], ◌∷◌}
use mathlib.Core.Path.{◌≡◌, refl, ◌∙◌}
use lib.Dec.{eqb, ltb}
use lib.ListN.{length, get_or, get_or-eq_default}
use borrow.Author.Tests.{eqb-false, ne_eqb, ltb-false, lt-ltb, le-ltb, not-false}
use Rattle.numbers.proofs.Tests.{neither}
use Rattle.relations.specs.Sets.{MOST, is_relation}
use Rattle.relations.proofs.Named.{is_relation_lem}
use Rattle.figures.specs.Lines.{FEED, split, Numbers, three, none, numbers_of}
use Rattle.figures.specs.Entries.{Entry, zero_divisor, is_at, is_pair_at, all_counted, value_of, count_at, divisor_at, listed, figures_of}
use Rattle.figures.specs.Judge.{Result, number_of, LARGEST, faulty, on_line, too_large, with_numbers, is_end, entry_lines, size_line, is_comment, comments, HEADING, first_line, judged}
use Rattle.figures.specs.Written.{Proper}
use Rattle.figures.specs.declared.Refusal.{Refusal}
use Rattle.figures.specs.declared.Refusal.TheVariants.{Relations, Unequal, ZeroDivisor, Shape, NoCount, Twice, Outside, TooLarge}
use Rattle.numbers.specs.Texts.{same_list}
use Rattle.figures.proofs.Listed.{listed-length, listed_at}
use Rattle.figures.proofs.Collected.{All, all_same, pair_at_is}
use Rattle.figures.proofs.Stored.{pairs-most}
use Rattle.figures.proofs.Reordered.{no_fault, says-next, said}

-- ---- the entries

-- What every entry that was read keeps to.
record Kept (e : Entry) : Type 0 where
  small : e.value ≤ LARGEST
  divides : zero_divisor e ≡ false

small-value : (a b c : ℕ) → too_large a b c ≡ false → c ≤ LARGEST
unfolding too_large
small-value a b c h =
    let ab : Bool = ltb LARGEST a || ltb LARGEST b in
    ltb-false LARGEST c (neither ab (ltb LARGEST c) h).1

-- A divisor is not 0.
divides_pair : (p : ℕ) (e : Entry) → zero_divisor e ≡ false → is_pair_at p e ≡ true → 1 ≤ e.value
unfolding zero_divisor
divides_pair p e h t =
    let z : eqb e.value 0 ≡ false = rw (ne_eqb e.row e.column (pair_at_is p e t).0) at h in
    omega (arith, eqb-false e.value 0 z)

-- What holds of every value that a test finds, and of what an absent one means, holds of the value found.
value-has : (P : ℕ → Type 0) (test : Entry → Bool) (absent : ℕ) (es : List Entry)
    → P absent → All (λ e. test e ≡ true → P e.value) es → P (value_of test absent es)
unfolding value_of
value-has P test absent [] a h = a
value-has P test absent (e ∷ es) a h = by (test e) refl (value-has P test absent es a h.1)
  where
    by : (b : Bool) → test e ≡ b → P (value_of test absent es) → P (cond b e.value (value_of test absent es))
    by true t more = h.0 t
    by false t more = more

-- ---- the figures that they say

-- A list by places is 0 past what it lists.
listed_past : (k : ℕ) (f : ℕ → ℕ) (p : ℕ) → (p < k → f p ≡ 0) → get_or (listed k f) p 0 ≡ 0
listed_past k f p h = by (dec_lt p k)
  where
    by : Dec (p < k) → get_or (listed k f) p 0 ≡ 0
    by (yes l) = listed_at k f p l ∙ h l
    by (no l) = get_or-eq_default (listed k f) 0 (omega (arith, listed-length k f))

module _ (n : ℕ) (es : List Entry) (r : is_relation MOST n ≡ true) (ok : All Kept es) where
  few : n ≤ 15
  few = (is_relation_lem MOST n r).1

  pairs-few : n * (n - 1) / 2 ≤ 105
  pairs-few = pairs-most n few

  counted : (p : ℕ) → p < n → get_or (figures_of n es).counts p 0 ≤ LARGEST
  unfolding figures_of count_at
  counted p l =
      rw (listed_at MOST (count_at n es) p (omega (arith, few)), lt-ltb p n l)
      (value-has (λ v. v ≤ LARGEST) (is_at (suc p) (suc p)) 0 es (omega arith) (all_same Kept _ es (λ e k _. k.small) ok))

  uncounted : (p : ℕ) → n ≤ p → get_or (figures_of n es).counts p 0 ≡ 0
  unfolding figures_of count_at
  uncounted p l = listed_past MOST (count_at n es) p (λ _. rw (le-ltb p n l))

  divided : (p : ℕ) → p < n * (n - 1) / 2 → (1 ≤ get_or (figures_of n es).divisors p 0) × (get_or (figures_of n es).divisors p 0 ≤ LARGEST)
  unfolding figures_of divisor_at
  divided p l =
      rw (listed_at 105 (divisor_at n es) p (omega (arith, pairs-few)), lt-ltb p (n * (n - 1) / 2) l)
      (value-has (λ v. (1 ≤ v) × (v ≤ LARGEST)) (is_pair_at p) 1 es (omega arith, omega arith)
      (all_same Kept _ es (λ e k t. (divides_pair p e k.divides t, k.small)) ok))

  undivided : (p : ℕ) → n * (n - 1) / 2 ≤ p → get_or (figures_of n es).divisors p 0 ≡ 0
  unfolding figures_of divisor_at
  undivided p l = listed_past 105 (divisor_at n es) p (λ _. rw (le-ltb p (n * (n - 1) / 2) l))

  said-proper : Proper (figures_of n es)
  unfolding figures_of
  said-proper = record {
    some = (is_relation_lem MOST n r).0;
    few = few;
    counts = listed-length MOST (count_at n es);
    divisors = listed-length (MOST * (MOST - 1) / 2) (divisor_at n es);
    counted = counted;
    uncounted = uncounted;
    divided = divided;
    undivided = undivided;
  }

-- ---- the judge

-- Where r is accepted, its figures are proper.
abbrev Says : Result → Type 0
Says r = r.number ≡ 0 → Proper r.figures

entries_proper : (n m : ℕ) (es : List Entry) (at : ℕ) (ls : List (List ℕ)) → is_relation MOST n ≡ true → All Kept es → Says (entry_lines n m es at ls)
unfolding entry_lines on_line
entries_proper n zero es at ls r ok h =
    let a = no_fault 11 at (not (is_end ls)) _ refl h in
    let b = no_fault 12 at (not (all_counted n es)) _ refl a.1 in
    rw (a.0, b.0) (said-proper n es r ok)
entries_proper n (suc m) es at [] r ok h = absurd (omega arith)
entries_proper n (suc m) es at (l ∷ []) r ok h = absurd (omega arith)
entries_proper n (suc m) es at (l ∷ k ∷ ls) r ok h =
    let next : Entry → Result = λ e. entry_lines n m (e ∷ es) (at + length l + 1) (k ∷ ls) in
    let s = said n es at (numbers_of l) next h in
    let e = s.it in
    let keeps : Kept e = record { small = small-value e.row e.column e.value s.says.small; divides = s.says.divides } in
    rw (says-next n es at (numbers_of l) next e s.says) (entries_proper n m (e ∷ es) (at + length l + 1) (k ∷ ls) r (keeps, ok) s.goes)

size-proper : (at : ℕ) (ls : List (List ℕ)) → Says (size_line at ls)
unfolding size_line on_line with_numbers
size-proper at [] h = absurd (omega arith)
size-proper at (l ∷ []) h = absurd (omega arith)
size-proper at (l ∷ k ∷ ls) h = by (numbers_of l) h
  where
    next : ℕ → ℕ → Result
    next n m = entry_lines n m [] (at + length l + 1) (k ∷ ls)

    by : (x : Numbers)
        → Says (with_numbers at x (λ n b m. faulty 2 at (not (eqb n b)) (faulty 1 at (not (is_relation MOST n)) (next n m))))
    by none h = absurd (omega arith)
    by (three n b m) h =
        let p = no_fault 15 at (too_large n b m) _ refl h in
        let q = no_fault 2 at (not (eqb n b)) _ refl p.1 in
        let r = no_fault 1 at (not (is_relation MOST n)) _ refl q.1 in
        rw (p.0, q.0, r.0) (entries_proper n m [] (at + length l + 1) (k ∷ ls) (not-false (is_relation MOST n) r.0) tt r.1)

comments-proper : (at : ℕ) (ls : List (List ℕ)) → Says (comments at ls)
unfolding comments
comments-proper at [] = size-proper at []
comments-proper at (l ∷ []) = size-proper at (l ∷ [])
comments-proper at (l ∷ k ∷ ls) = by (is_comment l) (comments-proper (at + length l + 1) (k ∷ ls))
  where
    by : (b : Bool) → Says (comments (at + length l + 1) (k ∷ ls)) → Says (cond b (comments (at + length l + 1) (k ∷ ls)) (size_line at (l ∷ k ∷ ls)))
    by true more = more
    by false more = size-proper at (l ∷ k ∷ ls)

pub accepted-proper : (text : List ℕ) → (judged text).number ≡ 0 → Proper (judged text).figures
unfolding judged first_line on_line
accepted-proper text = by (split FEED text)
  where
    by : (ls : List (List ℕ)) → Says (first_line ls)
    by [] h = absurd (omega arith)
    by (l ∷ []) h = absurd (omega arith)
    by (l ∷ k ∷ ls) h =
        let a = no_fault 11 0 (not (same_list l HEADING)) _ refl h in
        rw a.0 (comments-proper (0 + length l + 1) (k ∷ ls) a.1)

-- What is refused is not: no refusal has the number 0.
pub number_pos : (why : Refusal) → 0 < number_of why
number_pos Relations = omega arith
number_pos Unequal = omega arith
number_pos ZeroDivisor = omega arith
number_pos Shape = omega arith
number_pos NoCount = omega arith
number_pos Twice = omega arith
number_pos Outside = omega arith
number_pos TooLarge = omega arith
