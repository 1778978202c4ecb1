-- The lowest relation of a set and the rest, and how code finds them: trailing zeros name the lowest relation (`lowest_trailing`), one less
-- clears it (`rest_clears`), and a count of ones tells a relation alone from a larger set (`ones-single`, `ones-larger`).
use Rattle.std.proofs.Common.{◌≡◌, ℕ, zero, suc, ◌+◌, ◌-◌, ◌*◌, ◌/◌, ◌%◌, ◌^◌, ◌<◌, ◌≤◌, Bool, true, false, cond, ◌&&◌, eqb, ltb, leb, ◌≢◌, ◌⊎◌, sym, refl, ap, ◌∙◌, subst, inl, inr, true≢false, mod-eq_of_lt, eq-zero-or-pos, eq-or-lt_of_le, add-one, arith, pow_pos, ltb-true, lt-ltb, eq-eqb, ne_eqb, eqb-true, le-leb, leb-true}
use native.Mathlib.Decide.{ℕ_discrete}
use native.Mathlib.Nat.{mod_self, sub_self}
use lib.Arith.{bin_ind}
use lib.Bits.{bit_and, and_step, and_self, and_zero_l}
use lib.Count.{count_trailing_zeros, under, ones, ones_step}
use Rattle.relations.specs.Sets.{weight, mem, Part, first, lowest_to, lowest, rest, single, larger}
use Rattle.numbers.proofs.Tests.{both, first_true, second_true, is_false, same_test}
use Rattle.relations.proofs.Members.{mem_zero, mem_pos, mem-one, mem_half, mem-empty, mem-le, mem-weight, mem-alone, weight_pos, members_same}
use Rattle.relations.proofs.Parts.{part-le, part_none, part_apart, part-other, weight-part}

-- ---- the least member

-- Relation r is in S, and none below it is.
pub record Least (S r : ℕ) : Type 0 where
  pub holds : mem r S ≡ true
  pub below : (j : ℕ) → j < r → mem j S ≡ false

pub least_unique : (S r q : ℕ) → Least S r → Least S q → r ≡ q
least_unique S r q a b =
    let up : ¬ (r < q) = λ l. true≢false (sym a.holds ∙ b.below r l) in
    let down : ¬ (q < r) = λ l. true≢false (sym b.holds ∙ a.below q l) in
    omega arith

least-odd : (S : ℕ) → S % 2 ≡ 1 → Least S 1
least-odd S e = record { holds = mem-one S ∙ eq-eqb (S % 2) 1 e; below = none }
  where
    none : (j : ℕ) → j < 1 → mem j S ≡ false
    none zero l = mem_zero S
    none (suc j) l = absurd (omega arith)

least-even : (S r : ℕ) → S % 2 ≡ 0 → Least (S / 2) r → Least S (suc r)
least-even S zero e h = absurd (omega (arith, mem_pos 0 (S / 2) h.holds))
least-even S (suc p) e h = record { holds = mem_half p S ∙ h.holds; below = none }
  where
    none : (j : ℕ) → j < suc (suc p) → mem j S ≡ false
    none zero l = mem_zero S
    none (suc zero) l = mem-one S ∙ ne_eqb (S % 2) 1 (omega arith)
    none (suc (suc j)) l = mem_half j S ∙ h.below (suc j) (omega arith)

-- ---- `lowest` is the least member

-- None of 1 to k is in S, or `lowest_to` has found the least that is.
search_to : (k S : ℕ) → ((lowest_to k S ≡ 0) × ((j : ℕ) → j ≤ k → mem j S ≡ false)) ⊎ Least S (lowest_to k S)
unfolding lowest_to first
search_to zero S = inl (refl, none)
  where
    none : (j : ℕ) → j ≤ 0 → mem j S ≡ false
    none zero l = mem_zero S
    none (suc j) l = absurd (omega arith)
search_to (suc k) S = go (lowest_to k S) (mem (suc k) S) refl (search_to k S)
  where
    go : (r : ℕ) (t : Bool) → mem (suc k) S ≡ t → ((r ≡ 0) × ((j : ℕ) → j ≤ k → mem j S ≡ false)) ⊎ Least S r
        → ((first r (cond t (suc k) 0) ≡ 0) × ((j : ℕ) → j ≤ suc k → mem j S ≡ false)) ⊎ Least S (first r (cond t (suc k) 0))
    go zero true m (inl h) = inr (record { holds = m; below = λ j l. h.1 j (omega arith) })
    go zero false m (inl h) = inl (refl, none)
      where
        none : (j : ℕ) → j ≤ suc k → mem j S ≡ false
        none j l = by (ℕ_discrete j (suc k))
          where
            by : Dec (j ≡ suc k) → mem j S ≡ false
            by (yes e) = ap (λ (x : ℕ). mem x S) e ∙ m
            by (no e) = h.1 j (omega arith)
    go zero t m (inr h) = absurd (omega (arith, mem_pos 0 S h.holds))
    go (suc r) t m (inl h) = absurd (omega (arith, h.0))
    go (suc r) t m (inr h) = inr h

pub lowest-least : (S : ℕ) → 0 < S → Least S (lowest S)
unfolding lowest
lowest-least S p = by (search_to S S)
  where
    by : ((lowest_to S S ≡ 0) × ((j : ℕ) → j ≤ S → mem j S ≡ false)) ⊎ Least S (lowest_to S S) → Least S (lowest_to S S)
    by (inl h) = absurd (omega (arith, members_same S 0 none))
      where
        none : (k : ℕ) → mem k S ≡ mem k 0
        none k = is_false (mem k S) (λ m. true≢false (sym m ∙ h.1 k (mem-le k S m))) ∙ sym (mem-empty k)
    by (inr h) = h

pub lowest-none : lowest 0 ≡ 0
unfolding lowest lowest_to
lowest-none = refl

pub lowest-mem : (S : ℕ) → 0 < S → mem (lowest S) S ≡ true
lowest-mem S p = (lowest-least S p).holds

pub lowest_pos : (S : ℕ) → 0 < S → 1 ≤ lowest S
lowest_pos S p = mem_pos (lowest S) S (lowest-mem S p)

-- The least member, however it was found.
pub lowest_is : (S r : ℕ) → 0 < S → Least S r → lowest S ≡ r
lowest_is S r p h = least_unique S (lowest S) r (lowest-least S p) h

lowest-odd : (S : ℕ) → S % 2 ≡ 1 → lowest S ≡ 1
lowest-odd S e = lowest_is S 1 (omega arith) (least-odd S e)

lowest-even : (S : ℕ) → 0 < S → S % 2 ≡ 0 → lowest S ≡ suc (lowest (S / 2))
lowest-even S p e = lowest_is S (suc (lowest (S / 2))) p (least-even S (lowest (S / 2)) e (lowest-least (S / 2) (omega arith)))

pub lowest-weight : (p : ℕ) → lowest (2 ^ p) ≡ suc p
unfolding weight
lowest-weight p = lowest_is (2 ^ p) (suc p) (pow_pos p) (record { holds = mem-weight (suc p) (omega arith); below = none })
  where
    none : (j : ℕ) → j < suc p → mem j (2 ^ p) ≡ false
    none j l = is_false (mem j (2 ^ p)) (λ m. omega (arith, mem-alone j (suc p) m))

-- Halving, as a proof about a set that is not empty goes: an odd set, or twice a set that is not empty.
by-digit : (P : ℕ → Type 0) → ((S : ℕ) → S % 2 ≡ 1 → P S) → ((S : ℕ) → 0 < S → S % 2 ≡ 0 → P (S / 2) → P S)
    → (S : ℕ) → 0 < S → P S
by-digit P odd even = bin_ind (λ (S : ℕ). 0 < S → P S) (λ p. absurd (omega arith)) step
  where
    step : (S : ℕ) → (0 < S / 2 → P (S / 2)) → 0 < S → P S
    step S ih p = by (ℕ_discrete (S % 2) 1)
      where
        by : Dec (S % 2 ≡ 1) → P S
        by (yes e) = odd S e
        by (no e) = even S p (omega arith) (ih (omega arith))

-- Code: one more than the trailing zeros, at any width.
pub lowest_trailing : (w S : ℕ) → 0 < S → S < 2 ^ w → lowest S ≡ suc (count_trailing_zeros w S)
unfolding count_trailing_zeros
lowest_trailing zero S p l = absurd (omega arith)
lowest_trailing (suc w) S p l = digit (S % 2) refl (λ q. lowest_trailing w (S / 2) q (omega arith))
  where
    digit : (d : ℕ) → S % 2 ≡ d → (0 < S / 2 → lowest (S / 2) ≡ suc (count_trailing_zeros w (S / 2)))
        → lowest S ≡ suc (under d (count_trailing_zeros w (S / 2)))
    digit zero e ih = lowest-even S p e ∙ ap suc (ih (omega arith))
    digit (suc d) e ih = lowest-odd S (omega arith)

-- Code: the lowest relation, or that there is none.
pub ruleset code_lowest = (lowest_trailing, lowest-none)

-- ---- the rest

pub lowest-part : (S : ℕ) → Part (weight (lowest S)) S
unfolding weight
lowest-part zero = rw lowest-none (part_none 0)
lowest-part (suc s) = weight-part (lowest (suc s)) (suc s) (lowest-mem (suc s) (omega arith))

pub rest_part : (S : ℕ) → Part (rest S) S
unfolding rest
rest_part S = part-other (weight (lowest S)) S (lowest-part S)

pub rest_lt : (S : ℕ) → 0 < S → rest S < S
unfolding rest
rest_lt S p = omega (arith, weight_pos (lowest S) (lowest_pos S p))

-- A member of the rest of S is another relation than the lowest.
pub rest-other : (S k : ℕ) → mem k (rest S) ≡ true → lowest S ≢ k
unfolding rest
rest-other S k m e =
    let q : mem (lowest S) (rest S) ≡ true = subst (λ (x : ℕ). mem x (rest S) ≡ true) (sym e) m in
    let own : mem (lowest S) (weight (lowest S)) ≡ true = mem-weight (lowest S) (mem_pos (lowest S) (rest S) q) in
    part_apart (weight (lowest S)) S (lowest-part S) (lowest S) own q

-- So it has a higher number.
pub rest-above : (S : ℕ) → 0 < S → (k : ℕ) → mem k (rest S) ≡ true → lowest S < k
rest-above S some k m =
    let up : ¬ (k < lowest S) = λ l. true≢false (sym (rest_part S k m) ∙ (lowest-least S some).below k l) in
    omega (arith, rest-other S k m)

-- A set with no rest is a relation alone.
pub alone : (S : ℕ) → rest S ≡ 0 → weight (lowest S) ≡ S
unfolding rest
alone S e = omega (arith, part-le (weight (lowest S)) S (lowest-part S))

-- It has no part but the empty set and itself.
pub alone_no_part : (S L : ℕ) → rest S ≡ 0 → Part L S → 0 < L → L < S → ⊥
alone_no_part S L e h p l =
    let own : mem (lowest L) (weight (lowest S)) ≡ true = rw (alone S e) (h (lowest L) (lowest-mem L p)) in
    let same : weight (lowest L) ≡ S = ap weight (mem-alone (lowest L) (lowest S) own) ∙ alone S e in
    omega (arith, part-le (weight (lowest L)) L (lowest-part L))

pub rest-weight : (p : ℕ) → rest (2 ^ p) ≡ 0
unfolding rest weight
rest-weight p = rw (lowest-weight p) (sub_self (2 ^ p))

none_rest : rest 0 ≡ 0
unfolding rest
none_rest = omega arith

rest-odd : (S : ℕ) → S % 2 ≡ 1 → rest S ≡ S - 1
unfolding rest weight
rest-odd S e = rw (lowest-odd S e)

weight_suc : (k : ℕ) → 1 ≤ k → weight (suc k) ≡ 2 * weight k
unfolding weight
weight_suc zero h = absurd (omega arith)
weight_suc (suc p) h = let e : 2 ^ suc p ≡ 2 * 2 ^ p = omega arith in e

rest-even : (S : ℕ) → 0 < S → S % 2 ≡ 0 → rest S ≡ 2 * rest (S / 2)
unfolding rest
rest-even S p e = rw (lowest-even S p e, weight_suc (lowest (S / 2)) (lowest_pos (S / 2) (omega arith))) (omega arith)

-- Code: what S has in common with one less than S.
pub rest_clears : (S : ℕ) → 0 < S → bit_and S (S - 1) ≡ rest S
rest_clears = by-digit (λ (S : ℕ). bit_and S (S - 1) ≡ rest S) odd even
  where
    odd : (S : ℕ) → S % 2 ≡ 1 → bit_and S (S - 1) ≡ rest S
    odd S e =
        let h : (S - 1) / 2 ≡ S / 2 = omega arith in
        omega (arith, and_step S (S - 1), ap (bit_and (S / 2)) h, and_self (S / 2), rest-odd S e)

    even : (S : ℕ) → 0 < S → S % 2 ≡ 0 → bit_and (S / 2) (S / 2 - 1) ≡ rest (S / 2) → bit_and S (S - 1) ≡ rest S
    even S p e ih =
        let h : (S - 1) / 2 ≡ S / 2 - 1 = omega arith in
        omega (arith, and_step S (S - 1), ap (bit_and (S / 2)) h, rest-even S p e)

-- The same where the difference may wrap, as the machine takes it.
pub rest_wraps : (w S W : ℕ) → W < 2 ^ w → (W + 1) % 2 ^ w ≡ S → bit_and S W ≡ rest S
rest_wraps w S W l e = by (eq-zero-or-pos S)
  where
    less : 0 < S → (suc W ≡ 2 ^ w) ⊎ (suc W < 2 ^ w) → W ≡ S - 1
    less p (inl q) = absurd (omega (arith, e, ap (λ (x : ℕ). x % 2 ^ w) (add-one W ∙ q), mod_self (2 ^ w)))
    less p (inr q) = let z : (W + 1) % 2 ^ w ≡ W + 1 = mod-eq_of_lt (omega arith) in omega (arith, e)

    by : (S ≡ 0) ⊎ (0 < S) → bit_and S W ≡ rest S
    by (inl z) = ap (λ (x : ℕ). bit_and x W) z ∙ and_zero_l W ∙ sym none_rest ∙ ap rest (sym z)
    by (inr p) = ap (bit_and S) (less p (eq-or-lt_of_le l)) ∙ rest_clears S p

-- ---- how many

ones_none : (S : ℕ) → ones S ≡ 0 → S ≡ 0
ones_none = bin_ind (λ (S : ℕ). ones S ≡ 0 → S ≡ 0) (λ _. refl) (λ S ih h. omega (arith, ones_step S, ih (omega (arith, ones_step S))))

none-ones : ones 0 ≡ 0
unfolding ones
none-ones = refl

-- The rest has one relation fewer.
pub ones-rest : (S : ℕ) → 0 < S → ones S ≡ suc (ones (rest S))
ones-rest = by-digit (λ (S : ℕ). ones S ≡ suc (ones (rest S))) odd even
  where
    double : (x : ℕ) → ones (2 * x) ≡ ones x
    double x =
        let a : 2 * x % 2 ≡ 0 = omega arith in
        let b : 2 * x / 2 ≡ x = omega arith in
        ones_step (2 * x) ∙ rw (a, b) (omega arith)

    odd : (S : ℕ) → S % 2 ≡ 1 → ones S ≡ suc (ones (rest S))
    odd S e =
        let h : S - 1 ≡ 2 * (S / 2) = omega arith in
        rw (rest-odd S e, h, double (S / 2)) (omega (arith, ones_step S))

    even : (S : ℕ) → 0 < S → S % 2 ≡ 0 → ones (S / 2) ≡ suc (ones (rest (S / 2))) → ones S ≡ suc (ones (rest S))
    even S p e ih = rw (rest-even S p e, double (rest (S / 2))) (omega (arith, ones_step S))

-- The empty set has no ones and no rest, so that it is neither a relation alone nor larger.
some : (f : ℕ → ℕ) → f 0 ≡ 0 → (S : ℕ) → 0 < f S → 0 < S
some f e zero h = absurd (omega arith)
some f e (suc s) h = omega arith

-- Code: one digit set, or more than one.
pub ones-single : (S : ℕ) → eqb (ones S) 1 ≡ single S
unfolding single
ones-single S = same_test (eqb (ones S) 1) (leb 1 S && eqb (rest S) 0) one alone
  where
    one : eqb (ones S) 1 ≡ true → leb 1 S && eqb (rest S) 0 ≡ true
    one h =
        let e : ones S ≡ 1 = eqb-true (ones S) 1 h in
        let p : 0 < S = some ones none-ones S (omega arith) in
        both (leb 1 S) (eqb (rest S) 0) (le-leb 1 S p) (eq-eqb (rest S) 0 (ones_none (rest S) (omega (arith, ones-rest S p))))

    alone : leb 1 S && eqb (rest S) 0 ≡ true → eqb (ones S) 1 ≡ true
    alone h =
        let p : 0 < S = leb-true 1 S (first_true (leb 1 S) (eqb (rest S) 0) h) in
        let e : rest S ≡ 0 = eqb-true (rest S) 0 (second_true (leb 1 S) (eqb (rest S) 0) h) in
        eq-eqb (ones S) 1 (omega (arith, ones-rest S p, ap ones e, none-ones))

pub ones-larger : (S : ℕ) → ltb 1 (ones S) ≡ larger S
unfolding larger
ones-larger S = same_test (ltb 1 (ones S)) (leb 1 (rest S)) more two
  where
    more : ltb 1 (ones S) ≡ true → leb 1 (rest S) ≡ true
    more h =
        let l : 1 < ones S = ltb-true 1 (ones S) h in
        let p : 0 < S = some ones none-ones S (omega arith) in
        le-leb 1 (rest S) (some ones none-ones (rest S) (omega (arith, ones-rest S p)))

    two : leb 1 (rest S) ≡ true → ltb 1 (ones S) ≡ true
    two h =
        let r : 0 < rest S = leb-true 1 (rest S) h in
        let n : ¬ (ones (rest S) ≡ 0) = λ e. omega (arith, ones_none (rest S) e) in
        lt-ltb 1 (ones S) (omega (arith, ones-rest S (some rest none_rest S r)))

-- How many digits of a set's number are 1 tells a single set from a larger one.
pub ruleset code_ones = (ones-single, ones-larger)
