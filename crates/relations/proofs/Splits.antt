-- The wrapped step. One step, at any width, comes to the least part above (`step-next`); so from the empty set it visits each part
-- of S that is neither empty nor S once, in rising order, and ends at S (`visits-lefts`).
use Rattle.std.proofs.Common.{◌≡◌, ℕ, zero, suc, ◌+◌, ◌-◌, ◌*◌, ◌/◌, ◌%◌, ◌^◌, ◌<◌, ◌≤◌, Bool, true, false, cond, ◌&&◌, eqb, leb, ◌⊎◌, List, [], ◌∷◌, ◌++◌, sym, refl, ap, ◌∙◌, subst, inl, inr, append_assoc, append-nil, zero-le, mod-eq_of_lt, mul_assoc, eq-zero-or-pos, eq-or-lt_of_le, pow-suc, div-add-mod', arith, eq-eqb, ne_eqb, le-leb, leb-true}
use native.Mathlib.Decide.{le_ind, ℕ_discrete}
use native.Mathlib.Nat.{add-mod_right, mod-add-mod}
use mathlib.Core.List.Memᴰ
use mathlib.Core.List.{Memᴰ}
use lib.Arith.{lt-one}
use lib.Bits.{bit_and, and_step}
use Rattle.relations.specs.Sets.{mem, inside, Part, lowest, rest}
use Rattle.relations.specs.Splits.{lefts_to, lefts, wrapped_step, Next, visits}
use Rattle.numbers.proofs.Tests.{both, first_true, second_true, is_false}
use Rattle.relations.proofs.Parts.{inside-part, part-inside, part-halves, halves-part, part-le, part_none, part-other, part_apart}
use Rattle.relations.proofs.Lowest.{lowest-mem, rest_part, rest_lt}

-- ---- one step, digit by digit

twice : (c k : ℕ) → c * 2 ^ suc k ≡ c * 2 ^ k * 2
twice c k = ap (λ (x : ℕ). c * x) (pow-suc 2 k) ∙ sym (mul_assoc c (2 ^ k) 2)

-- W is L less S less one, at k digits: S turned over, and L, which have no digit in common. So of S nothing but L is left in it.
turned : (k S L W c : ℕ) → S < 2 ^ k → Part L S → W + S + 1 ≡ L + c * 2 ^ k → bit_and S W ≡ L
turned zero S L W c h p e = ap (λ (x : ℕ). bit_and x W) (lt-one h) ∙ omega (arith, part-le L S p)
turned (suc k) S L W c h p e =
    let d = part-halves L S p in
    let t : c * 2 ^ suc k ≡ c * 2 ^ k * 2 = twice c k in
    let ih : bit_and (S / 2) (W / 2) ≡ L / 2 = turned k (S / 2) (L / 2) (W / 2) c (omega arith) d.0 (omega arith) in
    omega (arith, and_step S W)

-- The last digits of S and L agree, and N's is 0: all is settled above.
next-same : (S L N : ℕ) → Part L S → L % 2 ≡ S % 2 → N % 2 ≡ 0 → Next (S / 2) (L / 2) (N / 2) → Next S L N
next-same S L N p d e h =
    record {
      part = halves-part N S h.part (omega arith);
      last = λ q. let z : N / 2 ≡ 0 = h.last (omega arith) in omega arith;
      above = λ q. let z : L / 2 < N / 2 = h.above (omega arith) in omega arith;
      least = λ M m q.
          let g = part-halves M S m in
          let z : N / 2 ≤ M / 2 = h.least (M / 2) g.0 (omega arith) in
          omega arith;
    }

-- S has its last digit and L has not: L with that digit comes next.
next_one : (S L : ℕ) → Part L S → L % 2 ≡ 0 → S % 2 ≡ 1 → Next S L (L + 1)
next_one S L p d e =
    let half : (L + 1) / 2 ≡ L / 2 = omega arith in
    record {
      part = halves-part (L + 1) S (rw half (part-halves L S p).0) (omega arith);
      last = λ q. absurd (omega arith);
      above = λ q. omega arith;
      least = λ M m q. omega arith;
    }

-- W is L less S, at k digits; c is how often the difference wrapped.
step : (k S L W c : ℕ) → S < 2 ^ k → Part L S → W + S ≡ L + c * 2 ^ k → Next S L (bit_and S W)
step zero S L W c h p e =
    subst (λ (x : ℕ). Next S L (bit_and x W)) (sym (lt-one h))
    (record { part = part_none S; last = λ q. refl; above = λ q. absurd (omega (arith, lt-one h)); least = λ M m q. zero-le })
step (suc k) S L W c h p e = by (ℕ_discrete (L % 2) (S % 2)) (step k (S / 2) (L / 2) (W / 2) c (omega arith) (part-halves L S p).0)
  where
    t : c * 2 ^ suc k ≡ c * 2 ^ k * 2
    t = twice c k

    by : Dec (L % 2 ≡ S % 2) → (W / 2 + S / 2 ≡ L / 2 + c * 2 ^ k → Next (S / 2) (L / 2) (bit_and (S / 2) (W / 2))) → Next S L (bit_and S W)
    by (yes q) ih =
        next-same S L (bit_and S W) p q (omega (arith, t, and_step S W))
        (subst (Next (S / 2) (L / 2)) (omega (arith, t, and_step S W)) (ih (omega (arith, t))))
    by (no q) ih =
        let d = part-halves L S p in
        let l : L % 2 ≡ 0 = omega arith in
        let s : S % 2 ≡ 1 = omega arith in
        let z : bit_and (S / 2) (W / 2) ≡ L / 2 = turned k (S / 2) (L / 2) (W / 2) c (omega arith) d.0 (omega (arith, t)) in
        let u : W % 2 ≡ 1 = omega (arith, t) in
        subst (Next S L) (omega (arith, and_step S W)) (next_one S L p l s)

-- The step as the machine takes it: W and S add up to L, but for a wrap.
pub wrapped_next : (w S L W : ℕ) → S < 2 ^ w → Part L S → (W + S) % 2 ^ w ≡ L → Next S L (bit_and S W)
wrapped_next w S L W h p e = step w S L W ((W + S) / 2 ^ w) h p (omega (arith, div-add-mod' (W + S) (2 ^ w)))

pub step-next : (w S L : ℕ) → S < 2 ^ w → Part L S → Next S L (wrapped_step w S L)
unfolding wrapped_step
step-next w S L h p =
    wrapped_next w S L ((L + (2 ^ w - S)) % 2 ^ w) h p
    (mod-add-mod (L + (2 ^ w - S)) (2 ^ w) S ∙ ap (λ (x : ℕ). x % 2 ^ w) back ∙ add-mod_right L (2 ^ w) ∙ mod-eq_of_lt (omega (arith, part-le L S p)))
  where
    back : L + (2 ^ w - S) + S ≡ L + 2 ^ w
    back = omega arith

-- What comes next is one number.
pub next_unique : (S L M N : ℕ) → Part L S → Next S L M → Next S L N → M ≡ N
next_unique S L M N p m n = by (eq-or-lt_of_le (part-le L S p))
  where
    by : (L ≡ S) ⊎ (L < S) → M ≡ N
    by (inl e) = m.last e ∙ sym (n.last e)
    by (inr h) = omega (arith, m.least N n.part (n.above h), n.least M m.part (m.above h))

-- ---- the left parts as a list

-- M is a left part: the test of `lefts_to`, and the facts.
pub left_true : (S M : ℕ) → 0 < M → Part M S → leb 1 M && inside M S ≡ true
left_true S M h p = both (leb 1 M) (inside M S) (le-leb 1 M h) (part-inside M S p)

left_is : (S M : ℕ) → leb 1 M && inside M S ≡ true → (0 < M) × Part M S
left_is S M h = (leb-true 1 M (first_true (leb 1 M) (inside M S) h), inside-part M S (second_true (leb 1 M) (inside M S) h))

-- One number more.
pub one_more : (S M : ℕ) (t : Bool) → leb 1 M && inside M S ≡ t → lefts_to S (suc M) ≡ lefts_to S M ++ cond t (M ∷ []) []
unfolding lefts_to
one_more S M t e = ap (λ (x : Bool). lefts_to S M ++ cond x (M ∷ []) []) e

gap : (S a b : ℕ) → a ≤ b → ((M : ℕ) → a ≤ M → M < b → leb 1 M && inside M S ≡ false) → lefts_to S b ≡ lefts_to S a
gap S a b h =
    le_ind (λ (m : ℕ). ((M : ℕ) → a ≤ M → M < m → leb 1 M && inside M S ≡ false) → lefts_to S m ≡ lefts_to S a) (λ f. refl)
    (λ m k ih f. one_more S m false (f m k (omega arith)) ∙ append-nil (lefts_to S m) ∙ ih (λ M p q. f M p (omega arith))) b h

none_between : (S L N M : ℕ) → Next S L N → L < M → M < N → leb 1 M && inside M S ≡ false
none_between S L N M n p q = is_false (leb 1 M && inside M S) (λ h. omega (arith, n.least M (left_is S M h).1 p))

-- Before the first step nothing has been passed, and each step passes one.
pub lefts-first : (S N : ℕ) → Next S 0 N → lefts_to S N ≡ []
unfolding lefts_to
lefts-first S N n = gap S 0 N zero-le (λ M p q. none M q)
  where
    none : (M : ℕ) → M < N → leb 1 M && inside M S ≡ false
    none zero q = refl
    none (suc M) q = none_between S 0 N (suc M) n (omega arith) q

pub lefts-next : (S L N : ℕ) → 0 < L → Part L S → L < S → Next S L N → lefts_to S N ≡ lefts_to S L ++ (L ∷ [])
lefts-next S L N h p l n = gap S (suc L) N (n.above l) (λ M a b. none_between S L N M n a b) ∙ one_more S L true (left_true S L h p)

-- ---- the walk

from : (w S f L : ℕ) → S < 2 ^ w → Part L S → 0 < L → S < L + f → lefts_to S L ++ visits w S f L ≡ lefts S ++ (S ∷ [])
unfolding visits lefts
from w S zero L h p z b = absurd (omega (arith, part-le L S p))
from w S (suc f) L h p z b = by (eq-or-lt_of_le (part-le L S p)) (from w S f N h)
  where
    N : ℕ
    N = wrapped_step w S L

    n : Next S L N
    n = step-next w S L h p

    tail : (t : Bool) → eqb L S ≡ t → lefts_to S L ++ (L ∷ cond (eqb L S) [] (visits w S f N)) ≡ lefts_to S L ++ (L ∷ cond t [] (visits w S f N))
    tail t e = ap (λ (x : Bool). lefts_to S L ++ (L ∷ cond x [] (visits w S f N))) e

    by : (L ≡ S) ⊎ (L < S) → (Part N S → 0 < N → S < N + f → lefts_to S N ++ visits w S f N ≡ lefts_to S S ++ (S ∷ []))
        → lefts_to S L ++ (L ∷ cond (eqb L S) [] (visits w S f N)) ≡ lefts_to S S ++ (S ∷ [])
    by (inl e) ih = tail true (eq-eqb L S e) ∙ ap (λ (x : ℕ). lefts_to S x ++ (x ∷ [])) e
    by (inr l) ih =
        tail false (ne_eqb L S (omega arith)) ∙ sym (append_assoc (lefts_to S L) (L ∷ []) (visits w S f N))
        ∙ ap (λ (xs : List ℕ). xs ++ visits w S f N) (sym (lefts-next S L N z p l n))
        ∙ ih n.part (omega (arith, n.above l)) (omega (arith, n.above l))

pub visits-lefts : (w S : ℕ) → 0 < S → S < 2 ^ w → visits w S S (wrapped_step w S 0) ≡ lefts S ++ (S ∷ [])
visits-lefts w S z h =
    ap (λ (xs : List ℕ). xs ++ visits w S S (wrapped_step w S 0)) (sym (lefts-first S (wrapped_step w S 0) n))
    ∙ from w S S (wrapped_step w S 0) h n.part (n.above z) (omega (arith, n.above z))
  where
    n : Next S 0 (wrapped_step w S 0)
    n = step-next w S 0 h (part_none S)

-- ---- in `lefts` stands each part of S that is neither empty nor S, nothing else, and each once: the list rises

pub lefts-only : (S k L : ℕ) → Memᴰ L (lefts_to S k) → (L < k) × (0 < L) × Part L S
unfolding lefts_to
lefts-only S zero L m = absurd (Memᴰ.not-nil m)
lefts-only S (suc k) L m = by (lefts-only S k L) (Memᴰ.append_cases (lefts_to S k) m)
  where
    this : (t : Bool) → leb 1 k && inside k S ≡ t → Memᴰ L (cond t (k ∷ []) []) → (L < suc k) × (0 < L) × Part L S
    this true e n =
        let q : L ≡ k = Memᴰ.eq_of_singleton n in
        let r = left_is S k e in
        (omega arith, omega (arith, r.0), subst (λ (x : ℕ). Part x S) (sym q) r.1)
    this false e n = absurd (Memᴰ.not-nil n)

    by : (Memᴰ L (lefts_to S k) → (L < k) × (0 < L) × Part L S)
        → Memᴰ L (lefts_to S k) ⊎ Memᴰ L (cond (leb 1 k && inside k S) (k ∷ []) []) → (L < suc k) × (0 < L) × Part L S
    by ih (inl n) = let r = ih n in (omega (arith, r.0), r.1, r.2)
    by ih (inr n) = this (leb 1 k && inside k S) refl n

pub lefts-has : (S k L : ℕ) → L < k → 0 < L → Part L S → Memᴰ L (lefts_to S k)
lefts-has S zero L l h p = absurd (omega arith)
lefts-has S (suc k) L l h p = by (lefts-has S k L) (ℕ_discrete L k)
  where
    more : (t : Bool) → leb 1 k && inside k S ≡ t → Memᴰ L (lefts_to S k ++ cond t (k ∷ []) []) → Memᴰ L (lefts_to S (suc k))
    more t e m = subst (Memᴰ L) (sym (one_more S k t e)) m

    by : (L < k → 0 < L → Part L S → Memᴰ L (lefts_to S k)) → Dec (L ≡ k) → Memᴰ L (lefts_to S (suc k))
    by ih (yes e) =
        more true (left_true S k (omega arith) (subst (λ (x : ℕ). Part x S) e p)) (Memᴰ.append_right (lefts_to S k) (Memᴰ.head e))
    by ih (no e) = more (leb 1 k && inside k S) refl (Memᴰ.append_left (cond (leb 1 k && inside k S) (k ∷ []) []) (ih (omega arith) h p))

-- Each element is below all that come after it.
abbrev pub Rising : List ℕ → Type 0
Rising [] = Unit {0}
Rising (x ∷ xs) = ((y : ℕ) → Memᴰ y xs → x < y) × Rising xs

rising_snoc : (xs : List ℕ) (k : ℕ) → Rising xs → ((y : ℕ) → Memᴰ y xs → y < k) → Rising (xs ++ (k ∷ []))
rising_snoc [] k r h = ((λ y m. absurd (Memᴰ.not-nil m)), tt)
rising_snoc (x ∷ xs) k r h = ((λ y m. by y (Memᴰ.append_cases xs m)), rising_snoc xs k r.1 (λ y m. h y (Memᴰ.tail m)))
  where
    by : (y : ℕ) → Memᴰ y xs ⊎ Memᴰ y (k ∷ []) → x < y
    by y (inl m) = r.0 y m
    by y (inr m) = subst (λ (z : ℕ). x < z) (sym (Memᴰ.eq_of_singleton m)) (h x (Memᴰ.head refl))

pub lefts-rising : (S k : ℕ) → Rising (lefts_to S k)
unfolding lefts_to
lefts-rising S zero = tt
lefts-rising S (suc k) = by (leb 1 k && inside k S) (lefts-rising S k)
  where
    by : (t : Bool) → Rising (lefts_to S k) → Rising (lefts_to S k ++ cond t (k ∷ []) [])
    by true r = rising_snoc (lefts_to S k) k r (λ y m. (lefts-only S k y m).0)
    by false r = subst Rising (sym (append-nil (lefts_to S k))) r

-- ---- the lower half

-- No part but the empty set is what is left without it ..
no_middle : (S L : ℕ) → 0 < L → Part L S → L ≡ S - L → ⊥
no_middle S L some p e =
    let m = lowest-mem L some in
    part_apart L S p (lowest L) m (ap (λ (x : ℕ). mem (lowest L) x) (sym e) ∙ m)

-- .. so from the lower half of a set of two or more the step does not come to the set itself: the other part of the split lies between.
pub next-below : (S L N : ℕ) → 0 < rest S → Part L S → L + L ≤ S → Next S L N → N < S
next-below S L N more p low n = by (eq-zero-or-pos L)
  where
    by : (L ≡ 0) ⊎ (0 < L) → N < S
    by (inl e) = omega (arith, n.least (rest S) (rest_part S) (omega arith), rest_lt S (omega (arith, part-le (rest S) S (rest_part S))))
    by (inr some) =
        let apart : L < S - L = omega (arith, no_middle S L some p) in
        omega (arith, n.least (S - L) (part-other L S p) apart)
