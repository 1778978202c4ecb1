-- The places of pairs: the order of the names does not matter (`place_comm`), no two pairs share a place (`place_inj`), and the places of n
-- relations are exactly 0 to n(n-1)/2 - 1 (`place-below`, `place-reached`).
use Rattle.std.proofs.Common.{◌≡◌, ℕ, zero, suc, ◌+◌, ◌-◌, ◌*◌, ◌/◌, ◌<◌, ◌≤◌, min, max, ◌≢◌, ◌⊎◌, sym, refl, ap, ◌∙◌, ap₂, inl, inr, le_trans, arith}
use native.Mathlib.Decide.{le_ind, dec_lt, ℕ_discrete}
use native.Mathlib.Nat.{add-mul-div_right}
use Rattle.relations.specs.Pairs.{before, place}

-- ---- how many pairs come before

before-step : (m : ℕ) → 1 ≤ m → before (suc m) ≡ before m + (m - 1)
unfolding before
before-step zero h = absurd (omega arith)
before-step (suc zero) h = refl
before-step (suc (suc r)) h =
    let a : suc (suc (suc r)) - 1 ≡ suc (suc r) = omega arith in
    let b : suc (suc (suc r)) - 2 ≡ suc r = omega arith in
    let c : suc (suc r) - 1 ≡ suc r = omega arith in
    let d : suc (suc r) - 2 ≡ r = omega arith in
    let e : suc (suc r) * suc r ≡ suc r * r + suc r * 2 = omega arith in
    rw (a, b, c, d, e) (add-mul-div_right (suc r * r) (suc r) (omega arith))

before_mono : (m k : ℕ) → 1 ≤ m → m ≤ k → before m ≤ before k
before_mono m k h l = le_ind (λ (x : ℕ). before m ≤ before x) (omega arith) (λ x g ih. omega (arith, before-step x (le_trans h g))) k l

-- Before relation n + 1 come all pairs of n relations.
pub before-all : (n : ℕ) → before (suc n) ≡ n * (n - 1) / 2
unfolding before
before-all n = ap₂ (λ (x y : ℕ). x * y / 2) (omega arith) (omega arith)

-- The code has h(h-1) as the square of h less h.
pub up_to_square : (h : ℕ) → h ≤ h * h
up_to_square zero = omega arith
up_to_square (suc r) = omega arith

square_less : (h k : ℕ) → k ≡ h - 1 → h * h - h ≡ h * k
square_less zero k e = omega arith
square_less (suc r) k e = let f : k ≡ r = omega arith in rw f (omega arith)

pub before_square : (m h : ℕ) → h ≡ m - 1 → (h * h - h) / 2 ≡ before m
unfolding before
before_square m h e = rw (← e) (ap (λ (x : ℕ). x / 2) (square_less h (m - 2) (omega arith)))

-- ---- the order of the names

pub place_comm : (i j : ℕ) → place i j ≡ place j i
unfolding place
place_comm i j = ap₂ (λ (x y : ℕ). before x + (y - 1)) (omega arith) (omega arith)

pub place_of : (i j : ℕ) → i ≤ j → place i j ≡ before j + (i - 1)
unfolding place
place_of i j h = ap₂ (λ (x y : ℕ). before x + (y - 1)) (omega arith) (omega arith)

-- ---- no two pairs share a place

apart : (i j k l : ℕ) → 1 ≤ i → i < j → 1 ≤ k → k < l → before j + (i - 1) ≡ before l + (k - 1) → j < l → ⊥
apart i j k l hi hj hk hl e g = omega (arith, before-step j (omega arith), before_mono (suc j) l (omega arith) g)

ordered_inj : (i j k l : ℕ) → 1 ≤ i → i < j → 1 ≤ k → k < l → before j + (i - 1) ≡ before l + (k - 1) → (i ≡ k) × (j ≡ l)
ordered_inj i j k l hi hj hk hl e =
    let up : ¬ (j < l) = apart i j k l hi hj hk hl e in
    let down : ¬ (l < j) = apart k l i j hk hl hi hj (sym e) in
    let q : j ≡ l = omega arith in
    (omega (arith, ap before q), q)

same_pair : (i j k l : ℕ) → min i j ≡ min k l → max i j ≡ max k l → Dec (i ≡ k) → ((i ≡ k) × (j ≡ l)) ⊎ ((i ≡ l) × (j ≡ k))
same_pair i j k l a b (yes q) = inl (q, omega arith)
same_pair i j k l a b (no q) = inr (omega arith, omega arith)

ordered : (i j : ℕ) → 1 ≤ i → 1 ≤ j → i ≢ j → (1 ≤ min i j) × (min i j < max i j)
ordered i j a b c = (omega arith, omega arith)

pub place_inj : (i j k l : ℕ) → 1 ≤ i → 1 ≤ j → i ≢ j → 1 ≤ k → 1 ≤ l → k ≢ l → place i j ≡ place k l
    → ((i ≡ k) × (j ≡ l)) ⊎ ((i ≡ l) × (j ≡ k))
unfolding place
place_inj i j k l hi hj hn hk hl hm e =
    let a = ordered i j hi hj hn in
    let b = ordered k l hk hl hm in
    let h = ordered_inj (min i j) (max i j) (min k l) (max k l) a.0 a.1 b.0 b.1 e in
    same_pair i j k l h.0 h.1 (ℕ_discrete i k)

-- ---- the places of n relations

ordered-below : (n i j : ℕ) → 1 ≤ i → i < j → j ≤ n → place i j < n * (n - 1) / 2
ordered-below n i j hi hj h =
    let up : before (suc j) ≤ before (suc n) = before_mono (suc j) (suc n) (omega arith) (omega arith) in
    omega (arith, place_of i j (omega arith), before-step j (omega arith), before-all n)

pub place-below : (n i j : ℕ) → 1 ≤ i → 1 ≤ j → i ≢ j → i ≤ n → j ≤ n → place i j < n * (n - 1) / 2
place-below n i j hi hj hn li lj = by (dec_lt i j)
  where
    by : Dec (i < j) → place i j < n * (n - 1) / 2
    by (yes l) = ordered-below n i j hi l lj
    by (no l) = rw (place_comm i j) (ordered-below n j i hj (omega arith) li)

-- The pair that stands at place p.
pub record Pair (n p : ℕ) : Type 0 where
  pub low : ℕ
  pub high : ℕ
  pub named : 1 ≤ low
  pub rising : low < high
  pub within : high ≤ n
  pub there : place low high ≡ p

reached : (n p : ℕ) → p < before (suc n) → Pair n p
reached zero p h = absurd (omega (arith, before-all 0))
reached (suc n) p h = by (dec_lt p (before (suc n))) (reached n p)
  where
    by : Dec (p < before (suc n)) → (p < before (suc n) → Pair n p) → Pair (suc n) p
    by (yes l) ih =
        let q = ih l in
        record { low = q.low; high = q.high; named = q.named; rising = q.rising; within = omega (arith, q.within); there = q.there }
    by (no l) ih =
        let d : ℕ = p - before (suc n) in
        record {
          low = suc d;
          high = suc n;
          named = omega arith;
          rising = omega (arith, before-step (suc n) (omega arith));
          within = omega arith;
          there = place_of (suc d) (suc n) (omega (arith, before-step (suc n) (omega arith))) ∙ omega arith;
        }

pub place-reached : (n p : ℕ) → p < n * (n - 1) / 2 → Pair n p
place-reached n p h = reached n p (omega (arith, before-all n))
