-- The entries that say given figures: every count, every pair with a divisor above 1, and no others.
use Prim.Native.Nat.{ℕ, zero, suc, ◌+◌, ◌-◌, ◌*◌, ◌≤◌, ◌<◌}
use native.Mathlib.Decide.{dec_lt}
use native.Mathlib.Omega.{arith}
use mathlib.Core.Bool.{Bool, true, false, cond}
use mathlib.Core.List.{List, [], ◌∷◌, ◌++◌}
use mathlib.Core.Path.{◌≡◌, refl}
use lib.Dec.{ltb}
use lib.ListN.{length, get_or, length-append}
use borrow.Author.Tests.{ltb-true, lt-ltb}
use Rattle.relations.specs.Pairs.{place}
use Rattle.relations.specs.Sets.{MOST}
use Rattle.figures.specs.Entries.{Entry, entry}
use Rattle.figures.specs.Written.{pairs_down, columns_from, entries_of}
use Rattle.figures.specs.declared.Figures.{Figures}
use Rattle.figures.proofs.Collected.{All, all_both, all_first, all-second}
use Rattle.figures.proofs.Rising.{RisesFrom, rises_sooner}

module _ (f : Figures) where
  -- The entry of relation j's count, and that of the divisor of i and j.
  abbrev pub count_entry : ℕ → Entry
  count_entry j = entry j j (get_or f.counts (j - 1) 0)

  abbrev pub divisor_of : ℕ → ℕ → ℕ
  divisor_of i j = get_or f.divisors (place i j) 0

  abbrev pub pair_entry : ℕ → ℕ → Entry
  pair_entry i j = entry i j (divisor_of i j)

  -- It, if the divisor is above 1.
  abbrev above : ℕ → ℕ → List Entry
  above i j = cond (ltb 1 (divisor_of i j)) (pair_entry i j ∷ []) []

  -- ---- what holds of them all

  module _ (P : Entry → Type 0) where
    -- P does, if it holds of all counts and of all pairs with a divisor above 1,
    pairs-all : (j i k : ℕ) → ((r : ℕ) → i ≤ r → r < i + k → 1 < divisor_of r j → P (pair_entry r j)) → All P (pairs_down f j i k)
    unfolding pairs_down
    pairs-all j i zero h = tt
    pairs-all j i (suc k) h =
        all_both P (above i j) (pairs_down f j (suc i) k) (by (ltb 1 (divisor_of i j)) refl)
        (pairs-all j (suc i) k (λ r a b. h r (omega arith) (omega arith)))
      where
        by : (b : Bool) → ltb 1 (divisor_of i j) ≡ b → All P (cond b (pair_entry i j ∷ []) [])
        by true t = (h i (omega arith) (omega arith) (ltb-true 1 (divisor_of i j) t), tt)
        by false t = tt

    columns-all : (j k : ℕ) → ((c : ℕ) → j ≤ c → c < j + k → P (count_entry c))
        → ((r c : ℕ) → j ≤ c → c < r → r < j + k → 1 < divisor_of r c → P (pair_entry r c)) → All P (columns_from f j k)
    unfolding columns_from
    columns-all j zero g h = tt
    columns-all j (suc k) g h = (
      g j (omega arith) (omega arith),
      all_both P (pairs_down f j (suc j) k) (columns_from f (suc j) k)
          (pairs-all j (suc j) k (λ r a b. h r j (omega arith) (omega arith) (omega arith)))
          (columns-all (suc j) k (λ c a b. g c (omega arith) (omega arith)) (λ r c a l b. h r c (omega arith) (omega arith) (omega arith))),
    )

    pub entries_all : ((c : ℕ) → 1 ≤ c → c ≤ f.n → P (count_entry c))
        → ((r c : ℕ) → 1 ≤ c → c < r → r ≤ f.n → 1 < divisor_of r c → P (pair_entry r c)) → All P (entries_of f)
    unfolding entries_of
    entries_all g h = columns-all 1 f.n (λ c a b. g c a (omega arith)) (λ r c a l b. h r c a l (omega arith))

    -- and only then.
    pair_in : (j i k r : ℕ) → i ≤ r → r < i + k → 1 < divisor_of r j → All P (pairs_down f j i k) → P (pair_entry r j)
    unfolding pairs_down
    pair_in j i zero r a b l h = absurd (omega arith)
    pair_in j i (suc k) r a b l h = by (dec_lt i r) (pair_in j (suc i) k r)
      where
        by : Dec (i < r) → (suc i ≤ r → r < suc i + k → 1 < divisor_of r j → All P (pairs_down f j (suc i) k) → P (pair_entry r j)) → P (pair_entry r j)
        by (yes m) rest = rest m (omega arith) l (all-second P (above i j) (pairs_down f j (suc i) k) h)
        by (no m) rest =
            let e : r ≡ i = omega arith in
            let s : All P (above i j) = all_first P (above i j) (pairs_down f j (suc i) k) h in
            rw e (rw (lt-ltb 1 (divisor_of i j) (rw e at l)) at s).0

    abbrev Column : ℕ → ℕ → Type 0
    Column c end = (m : ℕ) × (c + suc m ≡ end) × P (count_entry c) × All P (pairs_down f c (suc c) m)

    column_in : (j k c : ℕ) → j ≤ c → c < j + k → All P (columns_from f j k) → Column c (j + k)
    unfolding columns_from
    column_in j zero c a b h = absurd (omega arith)
    column_in j (suc k) c a b h = by (dec_lt j c) (column_in (suc j) k c)
      where
        here : All P (pairs_down f j (suc j) k)
        here = all_first P (pairs_down f j (suc j) k) (columns_from f (suc j) k) h.1

        after : All P (columns_from f (suc j) k)
        after = all-second P (pairs_down f j (suc j) k) (columns_from f (suc j) k) h.1

        by : Dec (j < c) → (suc j ≤ c → c < suc j + k → All P (columns_from f (suc j) k) → Column c (suc j + k)) → Column c (j + suc k)
        by (yes m) rest = let e : suc j + k ≡ j + suc k = omega arith in rw e at (rest m (omega arith) after)
        by (no m) rest = let e : c ≡ j = omega arith in rw e (k, refl, h.0, here)

    pub entries_count : All P (entries_of f) → (c : ℕ) → 1 ≤ c → c ≤ f.n → P (count_entry c)
    unfolding entries_of
    entries_count h c a b = (column_in 1 f.n c a (omega arith) h).2

    pub entries_pair : All P (entries_of f) → (r c : ℕ) → 1 ≤ c → c < r → r ≤ f.n → 1 < divisor_of r c → P (pair_entry r c)
    unfolding entries_of
    entries_pair h r c a l b d =
        let s = column_in 1 f.n c a (omega arith) h in
        let e : c + suc s.0 ≡ 1 + f.n = s.1 in
        pair_in c (suc c) s.0 r l (omega arith) d s.3

  -- ---- how many they are

  -- At most one for each row of a column, and at most 16 for each column.
  pairs-few : (j i k : ℕ) → length (pairs_down f j i k) ≤ k
  unfolding pairs_down
  pairs-few j i zero = omega arith
  pairs-few j i (suc k) =
      omega (arith, length-append (above i j) (pairs_down f j (suc i) k), one (ltb 1 (divisor_of i j)), pairs-few j (suc i) k)
    where
      one : (b : Bool) → length (cond b (pair_entry i j ∷ []) []) ≤ 1
      one true = omega arith
      one false = omega arith

  columns-few : (j k : ℕ) → k ≤ 16 → length (columns_from f j k) ≤ 16 * k
  unfolding columns_from
  columns-few j zero h = omega arith
  columns-few j (suc k) h =
      omega (arith, length-append (pairs_down f j (suc j) k) (columns_from f (suc j) k), pairs-few j (suc j) k, columns-few (suc j) k (omega arith))

  pub entries_few : f.n ≤ MOST → length (entries_of f) ≤ 240
  unfolding entries_of
  entries_few h = omega (arith, columns-few 1 f.n (omega arith))

  -- ---- their order

  -- They come column by column, and in each row by row.
  pairs_rise : (j i k m : ℕ) (rest : List Entry) → m ≤ 16 * j + i → i + k ≤ 16 → RisesFrom (16 * j + 16) rest
      → RisesFrom m (pairs_down f j i k ++ rest)
  unfolding pairs_down
  pairs_rise j i zero m rest a b h = rises_sooner (16 * j + 16) m rest (omega arith) h
  pairs_rise j i (suc k) m rest a b h = by (ltb 1 (divisor_of i j)) (λ l. pairs_rise j (suc i) k l rest)
    where
      by : (b : Bool) → ((l : ℕ) → l ≤ 16 * j + suc i → suc i + k ≤ 16 → RisesFrom (16 * j + 16) rest → RisesFrom l (pairs_down f j (suc i) k ++ rest))
          → RisesFrom m (cond b (pair_entry i j ∷ []) [] ++ pairs_down f j (suc i) k ++ rest)
      by true after = (a, after (suc (16 * j + i)) (omega arith) (omega arith) h)
      by false after = after m (omega arith) (omega arith) h

  columns_rise : (j k m : ℕ) → m ≤ 16 * j + j → j + k ≤ 16 → RisesFrom m (columns_from f j k)
  unfolding columns_from
  columns_rise j zero m a b = tt
  columns_rise j (suc k) m a b = (
    a,
    pairs_rise j (suc j) k (suc (16 * j + j)) (columns_from f (suc j) k) (omega arith) (omega arith)
        (columns_rise (suc j) k (16 * j + 16) (omega arith) (omega arith)),
  )

  pub entries_rise : f.n ≤ MOST → RisesFrom 0 (entries_of f)
  unfolding entries_of
  entries_rise h = columns_rise 1 f.n 0 (omega arith) (omega arith)
