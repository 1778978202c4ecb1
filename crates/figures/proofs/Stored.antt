-- The figures that entries say, as they are stored one by one.
use Prim.Native.Nat.{ℕ, suc, ◌+◌, ◌-◌, ◌*◌, ◌/◌, ◌≤◌, ◌<◌}
use native.Mathlib.Decide.{dec_lt, ℕ_discrete}
use native.Mathlib.Nat.{mul-le-mul}
use native.Mathlib.Numerals.{add-one}
use native.Mathlib.Omega.{arith}
use mathlib.Core.Bool.{Bool, true, false, cond}
use mathlib.Core.List.{List, [], ◌∷◌, ◌++◌}
use mathlib.Core.Logic.{◌≢◌}
use mathlib.Core.Path.{◌≡◌, refl, sym, ◌∙◌}
use lib.Dec.{ltb}
use lib.ListN.{length, get_or, set, drop, replicate, length-set, length-append, get_or-append, get_or-replicate}
use lib.Seq.{get_or-set_same, get_or-set_other, ext_get_or}
use borrow.Author.Tests.{eq-eqb, ne_eqb, lt-ltb, le-ltb}
use Rattle.std.proofs.lemmas.List.{length-replicate, drop-replicate, get_or-append_right}
use Rattle.numbers.proofs.Tests.{is_false}
use Rattle.relations.specs.Pairs.{place}
use Rattle.relations.specs.Sets.{MOST}
use Rattle.relations.proofs.Places.{before-all, place_of, place-below}
use Rattle.figures.specs.Entries.{Entry, entry, in_triangle, is_at, is_pair_at, value_of, count_at, divisor_at, listed, figures_of}
use Rattle.figures.specs.Inner.{with_entry}
use Rattle.figures.proofs.Listed.{listed-length, listed_at}
use Rattle.figures.proofs.Collected.{at_is, is_at_lem, pair_at_is, is_pair_at_lem}
use Rattle.figures.proofs.Collected.{triangle}

-- How many pairs there are of the most relations.
abbrev PAIRS : ℕ
PAIRS = MOST * (MOST - 1) / 2

-- ---- one number put into a list

-- What is listed with v put at place p is what is listed by g, if g gives v there and elsewhere what f does.
listed-set : (k p v : ℕ) (f g : ℕ → ℕ) → p < k → g p ≡ v → ((q : ℕ) → q ≢ p → g q ≡ f q) → set (listed k f) p v ≡ listed k g
listed-set k p v f g l e o =
    ext_get_or 0 (set (listed k f) p v) (listed k g) (size ∙ sym (listed-length k g)) (λ q b. by q (rw size at b) (ℕ_discrete q p))
  where
    size : length (set (listed k f) p v) ≡ k
    size = length-set (listed k f) p v ∙ listed-length k f

    by : (q : ℕ) → q < k → Dec (q ≡ p) → get_or (set (listed k f) p v) q 0 ≡ get_or (listed k g) q 0
    by q b (yes s) = rw s (get_or-set_same (listed k f) p v 0 (rw (listed-length k f) l) ∙ sym e ∙ sym (listed_at k g p l))
    by q b (no s) = get_or-set_other (listed k f) p q v 0 s ∙ listed_at k f q b ∙ sym (o q s) ∙ sym (listed_at k g q b)

-- ---- no entry

-- A divisor 1 for each of the first k pairs.
abbrev one_below : ℕ → ℕ → ℕ
one_below k p = cond (ltb p k) 1 0

filled : (k n : ℕ) → k ≤ n → replicate k 1 ++ drop k (replicate n 0) ≡ listed n (one_below k)
filled k n l = rw (drop-replicate {X = ℕ} k n 0) (ext_get_or {A = ℕ} 0 (replicate k 1 ++ replicate (n - k) 0) (listed n (one_below k)) long (λ p b. at p (omega (arith, b, long, listed-length n (one_below k))) (dec_lt p k)))
  where
    long : length {A = ℕ} (replicate k 1 ++ replicate (n - k) 0) ≡ length (listed n (one_below k))
    long = omega (arith, length-append {A = ℕ} (replicate k 1) (replicate (n - k) 0), length-replicate {A = ℕ} k 1, length-replicate {A = ℕ} (n - k) 0, listed-length n (one_below k))

    at : (p : ℕ) → p < n → Dec (p < k) → get_or (replicate k 1 ++ replicate (n - k) 0) p 0 ≡ get_or (listed n (one_below k)) p 0
    at p b (yes h) =
        get_or-append {A = ℕ} (replicate k 1) (replicate (n - k) 0) 0 p (omega (arith, length-replicate {A = ℕ} k 1))
        ∙ get_or-replicate {A = ℕ} k p 1 0 h ∙ sym (listed_at n (one_below k) p b ∙ rw (lt-ltb p k h))
    at p b (no h) =
        get_or-append_right {X = ℕ} (replicate k 1) (replicate (n - k) 0) k p 0 (length-replicate {A = ℕ} k 1) (omega arith)
        ∙ get_or-replicate {A = ℕ} (n - k) (p - k) 0 0 (omega arith) ∙ sym (listed_at n (one_below k) p b ∙ rw (le-ltb p k (omega arith)))

-- So many pairs are there of n relations,
pub pairs_of : (n : ℕ) → place 1 (n + 1) ≡ n * (n - 1) / 2
pairs_of n = rw (add-one n) (place_of 1 (suc n) (omega arith) ∙ omega (arith, before-all n))

-- and of no more than the most relations no more pairs.
pub pairs-most : (n : ℕ) → n ≤ MOST → n * (n - 1) / 2 ≤ PAIRS
pairs-most n l =
    let m : n - 1 ≤ MOST - 1 = omega arith in
    let h : n * (n - 1) ≤ MOST * (MOST - 1) = mul-le-mul l m in
    omega arith

-- These are the figures of n relations before any entry.
pub none-stored : (n : ℕ) → n ≤ MOST
    → record { n = n; counts = replicate MOST 0; divisors = replicate (n * (n - 1) / 2) 1 ++ drop (n * (n - 1) / 2) (replicate PAIRS 0) } ≡ figures_of n []
unfolding figures_of count_at divisor_at value_of listed
none-stored n l = λ i. record { n = n; counts = listed MOST (λ p. none (ltb p n) i); divisors = filled (n * (n - 1) / 2) PAIRS (pairs-most n l) i }
  where
    none : (b : Bool) → 0 ≡ cond {A = ℕ} b 0 0
    none true = refl
    none false = refl

-- ---- one entry more

module _ (n : ℕ) (e : Entry) (es : List Entry) where
  -- It is found by a test that it passes, and by no other.
  count-here : (p : ℕ) → p < n → is_at (suc p) (suc p) e ≡ true → count_at n (e ∷ es) p ≡ e.value
  unfolding count_at value_of
  count-here p l h = rw (lt-ltb p n l, h)

  count_kept : (p : ℕ) → is_at (suc p) (suc p) e ≡ false → count_at n (e ∷ es) p ≡ count_at n es p
  unfolding count_at value_of
  count_kept p h = rw h

  divisor-here : (p : ℕ) → p < n * (n - 1) / 2 → is_pair_at p e ≡ true → divisor_at n (e ∷ es) p ≡ e.value
  unfolding divisor_at value_of
  divisor-here p l h = rw (lt-ltb p (n * (n - 1) / 2) l, h)

  divisor-kept : (p : ℕ) → is_pair_at p e ≡ false → divisor_at n (e ∷ es) p ≡ divisor_at n es p
  unfolding divisor_at value_of
  divisor-kept p h = rw h

-- A count is stored at its relation's place, and a divisor at its pair's.
module _ (n i j v : ℕ) (es : List Entry) where
  abbrev e : Entry
  e = entry i j v

  count-stored : i ≡ j → 1 ≤ i → i ≤ n → n ≤ MOST → set (listed MOST (count_at n es)) (i - 1) v ≡ listed MOST (count_at n (e ∷ es))
  count-stored q a b c = listed-set MOST (i - 1) v (count_at n es) (count_at n (e ∷ es)) (omega arith) here kept
    where
      here : count_at n (e ∷ es) (i - 1) ≡ v
      here = let s : suc (i - 1) ≡ i = omega arith in count-here n e es (i - 1) (omega arith) (rw (s, ← q) (is_at_lem i i (entry i i v) refl refl))

      kept : (p : ℕ) → p ≢ i - 1 → count_at n (e ∷ es) p ≡ count_at n es p
      kept p d = count_kept n e es p (is_false _ (λ t. let s = at_is (suc p) (suc p) e t in d (omega arith)))

  divisor-stored : i ≢ j → 1 ≤ j → j ≤ i → i ≤ n → n ≤ MOST
      → set (listed PAIRS (divisor_at n es)) (place i j) v ≡ listed PAIRS (divisor_at n (e ∷ es))
  divisor-stored q a b c d =
      let l : place i j < n * (n - 1) / 2 = place-below n i j (omega arith) a q c (omega arith) in
      listed-set PAIRS (place i j) v (divisor_at n es) (divisor_at n (e ∷ es)) (omega (arith, pairs-most n d))
      (divisor-here n e es (place i j) l (is_pair_at_lem (place i j) i j v q refl)) kept
    where
      kept : (p : ℕ) → p ≢ place i j → divisor_at n (e ∷ es) p ≡ divisor_at n es p
      kept p d = divisor-kept n e es p (is_false _ (λ t. d (sym (pair_at_is p e t).1)))

  -- The figures of the entries so far with this one stored are those of the entries with it.
  pub entry-stored : n ≤ MOST → in_triangle n i j ≡ true → with_entry (figures_of n es) e ≡ figures_of n (e ∷ es)
  unfolding with_entry figures_of
  entry-stored m h = by (ℕ_discrete i j) (triangle n i j h)
    where
      by : Dec (i ≡ j) → (1 ≤ j) × (j ≤ i) × (i ≤ n) → with_entry (figures_of n es) e ≡ figures_of n (e ∷ es)
      by (yes q) t = rw (eq-eqb i j q) (λ k. record {
        n = n;
        counts = count-stored q (omega arith) t.2 m k;
        divisors = listed PAIRS (λ p. sym (divisor-kept n e es p (is_false _ (λ s. (pair_at_is p e s).0 q))) k);
      })
      by (no q) t = rw (ne_eqb i j q) (λ k. record {
        n = n;
        counts = listed MOST (λ p. sym (count_kept n e es p (is_false _ (λ s. q (omega (arith, at_is (suc p) (suc p) e s))))) k);
        divisors = divisor-stored q t.0 t.1 t.2 m k;
      })
