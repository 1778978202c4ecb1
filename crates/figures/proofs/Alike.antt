-- Lists of entries that say the same: neighbours at two places of the lower triangle may change places (`exchanged_alike`).
use Prim.Native.Nat.{ℕ, zero, suc, ◌*◌, ◌/◌, ◌-◌, ◌≤◌}
use native.Mathlib.Omega.{arith}
use mathlib.Core.Bool.{Bool, true, false, cond, ◌&&◌, ◌||◌, true≢false}
use mathlib.Core.List.{List, ◌∷◌}
use mathlib.Core.Logic.{◌⊎◌, inl, inr, ◌≢◌}
use mathlib.Core.Path.{◌≡◌, refl, sym, ap, ap₂, ◌∙◌}
use lib.Dec.{ltb}
use Rattle.relations.specs.Pairs.{place}
use Rattle.relations.specs.Sets.{MOST}
use Rattle.relations.proofs.Places.{place_inj}
use Rattle.figures.specs.Entries.{Entry, in_triangle, is_at, is_pair_at, given, all_counted, value_of, count_at, divisor_at, listed, figures_of}
use Rattle.figures.specs.declared.Figures.{Figures}
use Rattle.figures.proofs.Collected.{at_is, is_at_lem, pair_at_is, triangle}

-- The same places are given, and the same counts and divisors found.
pub record Alike (es fs : List Entry) : Type 0 where
  pub places : (i j : ℕ) → given i j es ≡ given i j fs
  pub counts : (k : ℕ) → value_of (is_at k k) 0 es ≡ value_of (is_at k k) 0 fs
  pub divisors : (p : ℕ) → value_of (is_pair_at p) 1 es ≡ value_of (is_pair_at p) 1 fs

pub alike_self : (es : List Entry) → Alike es es
alike_self es = record { places = λ i j. refl; counts = λ k. refl; divisors = λ p. refl }

-- With the same entry before them they are alike still.
pub alike_more : (e : Entry) (es fs : List Entry) → Alike es fs → Alike (e ∷ es) (e ∷ fs)
unfolding given value_of
alike_more e es fs h = record {
  places = λ i j. ap (λ (b : Bool). is_at i j e || b) (h.places i j);
  counts = λ k. ap (λ (v : ℕ). cond (is_at k k e) e.value v) (h.counts k);
  divisors = λ p. ap (λ (v : ℕ). cond (is_pair_at p e) e.value v) (h.divisors p);
}

-- Then all are counted in both or in neither, and their figures are the same.
pub counted_alike : (n : ℕ) (es fs : List Entry) → Alike es fs → all_counted n es ≡ all_counted n fs
unfolding all_counted
counted_alike zero es fs h = refl
counted_alike (suc n) es fs h = ap₂ ◌&&◌ (h.places (suc n) (suc n)) (counted_alike n es fs h)

listed_same : (k : ℕ) (f g : ℕ → ℕ) → ((p : ℕ) → f p ≡ g p) → listed k f ≡ listed k g
unfolding listed
listed_same zero f g h = refl
listed_same (suc k) f g h = ap₂ ◌∷◌ (h 0) (listed_same k (λ p. f (suc p)) (λ p. g (suc p)) (λ p. h (suc p)))

pub figures_alike : (n : ℕ) (es fs : List Entry) → Alike es fs → figures_of n es ≡ figures_of n fs
unfolding figures_of count_at divisor_at
figures_alike n es fs h = ap₂ made (listed_same MOST (count_at n es) (count_at n fs) counts) (listed_same _ (divisor_at n es) (divisor_at n fs) divisors)
  where
    made : List ℕ → List ℕ → Figures
    made cs ds = record { n = n; counts = cs; divisors = ds }

    counts : (p : ℕ) → count_at n es p ≡ count_at n fs p
    counts p = ap (λ (v : ℕ). cond (ltb p n) v 0) (h.counts (suc p))

    divisors : (p : ℕ) → divisor_at n es p ≡ divisor_at n fs p
    divisors p = ap (λ (v : ℕ). cond (ltb p (n * (n - 1) / 2)) v 0) (h.divisors p)

-- ---- two entries at one place

-- Two that one test finds stand at one place.
same_at : (i j : ℕ) (d e : Entry) → is_at i j d ≡ true → is_at i j e ≡ true → is_at e.row e.column d ≡ true
same_at i j d e a b =
    let x = at_is i j d a in
    let y = at_is i j e b in
    is_at_lem e.row e.column d (x.0 ∙ sym y.0) (x.1 ∙ sym y.1)

same_pair :
    (n p : ℕ) (d e : Entry) →
    in_triangle n d.row d.column ≡ true →
    in_triangle n e.row e.column ≡ true →
    is_pair_at p d ≡ true →
    is_pair_at p e ≡ true →
    is_at e.row e.column d ≡ true
same_pair n p d e in_d in_e a b =
    let x = pair_at_is p d a in
    let y = pair_at_is p e b in
    by (triangle n d.row d.column in_d) (triangle n e.row e.column in_e) x.0 y.0 (x.1 ∙ sym y.1)
  where
    by : (1 ≤ d.column) × (d.column ≤ d.row) × (d.row ≤ n) → (1 ≤ e.column) × (e.column ≤ e.row) × (e.row ≤ n)
        → d.row ≢ d.column → e.row ≢ e.column → place d.row d.column ≡ place e.row e.column → is_at e.row e.column d ≡ true
    by t u x y q = end (place_inj d.row d.column e.row e.column (omega arith) t.0 x (omega arith) u.0 y q)
      where
        end : ((d.row ≡ e.row) × (d.column ≡ e.column)) ⊎ ((d.row ≡ e.column) × (d.column ≡ e.row)) → is_at e.row e.column d ≡ true
        end (inl q) = is_at_lem e.row e.column d q.0 q.1
        end (inr q) = absurd (omega arith)

-- ---- an exchange

-- Of two that no test finds both, it does not matter which is first.
value_exchanged :
    (test : Entry → Bool) (absent : ℕ) (d e : Entry) (es : List Entry) →
    (test d ≡ true → test e ≡ true → ⊥) →
    value_of test absent (d ∷ e ∷ es) ≡ value_of test absent (e ∷ d ∷ es)
unfolding value_of
value_exchanged test absent d e es h = by (test d) (test e) h
  where
    by : (a b : Bool) → (a ≡ true → b ≡ true → ⊥)
        → cond a d.value (cond b e.value (value_of test absent es)) ≡ cond b e.value (cond a d.value (value_of test absent es))
    by true true h = absurd (h refl refl)
    by true false h = refl
    by false true h = refl
    by false false h = refl

given_exchanged : (i j : ℕ) (d e : Entry) (es : List Entry) → given i j (d ∷ e ∷ es) ≡ given i j (e ∷ d ∷ es)
unfolding given
given_exchanged i j d e es = by (is_at i j d) (is_at i j e)
  where
    by : (a b : Bool) → (a || (b || given i j es)) ≡ (b || (a || given i j es))
    by true true = refl
    by true false = refl
    by false true = refl
    by false false = refl

pub exchanged_alike :
    (n : ℕ) (d e : Entry) (es : List Entry) →
    in_triangle n d.row d.column ≡ true →
    in_triangle n e.row e.column ≡ true →
    is_at e.row e.column d ≡ false →
    Alike (d ∷ e ∷ es) (e ∷ d ∷ es)
exchanged_alike n d e es in_d in_e h = record {
  places = λ i j. given_exchanged i j d e es;
  counts = λ k. value_exchanged (is_at k k) 0 d e es (λ a b. apart (same_at k k d e a b));
  divisors = λ p. value_exchanged (is_pair_at p) 1 d e es (λ a b. apart (same_pair n p d e in_d in_e a b));
}
  where
    apart : is_at e.row e.column d ≡ true → ⊥
    apart q = true≢false (sym q ∙ h)
