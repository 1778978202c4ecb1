-- The entries that say given figures, however they are collected, make exactly those figures.
use Prim.Native.Nat.{ℕ, suc, ◌-◌, ◌*◌, ◌/◌, ◌≤◌, ◌<◌}
use native.Mathlib.Decide.{dec_lt}
use native.Mathlib.Omega.{arith}
use mathlib.Core.Bool.{Bool, true, false, true≢false}
use mathlib.Core.List.{List, [], reverse_aux}
use mathlib.Core.Path.{◌≡◌, refl, sym, ◌∙◌}
use lib.ListN.{get_or}
use borrow.Author.Tests.{lt-ltb, le-ltb}
use Rattle.relations.specs.Pairs.{place}
use Rattle.relations.specs.Sets.{MOST}
use Rattle.relations.proofs.Places.{Pair, place_comm, place-reached}
use Rattle.figures.specs.Entries.{Entry, is_at, is_pair_at, all_counted, value_of, count_at, divisor_at, listed, figures_of}
use Rattle.figures.specs.Written.{Proper, entries_of}
use Rattle.figures.specs.declared.Figures.{Figures}
use Rattle.figures.proofs.Listed.{listed_is}
use Rattle.figures.proofs.Collected.{All, NoneFor, at_is, is_at_lem, pair_at_is, is_pair_at_lem, all-turned, turned-all, value_found, all_counted_lem}
use Rattle.figures.proofs.Laid.{count_entry, divisor_of, pair_entry, entries_all, entries_count, entries_pair}

module _ (f : Figures) where
  -- ---- every one

  -- The entries, the last first.
  abbrev pub taken : List Entry
  taken = reverse_aux (entries_of f) []

  none-taken : (test : Entry → Bool) → NoneFor test taken → NoneFor test (entries_of f)
  none-taken test h = (turned-all (λ e. test e ≡ false) (entries_of f) [] h).0

  all-taken : (P : Entry → Type 0) → ((c : ℕ) → 1 ≤ c → c ≤ f.n → P (count_entry f c))
      → ((r c : ℕ) → 1 ≤ c → c < r → r ≤ f.n → 1 < divisor_of f r c → P (pair_entry f r c)) → All P taken
  all-taken P g h = all-turned P (entries_of f) [] (entries_all f P g h) tt

  -- ---- the counts

  -- None is missing,
  count-taken : (c : ℕ) → 1 ≤ c → c ≤ f.n → NoneFor (is_at c c) taken → ⊥
  count-taken c a b h =
      true≢false (sym (is_at_lem c c (count_entry f c) refl refl) ∙ entries_count f (λ e. is_at c c e ≡ false) (none-taken (is_at c c) h) c a b)

  pub taken-counted : all_counted f.n taken ≡ true
  taken-counted = all_counted_lem f.n taken count-taken

  -- and each is the one found.
  count-said : (p : ℕ) → p < f.n → value_of (is_at (suc p) (suc p)) 0 taken ≡ get_or f.counts p 0
  count-said p l =
      value_found (is_at (suc p) (suc p)) 0 (get_or f.counts p 0) taken (all-taken Says counts pairs)
      (λ h. absurd (count-taken (suc p) (omega arith) l h))
    where
      Says : Entry → Type 0
      Says e = is_at (suc p) (suc p) e ≡ true → e.value ≡ get_or f.counts p 0

      counts : (c : ℕ) → 1 ≤ c → c ≤ f.n → Says (count_entry f c)
      counts c a b t =
          let s = at_is (suc p) (suc p) (count_entry f c) t in
          let e : c - 1 ≡ p = omega arith in
          rw e

      pairs : (r c : ℕ) → 1 ≤ c → c < r → r ≤ f.n → 1 < divisor_of f r c → Says (pair_entry f r c)
      pairs r c a m b d t = let s = at_is (suc p) (suc p) (pair_entry f r c) t in absurd (omega arith)

  -- ---- the divisors

  module _ (ok : Proper f) where
    -- One that is absent is 1,
    divisor_absent : (p : ℕ) → p < f.n * (f.n - 1) / 2 → NoneFor (is_pair_at p) taken → 1 ≡ get_or f.divisors p 0
    divisor_absent p l h = by (dec_lt 1 (get_or f.divisors p 0))
      where
        q : Pair f.n p
        q = place-reached f.n p l

        there : place q.high q.low ≡ p
        there = place_comm q.high q.low ∙ q.there

        by : Dec (1 < get_or f.divisors p 0) → 1 ≡ get_or f.divisors p 0
        by (yes d) =
            absurd (true≢false
            (sym (is_pair_at_lem p q.high q.low (divisor_of f q.high q.low) (omega (arith, q.rising)) there)
            ∙ entries_pair f (λ e. is_pair_at p e ≡ false) (none-taken (is_pair_at p) h) q.high q.low q.named q.rising q.within
            (rw there d)))
        by (no d) = omega (arith, (ok.divided p l).0)

    -- and every other is the one found.
    divisor-said : (p : ℕ) → p < f.n * (f.n - 1) / 2 → value_of (is_pair_at p) 1 taken ≡ get_or f.divisors p 0
    divisor-said p l = value_found (is_pair_at p) 1 (get_or f.divisors p 0) taken (all-taken Says counts pairs) (divisor_absent p l)
      where
        Says : Entry → Type 0
        Says e = is_pair_at p e ≡ true → e.value ≡ get_or f.divisors p 0

        counts : (c : ℕ) → 1 ≤ c → c ≤ f.n → Says (count_entry f c)
        counts c a b t = absurd ((pair_at_is p (count_entry f c) t).0 refl)

        pairs : (r c : ℕ) → 1 ≤ c → c < r → r ≤ f.n → 1 < divisor_of f r c → Says (pair_entry f r c)
        pairs r c a m b d t = rw (pair_at_is p (pair_entry f r c) t).1

    -- ---- the figures

    count_same : (p : ℕ) → Dec (p < f.n) → count_at f.n taken p ≡ get_or f.counts p 0
    unfolding count_at
    count_same p (yes l) = rw (lt-ltb p f.n l) (count-said p l)
    count_same p (no l) = rw (le-ltb p f.n (omega arith)) (sym (ok.uncounted p (omega arith)))

    divisor-same : (p : ℕ) → Dec (p < f.n * (f.n - 1) / 2) → divisor_at f.n taken p ≡ get_or f.divisors p 0
    unfolding divisor_at
    divisor-same p (yes l) = rw (lt-ltb p (f.n * (f.n - 1) / 2) l) (divisor-said p l)
    divisor-same p (no l) = rw (le-ltb p (f.n * (f.n - 1) / 2) (omega arith)) (sym (ok.undivided p (omega arith)))

    pub figures-same : figures_of f.n taken ≡ f
    unfolding figures_of
    figures-same = λ i. record { n = f.n; counts = counts i; divisors = divisors i }
      where
        counts : listed MOST (count_at f.n taken) ≡ f.counts
        counts = listed_is MOST (count_at f.n taken) f.counts ok.counts (λ p. count_same p (dec_lt p f.n))

        divisors : listed (MOST * (MOST - 1) / 2) (divisor_at f.n taken) ≡ f.divisors
        divisors =
            listed_is (MOST * (MOST - 1) / 2) (divisor_at f.n taken) f.divisors ok.divisors
            (λ p. divisor-same p (dec_lt p (f.n * (f.n - 1) / 2)))
