-- Of figures that were read, up to 11 relations, a fill refuses only the model and the limit.
use Prim.Native.Nat.{ℕ, zero, suc, ◌+◌, ◌-◌, ◌*◌, ◌/◌, ◌^◌, ◌≤◌, ◌<◌}
use native.Mathlib.Decide.{dec_lt}
use native.Mathlib.Omega.{arith}
use mathlib.Core.Bool.{Bool, true, false, cond}
use mathlib.Core.Logic.{◌≢◌}
use mathlib.Core.Path.{◌≡◌, refl}
use lib.Dec.{leb}
use lib.ListN.{length, get_or, get_or-eq_default, length-replicate}
use lib.Pow.{pow_mono}
use lib.Seq.{length-take-le, get_or-take}
use borrow.Author.Tests.{eq-eqb, le-ltb}
use Rattle.relations.specs.Sets.{MOST, first}
use Rattle.relations.proofs.Named.{relation_is}
use Rattle.charges.specs.Charges.{priced}
use Rattle.charges.proofs.Laws.{known, unknown}
use Rattle.figures.specs.Written.{Proper}
use Rattle.figures.specs.declared.Figures.{Figures}
use Rattle.figures.proofs.Stored.{pairs-most}
use Rattle.table.specs.Requests.{fill, new_divisor, names}
use Rattle.table.specs.Results.{any_zero, short, in_order, bad_figures, unfit, refusal}
use Rattle.std.proofs.lemmas.List.{get_or_default}
use Rattle.table.proofs.Refusals.{none_zero, pairs_end}
use Rattle.relations.specs.Pairs.{place}
use Rattle.planner.specs.Plans.{FEW, column, counts_of, divisors_of, call_of}
use Rattle.planner.specs.Inner.{is_due}

-- ---- the figures

module _ (f : Figures) (ok : Proper f) where
  abbrev pairs : ℕ
  pairs = f.n * (f.n - 1) / 2

  -- There are n counts,
  pub counts-there : f.n ≤ length f.counts
  counts-there = omega (arith, ok.counts, ok.few)

  pub counts-long : length (counts_of f) ≡ f.n
  unfolding counts_of
  counts-long = length-take-le f.n f.counts counts-there

  -- and a divisor for each pair,
  pub divisors-there : f.n * (f.n - 1) / 2 ≤ length f.divisors
  divisors-there = omega (arith, ok.divisors, pairs-most f.n ok.few)

  divisors-long : length (divisors_of f) ≡ pairs
  unfolding divisors_of
  divisors-long = length-take-le pairs f.divisors divisors-there

  -- none of them 0:
  divisor_pos : (k : ℕ) → Dec (k < pairs) → 1 ≤ get_or (divisors_of f) k 1
  unfolding divisors_of
  divisor_pos k (yes l) = rw (get_or-take pairs f.divisors k 1 l, get_or_default f.divisors k 1 0 (omega (arith, divisors-there))) (ok.divided k l).0
  divisor_pos k (no l) = omega (arith, get_or-eq_default (divisors_of f) 1 {n = k} (omega (arith, divisors-long)))

  no_zero : any_zero (divisors_of f) ≡ false
  no_zero = none_zero (divisors_of f) (λ k. divisor_pos k (dec_lt k pairs))

  -- such figures are not refused;
  figures-fit : (model limit : ℕ) → bad_figures f.n 1 (call_of f model limit).figures ≡ 0
  unfolding call_of bad_figures in_order first
  figures-fit model limit = rw (relation_is MOST f.n ok.some ok.few, eq-eqb _ _ counts-long, eq-eqb _ _ divisors-long, no_zero)

-- The pairs of up to 15 relations fit into the array of divisors.
pub pairs_fit : (n : ℕ) → n ≤ MOST → place 1 (n + 1) ≤ 105
pairs_fit n few = omega (arith, pairs_end n, pairs-most n few)

-- ---- the columns, the model and the limit

-- nor are the columns.
columns-fit : (f : Figures) (model limit : ℕ) → f.n ≤ FEW → short (call_of f model limit).table (2 ^ f.n) ≡ false
unfolding call_of short
columns-fit f model limit few =
    let rows : 2 ^ f.n ≤ length column = omega (arith, pow_mono few, length-replicate {A = ℕ} (2 ^ FEW) 0) in
    rw (le-ltb (length column) (2 ^ f.n) rows)

-- 4 or 5, the first of the two that is due.
abbrev pub bad_terms : ℕ → ℕ → ℕ
bad_terms model limit = first (priced model 0 0 0).number (cond (leb limit (2 ^ 60)) 0 5)

pub fill_refuses : (f : Figures) (model limit : ℕ) → Proper f → f.n ≤ FEW → refusal fill (call_of f model limit) ≡ bad_terms model limit
unfolding call_of refusal unfit new_divisor names in_order first
fill_refuses f model limit ok few =
    rw (figures-fit f ok model limit, columns-fit f model limit few) (by (priced model 0 0 0).number (leb limit (2 ^ 60)))
  where
    by : (k : ℕ) (b : Bool) → first (first k (first (cond b 0 5) 0)) 0 ≡ first k (cond b 0 5)
    by zero true = refl
    by zero false = refl
    by (suc k) b = refl

-- Neither is 7.
pub not_seven : (model limit : ℕ) → bad_terms model limit ≢ 7
unfolding first
not_seven model limit = by (dec_lt model 3) (leb limit (2 ^ 60))
  where
    by : Dec (model < 3) → (b : Bool) → first (priced model 0 0 0).number (cond b 0 5) ≡ 7 → ⊥
    by (yes l) true = rw (known model 0 0 0 l) (λ e. omega (arith, e))
    by (yes l) false = rw (known model 0 0 0 l) (λ e. omega (arith, e))
    by (no l) b = rw (unknown model 0 0 0 (omega arith)) (λ e. omega (arith, e))

-- What is due of the two is 4 or 5.
pub terms_due : (model limit : ℕ) → is_due (bad_terms model limit) ≡ true
unfolding first
terms_due model limit = by (dec_lt model 3) (leb limit (2 ^ 60))
  where
    by : Dec (model < 3) → (b : Bool) → is_due (first (priced model 0 0 0).number (cond b 0 5)) ≡ true
    by (yes l) true = rw (known model 0 0 0 l) refl
    by (yes l) false = rw (known model 0 0 0 l) refl
    by (no l) b = rw (unknown model 0 0 0 (omega arith)) refl
