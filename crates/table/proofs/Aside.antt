-- What every split of a set pays is set aside in the search for the best, and put back on what is found (document 002, section 3.2).
use Rattle.std.proofs.Common.{◌≡◌, ℕ, ◌+◌, ◌-◌, ◌<◌, ◌≤◌, true, ◌⊎◌, sym, ap, ◌∙◌, inl, inr, le_of_eq, arith}
use native.Mathlib.Decide.{dec_le}
use Rattle.charges.specs.Charges.{charge}
use Rattle.charges.proofs.Laws.{charge-least}
use Rattle.table.specs.Figures.{Figures}
use Rattle.table.specs.Tables.{Table, row_at}
use Rattle.table.specs.Rule.{NONE, job_for, best_to, splits, join_cost, price}
use Rattle.table.specs.Inner.{under, split_job}
use Rattle.table.specs.declared.rows.Row.{Row}
use Rattle.table.specs.declared.splits.Split.{Split}
use Rattle.table.proofs.Reasoning.{by_test}
use Rattle.table.proofs.Best.{none, best_none, Above, Aside, best-aside}
use Rattle.table.proofs.Rules.{price-none}
use Rattle.table.proofs.Search.{Prices, split-price, each-price, search_found, search_none}

module _ (model limit o paid : ℕ) (fig : Figures) (T : Table) (S : ℕ) (low : limit < NONE) (is-paid : paid ≡ charge model 0 0 o) where
  abbrev whole : ℕ → ℕ
  whole = price (job_for model limit) fig T S o

  abbrev own : ℕ → ℕ
  own = price (split_job model (limit - paid)) fig T S o

  parted : (a b : Row) → join_cost (split_job model (limit - paid)) fig a b o + paid ≡ join_cost (job_for model limit) fig a b o
  unfolding join_cost
  parted a b = omega (arith, is-paid, charge-least model a.size b.size o)

  -- Where that alone is over the limit no split is usable.
  pub none-usable : limit < paid → none ≡ best_to whole S
  none-usable h = sym (best_none whole S (λ L. le_of_eq (sym (over L))))
    where
      over : (L : ℕ) → whole L ≡ NONE
      over L =
          by_test (splits (job_for model limit) fig S L)
          (λ e. (split-price (job_for model limit) fig T S o L e).over (omega (arith, parted (row_at T L) (row_at T (S - L)))))
          (price-none (job_for model limit) fig T S o L)

  module _ (h : paid ≤ limit) where
    each : (L : ℕ) → Above paid (own L) (whole L)
    unfolding splits
    each L = by_test (splits (job_for model limit) fig S L) split (λ e. inl (price-none (split_job model (limit - paid)) fig T S o L e, price-none (job_for model limit) fig T S o L e))
      where
        by : (t u : ℕ) → t + paid ≡ u → Prices (limit - paid) t (own L) → Prices limit u (whole L) → Dec (u ≤ limit) → Above paid (own L) (whole L)
        by t u e p q (yes l) = let x = p.within (omega arith) in let y = q.within l in inr (omega arith, omega arith)
        by t u e p q (no l) = inl (p.over (omega arith), q.over (omega arith))

        split : splits (job_for model limit) fig S L ≡ true → Above paid (own L) (whole L)
        split e =
            by _ _ (parted (row_at T L) (row_at T (S - L))) (split-price (split_job model (limit - paid)) fig T S o L e)
            (split-price (job_for model limit) fig T S o L e) (dec_le _ limit)

    -- What the search finds by what the splits pay of their own is the best less what is paid, or above the room, and then there is none.
    module _ (b : Split) (e : b ≡ under (limit - paid + 1) (best_to own S)) where
      aside : Aside own whole paid each (best_to own S) (best_to whole S)
      aside = best-aside own whole paid each S

      every : (L : ℕ) → (own L ≤ limit - paid) ⊎ (own L ≡ NONE)
      every = each-price (split_job model (limit - paid)) fig T S o

      pub found : b.cost ≤ limit - paid → record { cost = b.cost + paid; left = b.left } ≡ best_to whole S
      found l i = record { cost = back aside.cost i; left = (ap (λ (x : Split). x.left) e ∙ sym aside.left) i }
        where
          best : b.cost ≡ (best_to own S).cost
          best = ap (λ (x : Split). x.cost) (search_found own (limit - paid) every S b e l)

          back : Above paid (best_to own S).cost (best_to whole S).cost → b.cost + paid ≡ (best_to whole S).cost
          back (inl x) = absurd (omega (arith, best, x.0))
          back (inr x) = omega (arith, best, x.0)

      pub none_found : limit - paid < b.cost → none ≡ best_to whole S
      none_found l i = record { cost = back aside.cost i; left = sym (aside.left ∙ ap (λ (x : Split). x.left) gone) i }
        where
          gone : best_to own S ≡ none
          gone = search_none own (limit - paid) every S b e l

          back : Above paid (best_to own S).cost (best_to whole S).cost → NONE ≡ (best_to whole S).cost
          back (inl x) = sym x.1
          back (inr x) = absurd (omega (arith, ap (λ (y : Split). y.cost) gone, x.0, x.1))
