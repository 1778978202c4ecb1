-- The search for the best split. It keeps the cost to stay under, one above the limit at first (`Searched`), and finds what the row rule
-- says. Over any price that is within the limit or NONE.
use Rattle.std.proofs.Common.{◌≡◌, ℕ, zero, suc, ◌+◌, ◌-◌, ◌<◌, ◌≤◌, min, Bool, true, false, cond, ◌&&◌, leb, ◌⊎◌, sym, refl, ap, ◌∙◌, inl, inr, append-nil, arith}
use native.Mathlib.Decide.{dec_le}
use mathlib.Core.Bool.{false≢true}
use borrow.Author.Tests.{lt-leb}
use Rattle.relations.specs.Sets.{Part, inside}
use Rattle.relations.specs.Splits.{lefts_to, Next}
use Rattle.relations.proofs.Parts.{part_none, part-le, part-other}
use Rattle.relations.proofs.Splits.{left_true, one_more, lefts-first, lefts-next}
use Rattle.table.specs.Figures.{Figures}
use Rattle.table.specs.Tables.{Table, row_at}
use Rattle.table.specs.Rule.{NONE, Job, better, best_to, splits, join_cost, within, price}
use Rattle.table.specs.Inner.{under}
use Rattle.table.specs.declared.splits.Split.{Split}
use Rattle.table.proofs.Reasoning.{by_test}
use Rattle.table.proofs.Best.{none, better_stays, better-new, best, best_stays, best_of, best-last}
use Rattle.table.proofs.Rules.{is_split, Used, price-used, used-price, price-none}

-- What a total t comes to under a limit: it is the price where it is within the limit, and there is none where it is not.
pub record Prices (limit t p : ℕ) : Type 0 where
  pub within : t ≤ limit → p ≡ t
  pub over : limit < t → p ≡ NONE

-- ---- the search

module _ (price : ℕ → ℕ) (limit : ℕ) where
  -- b has searched the left parts below l.
  pub record Searched (l : ℕ) (b : Split) : Type 0 where
    pub cost : b.cost ≡ min (best_to price l).cost (limit + 1)
    pub left : b.left ≡ (best_to price l).left

  -- At first nothing is found.
  pub search_first : limit < NONE → (N : ℕ) → best_to price N ≡ none → Searched N (record { cost = limit + 1; left = 0 })
  search_first low N e = record { cost = rw e (omega arith); left = rw e }

  -- A further left part, of total t, and no other until N.
  pub search_next : (l N t : ℕ) (b : Split) → best_to price N ≡ better price (best_to price l) l → Prices limit t (price l) → Searched l b
      → Searched N (better (λ _. t) b l)
  search_next l N t b hop pr s = by (dec_le t limit)
    where
      found : Split
      found = best_to price l

      -- Both stay, or both take the new one.
      stay : b.cost ≤ t → found.cost ≤ price l → Searched N (better (λ _. t) b l)
      stay x y =
          let e = hop ∙ better_stays price found l y in
          let f = better_stays (λ _. t) b l x in
          record { cost = rw (e, f) s.cost; left = rw (e, f) s.left }

      take : t ≤ limit → t < b.cost → price l < found.cost → Searched N (better (λ _. t) b l)
      take g x y =
          let e = hop ∙ better-new price found l y in
          let f = better-new (λ _. t) b l x in
          record { cost = rw (e, f) (omega (arith, pr.within g)); left = rw (e, f) }

      inside : t ≤ limit → Dec (b.cost ≤ t) → Searched N (better (λ _. t) b l)
      inside g (yes x) = stay x (omega (arith, pr.within g, s.cost))
      inside g (no x) = take g (omega arith) (omega (arith, pr.within g, s.cost))

      by : Dec (t ≤ limit) → Searched N (better (λ _. t) b l)
      by (yes g) = inside g (dec_le b.cost t)
      by (no g) = stay (omega (arith, s.cost)) (omega (arith, pr.over (omega arith), (best price l).most))

  -- What is found at the end: within the limit it is the best split, and above it there is none.
  module _ (each : (L : ℕ) → (price L ≤ limit) ⊎ (price L ≡ NONE)) (k : ℕ) (b : Split) (s : b ≡ under (limit + 1) (best_to price k)) where
    abbrev cost_is : b.cost ≡ min (best_to price k).cost (limit + 1)
    cost_is = ap (λ (x : Split). x.cost) s

    pub search_found : b.cost ≤ limit → b ≡ best_to price k
    search_found h = s ∙ (λ i. record { cost = same i; left = (best_to price k).left })
      where
        same : min (best_to price k).cost (limit + 1) ≡ (best_to price k).cost
        same = omega (arith, cost_is)

    pub search_none : limit < b.cost → best_to price k ≡ none
    search_none h i = record { cost = dear i; left = (best price k).none dear i }
      where
        by : {p : ℕ} → (p ≤ limit) ⊎ (p ≡ NONE) → limit < p → p < NONE → ⊥
        by (inl x) m l = omega arith
        by (inr x) m l = omega arith

        over : (best_to price k).cost < NONE → ⊥
        over l =
            let w = (best price k).some l in
            by (each (best_to price k).left) (omega (arith, w.1, cost_is)) (omega (arith, w.1))

        dear : (best_to price k).cost ≡ NONE
        dear = omega (arith, (best price k).most, over)

  -- ---- along the left parts of S, where nothing else has a price

  -- The search has come to the part l.
  pub record Visited (S l : ℕ) (b : Split) : Type 0 where
    pub part : Part l S
    pub searched : Searched l b

  -- Past the middle of S there are only mirrors of splits that were tried, at the same price, and the first of equals stays.
  pub visit_half : (S l : ℕ) (b : Split) → S < l + l → ((L : ℕ) → L < S → price L < NONE → price (S - L) ≡ price L) → Visited S l b
      → b ≡ under (limit + 1) (best_to price S)
  visit_half S l b h mirror v i = record { cost = cost i; left = left i }
    where
      later : (L : ℕ) → l ≤ L → L < S → (best_to price l).cost ≤ price L
      later L g k = by (dec_le NONE (price L))
        where
          by : Dec (NONE ≤ price L) → (best_to price l).cost ≤ price L
          by (yes x) = omega (arith, (best price l).most)
          by (no x) = omega (arith, mirror L k (omega arith), (best price l).least (S - L) (omega arith))

      e : best_to price S ≡ best_to price l
      e = best_stays price l S (part-le l S v.part) later

      cost : b.cost ≡ min (best_to price S).cost (limit + 1)
      cost = rw e v.searched.cost

      left : b.left ≡ (best_to price S).left
      left = rw e v.searched.left

  module _ (S : ℕ) (quiet : (L : ℕ) → (0 < L → Part L S → ⊥) → price L ≡ NONE) where
    -- Below k the best is the best of the left parts below k, tried one after another.
    pub best-lefts : (k : ℕ) → best_to price k ≡ best_of price none (lefts_to S k)
    unfolding best_to lefts_to best_of
    best-lefts zero = refl
    best-lefts (suc k) = by_test (leb 1 k && inside k S) (λ e. is_left e (best-lefts k)) (λ e. no_left e ∙ best-lefts k ∙ ap (best_of price none) (sym (one_more S k false e ∙ append-nil (lefts_to S k))))
      where
        is_left : leb 1 k && inside k S ≡ true → best_to price k ≡ best_of price none (lefts_to S k)
            → better price (best_to price k) k ≡ best_of price none (lefts_to S (suc k))
        is_left e ih =
            ap (λ (b : Split). better price b k) ih ∙ sym (best-last price none (lefts_to S k) k)
            ∙ ap (best_of price none) (sym (one_more S k true e))

        no_left : leb 1 k && inside k S ≡ false → better price (best_to price k) k ≡ best_to price k
        no_left e =
            let p = quiet k (λ some part. false≢true (sym e ∙ left_true S k some part)) in
            better_stays price (best_to price k) k (omega (arith, (best price k).most))

    -- So the step on S, which visits the left parts one by one, misses nothing.
    pub visit_first : limit < NONE → (N : ℕ) → Next S 0 N → Visited S N (record { cost = limit + 1; left = 0 })
    visit_first low N next = record {
      part = next.part;
      searched = search_first low N (best-lefts N ∙ ap (best_of price none) (lefts-first S N next) ∙ unfold best_of in refl);
    }

    pub visit_next : (l N t : ℕ) (b b₂ : Split) → 0 < l → l < S → Next S l N → Prices limit t (price l) → b₂ ≡ better (λ _. t) b l → Visited S l b
        → Visited S N b₂
    visit_next l N t b b₂ some below next pr e v = record {
      part = next.part;
      searched = rw e (search_next l N t b hop pr v.searched);
    }
      where
        hop : best_to price N ≡ better price (best_to price l) l
        hop =
            best-lefts N
            ∙ ap (best_of price none) (lefts-next S l N some v.part below next)
            ∙ best-last price none (lefts_to S l) l
            ∙ ap (λ (x : Split). better price x l) (sym (best-lefts l))

    -- ---- two a turn

    -- All left parts up to l are tried, and l is in the lower half: the one that comes after it is next.
    pub record Tried (l : ℕ) (b : Split) : Type 0 where
      pub part : Part l S
      pub low : l + l ≤ S
      pub next : (N : ℕ) → Next S l N → Visited S N b

    pub tried_none : limit < NONE → Tried 0 (record { cost = limit + 1; left = 0 })
    tried_none low = record { part = part_none S; low = omega arith; next = visit_first low }

    pub tried_next : (l t : ℕ) (b b₂ : Split) → 0 < l → l + l ≤ S → Prices limit t (price l) → b₂ ≡ better (λ _. t) b l → Visited S l b → Tried l b₂
    tried_next l t b b₂ some low pr e v = record {
      part = v.part;
      low = low;
      next = λ N next. visit_next l N t b b₂ some (omega arith) next pr e v;
    }

-- ---- the prices of the row rule

module _ (job : Job) (fig : Figures) (T : Table) (S o L : ℕ) where
  -- A total within the limit has parts within it, and a total above it no price.
  pub split-price : splits job fig S L ≡ true → Prices job.limit (join_cost job fig (row_at T L) (row_at T (S - L)) o) (price job fig T S o L)
  unfolding price within join_cost
  split-price e = record {
    within = λ h. price-used job fig T S o L (used h);
    over = λ h. rw (e, lt-leb _ _ h) (ends (leb (row_at T L).cost job.limit && leb (row_at T (S - L)).cost job.limit) _ NONE);
  }
    where
      c : ℕ
      c = job.charge (row_at T L).size (row_at T (S - L)).size o

      used : (row_at T L).cost + (row_at T (S - L)).cost + c ≤ job.limit → Used job fig S L o (row_at T L) (row_at T (S - L))
      used h = record { split = is_split job fig S L e; left = omega arith; right = omega arith; whole = h }

      ends : (a : Bool) (x y : ℕ) → cond (a && false) x y ≡ y
      ends true x y = refl
      ends false x y = refl

  -- So it is with the right part r, however it was found.
  pub split_total : (r : ℕ) → r ≡ S - L → splits job fig S L ≡ true → Prices job.limit (join_cost job fig (row_at T L) (row_at T r) o) (price job fig T S o L)
  split_total r e h = rw e (split-price h)

  -- What is no left part has no price.
  pub quiet_price : (0 < L → Part L S → ⊥) → price job fig T S o L ≡ NONE
  quiet_price h =
      by_test (splits job fig S L) (λ e. absurd (h (is_split job fig S L e).some (is_split job fig S L e).part)) (price-none job fig T S o L)

  -- A price is within the limit, or there is none.
  pub each-price : (price job fig T S o L ≤ job.limit) ⊎ (price job fig T S o L ≡ NONE)
  each-price = by_test (splits job fig S L) (λ e. by (split-price e) (dec_le _ _)) (λ e. inr (price-none job fig T S o L e))
    where
      by : {t : ℕ} → Prices job.limit t (price job fig T S o L) → Dec (t ≤ job.limit)
          → (price job fig T S o L ≤ job.limit) ⊎ (price job fig T S o L ≡ NONE)
      by pr (yes h) = inl (rw (pr.within h) h)
      by pr (no h) = inr (pr.over (omega arith))

-- Where charge and profile go by a split and its mirror alike, so does the price.
module _ (job : Job) (fig : Figures) (T : Table) (S o : ℕ) (even : (a b c : ℕ) → job.charge a b c ≡ job.charge b a c)
    (allows : (L : ℕ) → job.profile fig S L ≡ true → job.profile fig S (S - L) ≡ true) where
  pub mirror_price : (L : ℕ) → L < S → price job fig T S o L < NONE → price job fig T S o (S - L) ≡ price job fig T S o L
  mirror_price L l h =
      price-used job fig T S o (S - L) (rw back (record {
        split = record {
          some = omega arith;
          part = part-other L S u.split.part;
          allows = allows L u.split.allows;
        };
        left = u.right;
        right = u.left;
        whole = omega (arith, same, u.whole);
      }))
      ∙ ap (λ (x : ℕ). join_cost job fig (row_at T (S - L)) (row_at T x) o) back
      ∙ same
      ∙ sym (price-used job fig T S o L u)
    where
      u : Used job fig S L o (row_at T L) (row_at T (S - L))
      u = used-price job fig T S o L h

      back : S - (S - L) ≡ L
      back = omega arith

      same : join_cost job fig (row_at T (S - L)) (row_at T L) o ≡ join_cost job fig (row_at T L) (row_at T (S - L)) o
      same = unfold join_cost in omega (arith, even (row_at T (S - L)).size (row_at T L).size o)
