-- The cheapest split, by its price: it is the least of the prices, and the left part is the first that has it.
use Rattle.std.proofs.Common.{◌≡◌, ℕ, zero, suc, ◌+◌, ◌<◌, ◌≤◌, Bool, true, false, cond, ltb, ◌⊎◌, List, [], ◌∷◌, ◌++◌, refl, ◌∙◌, ap₂, inl, inr, le_of_suc-le-suc, eq-or-lt_of_le, arith, ltb-false, ltb-true, le-ltb, lt-ltb}
use native.Mathlib.Decide.{dec_le, le_ind}
use Rattle.table.specs.Rule.{NONE, better, best_to}
use Rattle.table.specs.declared.splits.Split.{Split}

-- Nothing is found.
abbrev pub none : Split
none = record { cost = NONE; left = 0 }

-- ---- one more left part

pub better_stays : (p : ℕ → ℕ) (b : Split) (L : ℕ) → b.cost ≤ p L → better p b L ≡ b
unfolding better
better_stays p b L h = rw (le-ltb (p L) b.cost h)

pub better-new : (p : ℕ → ℕ) (b : Split) (L : ℕ) → p L < b.cost → better p b L ≡ record { cost = p L; left = L }
unfolding better
better-new p b L h = rw (lt-ltb (p L) b.cost h)

-- ---- all of them

-- Of a split b among those below k: no price is less than its cost, and if its cost is not NONE it is the price of its left part, the
-- first to have it.
pub record Best (price : ℕ → ℕ) (k : ℕ) (b : Split) : Type 0 where
  pub least : (L : ℕ) → L < k → b.cost ≤ price L
  pub most : b.cost ≤ NONE
  pub none : b.cost ≡ NONE → b.left ≡ 0
  pub some : b.cost < NONE → (b.left < k) × (price b.left ≡ b.cost)
  pub first : (L : ℕ) → L < b.left → b.cost < NONE → b.cost < price L

module _ (price : ℕ → ℕ) where
  best-step : (k : ℕ) (b : Split) → Best price k b → Best price (suc k) (better price b k)
  unfolding better
  best-step k b h = go (ltb (price k) b.cost) refl
    where
      one_more : (c : ℕ) → c ≤ price k → ((L : ℕ) → L < k → c ≤ price L) → (L : ℕ) → (L ≡ k) ⊎ (L < k) → c ≤ price L
      one_more c l f L (inl e) = rw e l
      one_more c l f L (inr g) = f L g

      lower : (c : ℕ) → c ≤ price k → ((L : ℕ) → L < k → c ≤ price L) → (L : ℕ) → L < suc k → c ≤ price L
      lower c l f L g = one_more c l f L (eq-or-lt_of_le (le_of_suc-le-suc g))

      go : (c : Bool) → ltb (price k) b.cost ≡ c → Best price (suc k) (cond c (record { cost = price k; left = k }) b)
      go true e =
          let l = ltb-true (price k) b.cost e in
          record {
            least = lower (price k) (omega arith) (λ L g. omega (arith, h.least L g));
            most = omega (arith, h.most);
            none = λ q. absurd (omega (arith, h.most));
            some = λ _. (omega arith, refl);
            first = λ L g _. omega (arith, h.least L g);
          }
      go false e =
          let l = ltb-false (price k) b.cost e in
          record {
            least = lower b.cost l h.least;
            most = h.most;
            none = h.none;
            some = λ g. (omega (arith, (h.some g).0), (h.some g).1);
            first = h.first;
          }

  pub best : (k : ℕ) → Best price k (best_to price k)
  unfolding best_to
  best zero = record {
    least = λ L l. absurd (omega arith);
    most = omega arith;
    none = λ e. refl;
    some = λ l. absurd (omega arith);
    first = λ L l. absurd (omega arith);
  }
  best (suc k) = best-step k (best_to price k) (best k)

  -- Its left part is one of those below k, or 0.
  pub best-left : (k : ℕ) → (best_to price k).left ≤ k
  best-left k = by (eq-or-lt_of_le (best k).most)
    where
      by : ((best_to price k).cost ≡ NONE) ⊎ ((best_to price k).cost < NONE) → (best_to price k).left ≤ k
      by (inl e) = omega (arith, (best k).none e)
      by (inr l) = omega (arith, ((best k).some l).0)

-- It goes by the prices alone.
pub best_ext : (p q : ℕ → ℕ) (k : ℕ) → ((L : ℕ) → L < k → p L ≡ q L) → best_to p k ≡ best_to q k
unfolding best_to better
best_ext p q zero h = refl
best_ext p q (suc k) h =
    ap₂ (λ (b : Split) (x : ℕ). cond (ltb x b.cost) (record { cost = x; left = k }) b)
    (best_ext p q k (λ L l. h L (omega arith))) (h k (omega arith))

-- Nothing cheaper between a and b than what is found below a: the best below b is the best below a.
pub best_stays : (price : ℕ → ℕ) (a b : ℕ) → a ≤ b → ((L : ℕ) → a ≤ L → L < b → (best_to price a).cost ≤ price L) → best_to price b ≡ best_to price a
unfolding best_to better
best_stays price a b h dear = le_ind (λ (x : ℕ). x ≤ b → best_to price x ≡ best_to price a) (λ _. refl) step b h (omega arith)
  where
    step : (m : ℕ) → a ≤ m → (m ≤ b → best_to price m ≡ best_to price a) → suc m ≤ b → best_to price (suc m) ≡ best_to price a
    step m g ih l =
        let e = ih (omega arith) in
        better_stays price (best_to price m) m (rw e (dear m g l)) ∙ e

-- Where nothing has a price nothing is found.
pub best_none : (price : ℕ → ℕ) (b : ℕ) → ((L : ℕ) → NONE ≤ price L) → best_to price b ≡ none
unfolding best_to
best_none price b dear = best_stays price 0 b (omega arith) (λ L _ _. dear L)

-- The best after b of a list of left parts, tried in its order.
unfoldable pub best_of : (ℕ → ℕ) → Split → List ℕ → Split
best_of price b [] = b
best_of price b (L ∷ Ls) = best_of price (better price b L) Ls

pub best-last : (price : ℕ → ℕ) (b : Split) (Ls : List ℕ) (L : ℕ) → best_of price b (Ls ++ (L ∷ [])) ≡ better price (best_of price b Ls) L
unfolding best_of
best-last price b [] L = refl
best-last price b (M ∷ Ls) L = best-last price (better price b M) Ls L

-- Prices that differ by c and by nothing else: the same split is the best, and its cost differs by c.
abbrev pub Above : ℕ → ℕ → ℕ → Type 0
Above c x y = ((x ≡ NONE) × (y ≡ NONE)) ⊎ ((y ≡ x + c) × (y < NONE))

module _ (p q : ℕ → ℕ) (c : ℕ) (each : (L : ℕ) → Above c (p L) (q L)) where
  pub record Aside (b d : Split) : Type 0 where
    pub cost : Above c b.cost d.cost
    pub left : d.left ≡ b.left

  pub best-aside : (k : ℕ) → Aside (best_to p k) (best_to q k)
  unfolding best_to better
  best-aside zero = record { cost = inl (refl, refl); left = refl }
  best-aside (suc k) = step (best_to p k) (best_to q k) (best p k).most (best-aside k) (best-aside k).cost (each k)
    where
      stay : (b d : Split) → Aside b d → b.cost ≤ p k → d.cost ≤ q k → Aside (better p b k) (better q d k)
      stay b d a x y = rw (better_stays p b k x, better_stays q d k y) a

      take : (b d : Split) → Above c (p k) (q k) → p k < b.cost → q k < d.cost → Aside (better p b k) (better q d k)
      take b d e x y = rw (better-new p b k x, better-new q d k y) (record { cost = e; left = refl })

      both : (b d : Split) → Aside b d → (q k ≡ p k + c) → q k < NONE → (d.cost ≡ b.cost + c) → Dec (b.cost ≤ p k)
          → Aside (better p b k) (better q d k)
      both b d a e l f (yes x) = stay b d a x (omega arith)
      both b d a e l f (no x) = take b d (inr (e, l)) (omega arith) (omega arith)

      step : (b d : Split) → b.cost ≤ NONE → Aside b d → Above c b.cost d.cost → Above c (p k) (q k) → Aside (better p b k) (better q d k)
      step b d m a (inl f) (inl e) = stay b d a (omega (arith, e.0)) (omega (arith, e.1, f.1))
      step b d m a (inr f) (inl e) = stay b d a (omega (arith, e.0)) (omega (arith, e.1, f.1))
      step b d m a (inl f) (inr e) = take b d (inr e) (omega (arith, e.0, e.1, f.0)) (omega (arith, e.1, f.1))
      step b d m a (inr f) (inr e) = both b d a e.0 e.1 f.0 (dec_le b.cost (p k))
