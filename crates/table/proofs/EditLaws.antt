-- An edit changes the row rule only at the sets that it touches, and what it touches is closed upwards. So an edit of a fresh table
-- leaves it fresh under the changed figures (`edit_fresh`).
use Rattle.std.proofs.Common.{◌≡◌, ℕ, zero, suc, ◌-◌, ◌*◌, ◌<◌, ◌≤◌, min, Bool, true, false, cond, ◌&&◌, leb, ◌≢◌, ◌⊎◌, length, sym, refl, ap, ◌∙◌, subst, ap₂, inl, inr, true≢false, arith, length-set, get_or-set_other}
use mathlib.Core.Bool.{and-eq-true_iff}
use Rattle.relations.proofs.Named.{is_relation_lem}
use Rattle.relations.specs.Pairs.{place}
use Rattle.relations.specs.Sets.{mem, Part, inside, lowest, rest, larger}
use Rattle.relations.proofs.Members.{mem_pos}
use Rattle.relations.proofs.Parts.{part-le, inside-part}
use Rattle.relations.proofs.Lowest.{lowest-none, lowest-mem, rest_part, rest-other}
use Rattle.relations.proofs.Places.{place_inj}
use Rattle.charges.specs.Charges.{up}
use Rattle.table.specs.Figures.{CEILING, Figures, count, divisor, across, joined, size_rule}
use Rattle.table.specs.Tables.{Table, row_at, Room, mend_to, Fresh}
use Rattle.table.specs.Rule.{Job, bushy, splits, join_cost, within, price, split_of, row_with, row_of}
use Rattle.table.specs.Requests.{Request, fill, edit_count, edit_pair, change, touches, names}
use Rattle.table.proofs.Best.{best_ext}
use Rattle.table.proofs.Mending.{mend_fresh}
use Rattle.table.proofs.Rules.{larger-rest, row_by, rule_local}
use Rattle.table.proofs.Refusals.{IsPair, is_pair_lem}

-- ---- what the size rule reads

-- Of the figures the size rule reads at S: how many counts there are, the count of the lowest, and the divisors inside S.
pub record Alike (fig gif : Figures) (S : ℕ) : Type 0 where
  pub relations : length gif.counts ≡ length fig.counts
  pub count : count gif.counts (lowest S) ≡ count fig.counts (lowest S)
  pub divisor : (i j : ℕ) → mem i S ≡ true → mem j S ≡ true → i ≢ j → divisor gif.divisors i j ≡ divisor fig.divisors i j

across_alike : (fig gif : Figures) (S : ℕ) → 0 < S → Alike fig gif S
    → (k : ℕ) → across gif.divisors (lowest S) (rest S) k ≡ across fig.divisors (lowest S) (rest S) k
unfolding across
across_alike fig gif S p a zero = refl
across_alike fig gif S p a (suc k) =
    ap₂ (λ (x y : ℕ). x * y) (across_alike fig gif S p a k) (factor (mem (suc k) (rest S)) refl)
  where
    factor : (b : Bool) → mem (suc k) (rest S) ≡ b
        → cond b (divisor gif.divisors (lowest S) (suc k)) 1 ≡ cond b (divisor fig.divisors (lowest S) (suc k)) 1
    factor true e = a.divisor (lowest S) (suc k) (lowest-mem S p) (rest_part S (suc k) e) (rest-other S (suc k) e)
    factor false e = refl

pub size_alike : (fig gif : Figures) (S : ℕ) → Alike fig gif S → (v : ℕ) → size_rule gif S v ≡ size_rule fig S v
unfolding size_rule joined
size_alike fig gif S a v = at (larger S) refl
  where
    at : (b : Bool) → larger S ≡ b
        → cond b (joined gif S v) (count gif.counts (lowest S)) ≡ cond b (joined fig S v) (count fig.counts (lowest S))
    at true e =
        let p : 0 < S = omega (arith, larger-rest S e, part-le (rest S) S (rest_part S)) in
        ap₂ (λ (x y : ℕ). min CEILING (up (v * x) y)) a.count
        (across_alike fig gif S p a (length gif.counts) ∙ ap (across fig.divisors (lowest S) (rest S)) a.relations)
    at false e = a.count

-- ---- what an edit leaves alike

-- There are as many counts and as many divisors as before.
pub counts-long : (q : Request) (fig : Figures) → length (change q fig).counts ≡ length fig.counts
unfolding change
counts-long fill fig = refl
counts-long (edit_count k c) fig = length-set fig.counts (k - 1) c
counts-long (edit_pair i j d) fig = refl

pub divisors-long : (q : Request) (fig : Figures) → length (change q fig).divisors ≡ length fig.divisors
unfolding change
divisors-long fill fig = refl
divisors-long (edit_count k c) fig = refl
divisors-long (edit_pair i j d) fig = length-set fig.divisors (place i j) d

-- A relation that is not in S is not its lowest.
lowest_not : (k S : ℕ) → 1 ≤ k → mem k S ≡ false → lowest S ≢ k
lowest_not k zero h m e = omega (arith, lowest-none)
lowest_not k (suc s) h m e =
    true≢false (sym (subst (λ (x : ℕ). mem x (suc s) ≡ true) e (lowest-mem (suc s) (omega arith))) ∙ m)

count-other : (fig : Figures) (k c m : ℕ) → 1 ≤ k → m ≢ k → count (change (edit_count k c) fig).counts m ≡ count fig.counts m
unfolding count change
count-other fig k c zero h d = refl
count-other fig k c (suc p) h d = get_or-set_other fig.counts (k - 1) p c 0 (omega arith)

divisor-other : (fig : Figures) (i j d a b : ℕ) → place a b ≢ place i j
    → divisor (change (edit_pair i j d) fig).divisors a b ≡ divisor fig.divisors a b
unfolding divisor change
divisor-other fig i j d a b h = get_or-set_other fig.divisors (place i j) (place a b) d 1 h

-- A pair inside S stands elsewhere than a pair that is not.
pair_not : (n i j S : ℕ) → IsPair n i j → (mem i S && mem j S) ≡ false
    → (a b : ℕ) → mem a S ≡ true → mem b S ≡ true → a ≢ b → place a b ≢ place i j
pair_not n i j S h t a b ma mb ne q =
    pick (place_inj a b i j (mem_pos a S ma) (mem_pos b S mb) ne (is_relation_lem n i h.one).0 (is_relation_lem n j h.other).0 h.two q)
  where
    both : mem i S ≡ true → mem j S ≡ true → ⊥
    both x y = true≢false (sym ((and-eq-true_iff (mem i S) (mem j S)).1 (x, y)) ∙ t)

    pick : ((a ≡ i) × (b ≡ j)) ⊎ ((a ≡ j) × (b ≡ i)) → ⊥
    pick (inl e) = both (rw (← e.0) ma) (rw (← e.1) mb)
    pick (inr e) = both (rw (← e.1) mb) (rw (← e.0) ma)

pub edit_alike : (q : Request) (n : ℕ) → names q n ≡ true → (fig : Figures) (S : ℕ) → touches q S ≡ false → Alike fig (change q fig) S
unfolding touches
edit_alike fill n h fig S t = absurd (true≢false t)
edit_alike (edit_count k c) n h fig S t =
    let r = is_relation_lem n k (unfold names in h) in
    record {
      relations = counts-long (edit_count k c) fig;
      count = count-other fig k c (lowest S) r.0 (lowest_not k S r.0 t);
      divisor = λ i j _ _ _. unfold change in refl;
    }
edit_alike (edit_pair i j d) n h fig S t = record {
  relations = counts-long (edit_pair i j d) fig;
  count = unfold change in refl;
  divisor = λ a b ma mb ne. divisor-other fig i j d a b (pair_not n i j S (is_pair_lem n i j d h) t a b ma mb ne);
}

-- What holds a touched set is touched.
pub touches-up : (q : Request) (L S : ℕ) → Part L S → touches q L ≡ true → touches q S ≡ true
unfolding touches
touches-up fill L S p t = refl
touches-up (edit_count k c) L S p t = p k t
touches-up (edit_pair i j d) L S p t =
    let b = (and-eq-true_iff (mem i L) (mem j L)).0 t in
    (and-eq-true_iff (mem i S) (mem j S)).1 (p i b.0, p j b.1)

-- ---- the row rule under changed figures

-- A profile that reads no more of the figures than the size rule does; every split is such a profile.
abbrev pub Steady : (Figures → ℕ → ℕ → Bool) → Type 0
Steady profile = (fig gif : Figures) (S L : ℕ) → Alike fig gif S → Part L S → profile fig S L ≡ profile gif S L

pub bushy-steady : Steady bushy
bushy-steady fig gif S L a p = refl

-- What comes after a test counts only where the test passes.
after_test : (t a b : Bool) → (t ≡ true → a ≡ b) → t && a ≡ t && b
after_test true a b h = h refl
after_test false a b h = refl

module _ (job : Job) (steady : Steady job.profile) where
  splits_alike : (fig gif : Figures) (S L : ℕ) → Alike fig gif S → splits job fig S L ≡ splits job gif S L
  unfolding splits
  splits_alike fig gif S L a =
      after_test (leb 1 L && inside L S) (job.profile fig S L) (job.profile gif S L)
      (λ e. steady fig gif S L a (inside-part L S ((and-eq-true_iff (leb 1 L) (inside L S)).0 e).1))

  price_alike : (fig gif : Figures) (T : Table) (S o L : ℕ) → Alike fig gif S → price job fig T S o L ≡ price job gif T S o L
  unfolding price within join_cost
  price_alike fig gif T S o L a = rw (splits_alike fig gif S L a)

  split_alike : (fig gif : Figures) (T : Table) (S o : ℕ) → Alike fig gif S → split_of job fig T S o ≡ split_of job gif T S o
  unfolding split_of
  split_alike fig gif T S o a =
      ap (λ b. cond (larger S) b (record { cost = 0; left = 0 }))
      (best_ext (price job fig T S o) (price job gif T S o) S (λ L _. price_alike fig gif T S o L a))

  pub rule_alike : (fig gif : Figures) (T : Table) (S : ℕ) → Alike fig gif S → row_of job fig T S ≡ row_of job gif T S
  unfolding row_of row_with
  rule_alike fig gif T S a =
      let o : ℕ = size_rule gif S (row_at T (rest S)).size in
      ap (row_with job fig T S) (sym (size_alike fig gif S a (row_at T (rest S)).size)) ∙ ap (row_by o) (split_alike fig gif T S o a)

  -- T3 for a request: from a fresh table, mending what it touches gives a fresh table of the changed figures.
  pub edit_fresh : (fig : Figures) (q : Request) (n : ℕ) → names q n ≡ true → (top : ℕ) (T : Table) → Room T top
      → Fresh (row_of job fig) top T → Fresh (row_of job (change q fig)) top (mend_to (row_of job (change q fig)) (touches q) top T)
  edit_fresh fig q n named top T =
      mend_fresh (row_of job fig) (row_of job (change q fig)) (touches q) (rule_local job (change q fig)) (touches-up q) top T
      (λ S _ t. rule_alike fig (change q fig) T S (edit_alike q n named fig S t))
