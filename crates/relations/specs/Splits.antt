-- The left parts of a set in rising order, and the step from one to the next (document 01, "Rows of the table" and "Which places
-- take which form").
use Rattle.std.specs.Prelude.{◌≡◌, ℕ, zero, suc, ◌+◌, ◌-◌, ◌%◌, ◌^◌, ◌<◌, ◌≤◌, cond, ◌&&◌, List, [], ◌∷◌, ◌++◌, ◌==◌, bit_and, nat_le, refl}
use Rattle.relations.specs.Sets.{weight, mem, those, without, inside, Part}

-- "Both parts are non-empty": of the numbers below k, those that are inside S and not 0, in rising order. Below S itself, they are
-- the left parts of S.
unfoldable pub lefts_to : ℕ → ℕ → List ℕ
lefts_to S zero = []
lefts_to S (suc L) = lefts_to S L ++ cond (nat_le 1 L && inside L S) (L ∷ []) []

unfoldable pub lefts : ℕ → List ℕ
lefts S = lefts_to S S

-- "Next left part is S & (L wrapping-minus S)", with numbers of w digits; the code's have 32.
unfoldable pub wrapped_step : ℕ → ℕ → ℕ → ℕ
wrapped_step w S L = bit_and S ((L + (2 ^ w - S)) % 2 ^ w)

unfoldable pub next_left : ℕ → ℕ → ℕ
next_left S L = wrapped_step 32 S L

-- N comes after L among the parts of S: the least above L, and the empty set after S itself, which is the last.
pub record Next (S L N : ℕ) : Type 0 where
  pub part : Part N S
  pub last : L ≡ S → N ≡ 0
  pub above : L < S → L < N
  pub least : (M : ℕ) → Part M S → L < M → N ≤ M

-- What the step visits from L on, until it comes to S; f bounds how many.
unfoldable pub visits : ℕ → ℕ → ℕ → ℕ → List ℕ
visits w S zero L = []
visits w S (suc f) L = L ∷ cond (L == S) [] (visits w S f (wrapped_step w S L))

-- ---- computed

split : (lefts 13 ≡ 1 ∷ 4 ∷ 5 ∷ 8 ∷ 9 ∷ 12 ∷ []) × (lefts 8 ≡ [])
unfolding weight mem those without inside lefts_to lefts
split = (refl, refl)

visited : visits 32 13 13 (wrapped_step 32 13 0) ≡ 1 ∷ 4 ∷ 5 ∷ 8 ∷ 9 ∷ 12 ∷ 13 ∷ []
unfolding wrapped_step visits
visited = refl
