-- Entries, and the figures that they say (document 01, "Figures file", "One numbering").
use Rattle.std.specs.Prelude.{ℕ, zero, suc, ◌-◌, ◌*◌, ◌/◌, Bool, true, false, cond, not, ◌&&◌, ◌||◌, List, [], ◌∷◌, ◌≡◌, refl, eqb, leb, ltb, take, replicate}
use Rattle.relations.specs.Pairs.{place, before}
use Rattle.relations.specs.Sets.{MOST, is_relation}
use Rattle.figures.specs.declared.Figures.{Figures}

-- "i j v."
pub record Entry : Type 0 where
  pub row : ℕ
  pub column : ℕ
  pub value : ℕ

abbrev pub entry : ℕ → ℕ → ℕ → Entry
entry i j v = record { row = i; column = j; value = v }

-- ---- one entry

-- "In the lower triangle of n by n": two relations, i ≥ j.
unfoldable pub in_triangle : ℕ → ℕ → ℕ → Bool
in_triangle n i j = is_relation n i && is_relation n j && leb j i

-- "d of 0": a count may be 0, a divisor may not.
unfoldable pub zero_divisor : Entry → Bool
zero_divisor e = not (eqb e.row e.column) && eqb e.value 0

-- It stands at (i, j).
unfoldable pub is_at : ℕ → ℕ → Entry → Bool
is_at i j e = eqb e.row i && eqb e.column j

-- It is the divisor of the pair whose place is p.
unfoldable pub is_pair_at : ℕ → Entry → Bool
is_pair_at p e = not (eqb e.row e.column) && eqb (place e.row e.column) p

-- ---- several

-- Some entry stands at (i, j).
unfoldable pub given : ℕ → ℕ → List Entry → Bool
given i j [] = false
given i j (e ∷ es) = is_at i j e || given i j es

-- "Every diagonal entry must be there": those of relations 1 to n.
unfoldable pub all_counted : ℕ → List Entry → Bool
all_counted zero es = true
all_counted (suc n) es = given (suc n) (suc n) es && all_counted n es

-- The value of the entry that a test finds, and what an absent one means.
unfoldable pub value_of : (Entry → Bool) → ℕ → List Entry → ℕ
value_of test absent [] = absent
value_of test absent (e ∷ es) = cond (test e) e.value (value_of test absent es)

-- ---- the figures

-- "The diagonal holds row counts": that of relation k, at place k - 1.
unfoldable pub count_at : ℕ → List Entry → ℕ → ℕ
count_at n es p = cond (ltb p n) (value_of (is_at (suc p) (suc p)) 0 es) 0

-- "An absent entry off the diagonal means d = 1, never 0."
unfoldable pub divisor_at : ℕ → List Entry → ℕ → ℕ
divisor_at n es p = cond (ltb p (n * (n - 1) / 2)) (value_of (is_pair_at p) 1 es) 0

-- What f gives for the first k places.
unfoldable pub listed : ℕ → (ℕ → ℕ) → List ℕ
listed zero f = []
listed (suc k) f = f 0 ∷ listed k (λ p. f (suc p))

-- "In accepted figures, places past n's counts and pairs are 0."
unfoldable pub figures_of : ℕ → List Entry → Figures
figures_of n es = record { n = n; counts = listed MOST (count_at n es); divisors = listed (MOST * (MOST - 1) / 2) (divisor_at n es) }

-- "Every figure and n are zero."
unfoldable pub no_figures : Figures
no_figures = record { n = 0; counts = replicate MOST 0; divisors = replicate (MOST * (MOST - 1) / 2) 0 }

-- ---- computed: three relations of 7, 0 and 9 rows, and the divisor 5 of 3 and 1

abbrev some : List Entry
some = entry 3 1 5 ∷ entry 3 3 9 ∷ entry 1 1 7 ∷ entry 2 2 0 ∷ []

placed : (in_triangle 3 3 1 ≡ true) × (in_triangle 3 1 3 ≡ false) × (in_triangle 3 4 1 ≡ false) × (in_triangle 3 1 0 ≡ false)
    × (in_triangle 3 3 3 ≡ true) × (zero_divisor (entry 3 3 0) ≡ false) × (zero_divisor (entry 3 1 0) ≡ true) × (zero_divisor (entry 3 1 1) ≡ false)
unfolding is_relation in_triangle zero_divisor
placed = (refl, refl, refl, refl, refl, refl, refl, refl)

counted : (given 3 1 some ≡ true) × (given 1 3 some ≡ false) × (all_counted 3 some ≡ true) × (all_counted 4 some ≡ false)
unfolding is_at given all_counted
counted = (refl, refl, refl, refl)

told : ((figures_of 3 some).n ≡ 3) × (take 5 (figures_of 3 some).counts ≡ 7 ∷ 0 ∷ 9 ∷ 0 ∷ 0 ∷ [])
    × (take 5 (figures_of 3 some).divisors ≡ 1 ∷ 5 ∷ 1 ∷ 0 ∷ 0 ∷ [])
unfolding before place is_at is_pair_at value_of count_at divisor_at listed figures_of
told = (refl, refl, refl)
