-- The text that says given figures, entry by entry: the diagonal and every pair above 1, columns and then rows. The judge reads from it
-- exactly those figures (proofs/ReadBack.antt).
use Rattle.std.specs.Prelude.{ℕ, zero, suc, ◌-◌, ◌*◌, ◌/◌, ◌≤◌, ◌<◌, cond, List, [], ◌∷◌, ◌++◌, map, ◌≡◌, refl, ltb, length, get_or}
use Rattle.numbers.specs.Texts.{bytes, digits, decimal}
use Rattle.relations.specs.Pairs.{place, before}
use Rattle.relations.specs.Sets.{MOST}
use Rattle.figures.specs.Lines.{FEED, SPACE}
use Rattle.figures.specs.Entries.{Entry, entry, is_pair_at, is_at, value_of, count_at, divisor_at, listed, figures_of}
use Rattle.figures.specs.Judge.{LARGEST, HEADING}
use Rattle.figures.specs.declared.Figures.{Figures}

-- Figures of n relations as document 01 has them: counts that may be 0, divisors that may not, and 0 past n's.
pub record Proper (f : Figures) : Type 0 where
  pub some : 1 ≤ f.n
  pub few : f.n ≤ MOST
  pub counts : length f.counts ≡ MOST
  pub divisors : length f.divisors ≡ MOST * (MOST - 1) / 2
  pub counted : (p : ℕ) → p < f.n → get_or f.counts p 0 ≤ LARGEST
  pub uncounted : (p : ℕ) → f.n ≤ p → get_or f.counts p 0 ≡ 0
  pub divided : (p : ℕ) → p < f.n * (f.n - 1) / 2 → (1 ≤ get_or f.divisors p 0) × (get_or f.divisors p 0 ≤ LARGEST)
  pub undivided : (p : ℕ) → f.n * (f.n - 1) / 2 ≤ p → get_or f.divisors p 0 ≡ 0

-- ---- its entries

-- Of column j, k pairs from row i on: those whose divisor is above 1.
unfoldable pub pairs_down : Figures → ℕ → ℕ → ℕ → List Entry
pairs_down f j i zero = []
pairs_down f j i (suc k) =
    cond (ltb 1 (get_or f.divisors (place i j) 0)) (entry i j (get_or f.divisors (place i j) 0) ∷ []) [] ++ pairs_down f j (suc i) k

-- k columns from column j on: the count of relation j, and then its pairs with those that come after it.
unfoldable pub columns_from : Figures → ℕ → ℕ → List Entry
columns_from f j zero = []
columns_from f j (suc k) = entry j j (get_or f.counts (j - 1) 0) ∷ (pairs_down f j (suc j) k ++ columns_from f (suc j) k)

unfoldable pub entries_of : Figures → List Entry
entries_of f = columns_from f 1 f.n

-- ---- its lines

-- Three numbers in decimal, "one space between".
unfoldable pub numbers_text : ℕ → ℕ → ℕ → List ℕ
numbers_text a b c = decimal a ++ (SPACE ∷ decimal b) ++ (SPACE ∷ decimal c)

abbrev pub entry_text : Entry → List ℕ
entry_text e = numbers_text e.row e.column e.value

-- "Line feed after every line."
unfoldable pub fed : List (List ℕ) → List ℕ
fed [] = []
fed (l ∷ ls) = l ++ FEED ∷ fed ls

unfoldable pub written : Figures → List ℕ
written f = fed (HEADING ∷ numbers_text f.n f.n (length (entries_of f)) ∷ map entry_text (entries_of f))

-- ---- computed: three relations of 7, 0 and 9 rows, and the divisor 5 of 3 and 1

laid : written (figures_of 3 (entry 3 1 5 ∷ entry 3 3 9 ∷ entry 1 1 7 ∷ []))
    ≡ HEADING ++ bytes "\n3 3 4\n1 1 7\n3 1 5\n2 2 0\n3 3 9\n"
unfolding digits decimal before place is_at is_pair_at value_of count_at divisor_at listed figures_of
    pairs_down columns_from entries_of numbers_text fed written
laid = refl
