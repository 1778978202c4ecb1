-- What is asked for: a fill, or an edit of one figure (document 01, "Rows of the table").
use Rattle.std.specs.Prelude.{◌≡◌, ℕ, ◌-◌, Bool, true, false, not, ◌&&◌, [], ◌∷◌, ◌==◌, slice_set, refl}
use Rattle.relations.specs.Pairs.{place, before}
use Rattle.relations.specs.Sets.{mem, is_relation}
use Rattle.table.specs.Figures.{Figures, figures}

pub data Request : Type 0 where
  fill : Request
  -- A relation and its new row count.
  edit_count : ℕ → ℕ → Request
  -- The two relations of a pair and its new divisor.
  edit_pair : ℕ → ℕ → ℕ → Request

-- "An edit stores the new figure": relation k's count at place k-1, the pair's divisor at the pair's place.
unfoldable pub change : Request → Figures → Figures
change fill fig = fig
change (edit_count k c) fig = record { counts = slice_set fig.counts (k - 1) c; divisors = fig.divisors }
change (edit_pair i j d) fig = record { counts = fig.counts; divisors = slice_set fig.divisors (place i j) d }

-- "The sets holding the changed relation or both relations of the pair." A fill touches every set.
unfoldable pub touches : Request → ℕ → Bool
touches fill S = true
touches (edit_count k c) S = mem k S
touches (edit_pair i j d) S = mem i S && mem j S

-- The new divisor of an edit; what stores none has 1, which is never refused.
unfoldable pub new_divisor : Request → ℕ
new_divisor fill = 1
new_divisor (edit_count k c) = 1
new_divisor (edit_pair i j d) = d

-- Two relations that are not the same; and whether an edit names a relation, or two such.
unfoldable pub is_pair : ℕ → ℕ → ℕ → Bool
is_pair n i j = is_relation n i && is_relation n j && not (i == j)

unfoldable pub names : Request → ℕ → Bool
names fill n = true
names (edit_count k c) n = is_relation n k
names (edit_pair i j d) n = is_pair n i j

-- ---- computed: relation 2 of three, and the pair of 3 and 1

old : Figures
old = figures (10 ∷ 20 ∷ 30 ∷ []) (4 ∷ 5 ∷ 6 ∷ [])

stored : (change (edit_count 2 9) old ≡ figures (10 ∷ 9 ∷ 30 ∷ []) (4 ∷ 5 ∷ 6 ∷ []))
    × (change (edit_pair 3 1 9) old ≡ figures (10 ∷ 20 ∷ 30 ∷ []) (4 ∷ 9 ∷ 6 ∷ []))
unfolding before place change old
stored = (refl, refl)

touched : (touches (edit_count 2 9) 6 ≡ true) × (touches (edit_count 2 9) 5 ≡ false) × (touches (edit_pair 3 1 9) 5 ≡ true)
    × (touches (edit_pair 3 1 9) 6 ≡ false) × (touches fill 0 ≡ true)
unfolding mem touches
touched = (refl, refl, refl, refl, refl)

named : (names (edit_count 3 9) 3 ≡ true) × (names (edit_count 4 9) 3 ≡ false) × (names (edit_count 0 9) 3 ≡ false)
    × (names (edit_pair 1 3 9) 3 ≡ true) × (names (edit_pair 3 3 9) 3 ≡ false) × (names (edit_pair 1 4 9) 3 ≡ false)
unfolding is_relation is_pair names
named = (refl, refl, refl, refl, refl, refl)
