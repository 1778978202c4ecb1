-- The walk from the full set through the left parts (document 01, "Numbers answered").
use Rattle.std.specs.Prelude.{ℕ, zero, suc, ◌-◌, Bool, true, false, not, ◌&&◌, ◌||◌, List, [], ◌∷◌, ◌≡◌, refl, eqb, get_or}
use Rattle.relations.specs.Sets.{EMPTY, weight, mem, those, without, inside, first, lowest_to, lowest, rest, larger}

-- ".. whose left part is empty, the whole set, or not inside it."
unfoldable pub faulty : ℕ → ℕ → Bool
faulty L S = eqb L EMPTY || eqb L S || not (inside L S)

-- "The walk meets a set of two or more" of that kind: S itself, or one on the way from its left part or from what is left, at most f sets
-- deep.
unfoldable pub meets : ℕ → List ℕ → ℕ → Bool
meets zero lefts S = false
meets (suc f) lefts S = larger S && (faulty (get_or lefts S 0) S || meets f lefts (get_or lefts S 0) || meets f lefts (S - get_or lefts S 0))

-- From a set without that fault the walk goes on to lower numbers, and so S is deep enough.
unfoldable pub meets_fault : List ℕ → ℕ → Bool
meets_fault lefts S = meets S lefts S

-- ---- computed: a column in which row 7 has the left part L and row 3 the left part M, walked from set 7

abbrev walked : ℕ → ℕ → Bool
walked L M = meets_fault (0 ∷ 0 ∷ 0 ∷ M ∷ 0 ∷ 0 ∷ 0 ∷ L ∷ []) 7

-- A tree; then a fault at the full set, of each of the three kinds; then one at its left part, and one at its right.
met : (walked 3 1 ≡ false)
    × (walked 0 1 ≡ true)
    × (walked 7 1 ≡ true)
    × (walked 8 1 ≡ true)
    × (walked 3 0 ≡ true)
    × (walked 3 3 ≡ true)
    × (walked 3 4 ≡ true)
    × (walked 4 0 ≡ true)
unfolding weight mem those without inside first lowest_to lowest rest larger faulty meets meets_fault
met = (refl, refl, refl, refl, refl, refl, refl, refl)
