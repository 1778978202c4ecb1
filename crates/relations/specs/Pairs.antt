-- Where the divisor of a pair stands among the pair figures (document 01, "One numbering").
use Rattle.std.specs.Prelude.{◌≡◌, ℕ, ◌+◌, ◌-◌, ◌*◌, ◌/◌, min, max, refl}

-- How many pairs have both names below m: (m-1)(m-2)/2.
unfoldable pub before : ℕ → ℕ
before m = (m - 1) * (m - 2) / 2

-- "Pair (i, j), i < j, stands at place (j-1)(j-2)/2 + (i-1), counted from 0. The order of the two names never matters."
unfoldable pub place : ℕ → ℕ → ℕ
place i j = before (max i j) + (min i j - 1)

-- ---- computed: the pairs of four relations stand at 0 to 5, and the last of fifteen at 104

placed : (place 1 2 ≡ 0) × (place 1 3 ≡ 1) × (place 2 3 ≡ 2) × (place 1 4 ≡ 3) × (place 2 4 ≡ 4) × (place 4 3 ≡ 5) × (place 15 14 ≡ 104)
unfolding before place
placed = (refl, refl, refl, refl, refl, refl, refl)
