-- A text is cut into lines, and a line into words, of which numbers are made (document 01, "Figures file").
use Rattle.std.specs.Prelude.{ℕ, Bool, true, false, cond, not, ◌&&◌, List, [], ◌∷◌, ◌≡◌, refl, eqb}
use Rattle.numbers.specs.Texts.{bytes, digit, is_digit, value}

abbrev pub FEED : ℕ
FEED = 10

abbrev pub SPACE : ℕ
SPACE = 32

abbrev pub PERCENT : ℕ
PERCENT = 37

-- A byte put before the first of several pieces.
abbrev pub onto : ℕ → List (List ℕ) → List (List ℕ)
onto c [] = []
onto c (w ∷ ws) = (c ∷ w) ∷ ws

-- The pieces of a text between the bytes b: one more than there are such bytes. Cut at its feeds, a text has its lines, and as the last
-- piece what stands after the last feed; a line cut at its spaces has its words.
unfoldable pub split : ℕ → List ℕ → List (List ℕ)
split b [] = [] ∷ []
split b (c ∷ cs) = cond (eqb c b) ([] ∷ split b cs) (onto c (split b cs))

unfoldable pub all_digits : List ℕ → Bool
all_digits [] = true
all_digits (c ∷ cs) = is_digit c && all_digits cs

-- "Numbers are decimal without sign or leading zeros (0 is "0")."
unfoldable pub is_number : List ℕ → Bool
is_number [] = false
is_number (c ∷ []) = is_digit c
is_number (c ∷ d ∷ cs) = not (eqb c (digit 0)) && all_digits (c ∷ d ∷ cs)

-- What a line of numbers says: three numbers, or nothing, which is a fault of shape.
pub data Numbers : Type 0 where
  three : ℕ → ℕ → ℕ → Numbers
  none : Numbers

-- Three words, each a number.
unfoldable pub numbers_in : List (List ℕ) → Numbers
numbers_in (x ∷ y ∷ z ∷ []) = cond (is_number x && is_number y && is_number z) (three (value 0 x) (value 0 y) (value 0 z)) none
numbers_in (x ∷ y ∷ z ∷ w ∷ ws) = none
numbers_in (x ∷ y ∷ []) = none
numbers_in (x ∷ []) = none
numbers_in [] = none

-- "One space between numbers."
unfoldable pub numbers_of : List ℕ → Numbers
numbers_of line = numbers_in (split SPACE line)

-- ---- computed

cut : (split SPACE [] ≡ [] ∷ [])
    × (split SPACE (bytes "1 23") ≡ bytes "1" ∷ bytes "23" ∷ [])
    × (split SPACE (bytes " 1 ") ≡ [] ∷ bytes "1" ∷ [] ∷ [])
unfolding split
cut = (refl, refl, refl)

said : (numbers_of (bytes "0 12 4294967296") ≡ three 0 12 4294967296)
    × (numbers_of (bytes "1 2") ≡ none)
    × (numbers_of (bytes "1 2 3 4") ≡ none)
    × (numbers_of (bytes "1  2 3") ≡ none)
    × (numbers_of (bytes "1 2 3 ") ≡ none)
    × (numbers_of (bytes "1 2 03") ≡ none)
    × (numbers_of (bytes "1 2 00") ≡ none)
    × (numbers_of (bytes "1 2 +3") ≡ none)
    × (numbers_of (bytes "1 2 3:") ≡ none)
unfolding split all_digits is_number numbers_in numbers_of is_digit value
said = (refl, refl, refl, refl, refl, refl, refl, refl, refl)
