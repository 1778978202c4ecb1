-- Text as bytes, and numbers in decimal.
use Rattle.std.specs.Prelude.{ℕ, zero, suc, ◌+◌, ◌-◌, ◌*◌, ◌/◌, ◌%◌, Bool, true, false, cond, ◌&&◌, List, [], ◌∷◌, ◌++◌, ◌≡◌, refl, eqb, leb}
use Prim.Native.String.{String}
use Prim.Native.String as Str
use Prim.Native.Char.{code}

-- A text of ASCII, byte by byte.
abbrev pub bytes : String → List ℕ
bytes Str.[] = []
bytes (Str.◌∷◌ c s) = code c ∷ bytes s

-- The two are the same, byte by byte.
unfoldable pub same_list : List ℕ → List ℕ → Bool
same_list [] [] = true
same_list [] (y ∷ ys) = false
same_list (x ∷ xs) [] = false
same_list (x ∷ xs) (y ∷ ys) = eqb x y && same_list xs ys

-- ---- numbers written

-- The byte of a digit.
abbrev pub digit : ℕ → ℕ
digit d = 48 + d

-- The digits of a number, at most f of them: those of the number without its last digit, and then the last. A 0 has none, so that no number
-- begins with one.
unfoldable pub digits : ℕ → ℕ → List ℕ
digits zero k = []
digits (suc f) zero = []
digits (suc f) (suc k) = digits f (suc k / 10) ++ (digit (suc k % 10) ∷ [])

-- A number "in decimal", "without sign or leading zeros (0 is "0")".
unfoldable pub decimal : ℕ → List ℕ
decimal zero = bytes "0"
decimal (suc k) = digits (suc k) (suc k)

-- ---- numbers read

-- The byte is that of a digit.
unfoldable pub is_digit : ℕ → Bool
is_digit c = leb (digit 0) c && leb c (digit 9)

-- The number that the leading digits say, after digits that say a.
unfoldable pub value : ℕ → List ℕ → ℕ
value a [] = a
value a (c ∷ cs) = cond (is_digit c) (value (10 * a + (c - digit 0)) cs) a

-- ---- computed

written : (decimal 0 ≡ bytes "0") × (decimal 9 ≡ bytes "9") × (decimal 10 ≡ bytes "10") × (decimal 4294967295 ≡ bytes "4294967295")
unfolding digits decimal
written = (refl, refl, refl, refl)

read : (value 0 (bytes "0") ≡ 0) × (value 0 (bytes "10 ") ≡ 10) × (value 0 (bytes "4294967295") ≡ 4294967295) × (value 0 (bytes "/9") ≡ 0) × (value 0 (bytes ":") ≡ 0)
unfolding is_digit value
read = (refl, refl, refl, refl, refl)
