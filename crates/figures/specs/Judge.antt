-- The judge of lines: what `read` answers for any text (document 01, "Figures file").
use Rattle.std.specs.Prelude.{ℕ, zero, suc, ◌+◌, Bool, true, false, cond, not, ◌||◌, List, [], ◌∷◌, ◌++◌, ◌≡◌, refl, eqb, ltb, length, replicate, Result as Outcome, Ok, Err}
use Prim.Native.String.{String}
use Rattle.numbers.specs.Texts.{bytes, same_list, is_digit, value}
use Rattle.relations.specs.Pairs.{place, before}
use Rattle.relations.specs.Sets.{MOST, is_relation}
use Rattle.figures.specs.Lines.{FEED, PERCENT, split, all_digits, is_number, Numbers, three, none, numbers_in, numbers_of}
use Rattle.figures.specs.Entries.{Entry, entry, in_triangle, zero_divisor, is_at, is_pair_at, given, all_counted, value_of, count_at, divisor_at, listed, figures_of, no_figures}
use Rattle.figures.specs.declared.Figures.{Figures}
use Rattle.figures.specs.declared.Refusal.{Refusal}
use Rattle.figures.specs.declared.Refusal.TheVariants.{Relations, Unequal, ZeroDivisor, Shape, NoCount, Twice, Outside, TooLarge}
use Rattle.figures.specs.declared.Fault.{Fault}

-- ---- answers

-- The answer's number in document 01's table, with the place that it carries, and the figures: "no figures answered; every figure and n
-- are zero" where it is a refusal.
pub record Result : Type 0 where
  pub number : ℕ
  pub place : ℕ
  pub figures : Figures

abbrev pub number_of : Refusal → ℕ
number_of Relations = 1
number_of Unequal = 2
number_of ZeroDivisor = 3
number_of Shape = 11
number_of NoCount = 12
number_of Twice = 13
number_of Outside = 14
number_of TooLarge = 15

abbrev pub accepted : ℕ → List Entry → Result
accepted n es = record { number = 0; place = 0; figures = figures_of n es }

abbrev pub refused : ℕ → ℕ → Result
refused k at = record { number = k; place = at; figures = no_figures }

-- What `read` answers, as document 01's table ("Numbers answered") has it.
abbrev pub result_of : Outcome Figures Fault → Result
result_of (Ok f) = record { number = 0; place = 0; figures = f }
result_of (Err fault) = refused (number_of fault.why) fault.at

-- A fault of the line at `at`, if it is one, is answered; if not, the judge goes on.
abbrev pub faulty : ℕ → ℕ → Bool → Result → Result
faulty k at fault r = cond fault (refused k at) r

-- ---- lines

-- In what follows `ls` are the lines that are left, and `at` is the start of the first. The last of them is no line: it is what stands
-- after the last feed. "A line that is missing altogether is 11, and so, as a fault of shape, is a last line without its feed." Of a line
-- that is there the judge goes on with its bytes, the start of the next and the lines after it.
unfoldable pub on_line : ℕ → List (List ℕ) → (List ℕ → ℕ → List (List ℕ) → Result) → Result
on_line at [] next = refused 11 at
on_line at (l ∷ []) next = refused 11 at
on_line at (l ∷ k ∷ ls) next = next l (at + length l + 1) (k ∷ ls)

abbrev pub LARGEST : ℕ
LARGEST = 4294967295

unfoldable pub too_large : ℕ → ℕ → ℕ → Bool
too_large a b c = ltb LARGEST a || ltb LARGEST b || ltb LARGEST c

-- "On one line: shape (11), number above 4,294,967,295 (15); then" what the kind of line asks for.
unfoldable pub with_numbers : ℕ → Numbers → (ℕ → ℕ → ℕ → Result) → Result
with_numbers at none next = refused 11 at
with_numbers at (three a b c) next = faulty 15 at (too_large a b c) (next a b c)

-- ---- the judge

-- Nothing is left of the text.
unfoldable pub is_end : List (List ℕ) → Bool
is_end ([] ∷ []) = true
is_end ([] ∷ l ∷ ls) = false
is_end ((c ∷ cs) ∷ ls) = false
is_end [] = false

-- m entry lines, after those that gave the entries `es`: "on an entry line, place not in the lower triangle of n by n (14), a place given
-- twice (13), d of 0 (3). After the last line: extra bytes (11), then a missing diagonal (12)."
unfoldable pub entry_lines : ℕ → ℕ → List Entry → ℕ → List (List ℕ) → Result
entry_lines n zero es at ls = faulty 11 at (not (is_end ls)) (faulty 12 at (not (all_counted n es)) (accepted n es))
entry_lines n (suc m) es at ls =
    on_line at ls (λ l next rest.
    with_numbers at (numbers_of l) (λ i j v.
    faulty 14 at (not (in_triangle n i j))
    (faulty 13 at (given i j es)
    (faulty 3 at (zero_divisor (entry i j v))
    (entry_lines n m (entry i j v ∷ es) next rest)))))

-- "Then a size line of three numbers: n, n and the number of entry lines": "first two unequal (2), n not 1 to 15 (1)."
unfoldable pub size_line : ℕ → List (List ℕ) → Result
size_line at ls =
    on_line at ls (λ l next rest.
    with_numbers at (numbers_of l) (λ n b m.
    faulty 2 at (not (eqb n b))
    (faulty 1 at (not (is_relation MOST n))
    (entry_lines n m [] next rest))))

unfoldable pub is_comment : List ℕ → Bool
is_comment [] = false
is_comment (c ∷ cs) = eqb c PERCENT

-- "Then any number of lines beginning %."
unfoldable pub comments : ℕ → List (List ℕ) → Result
comments at [] = size_line at []
comments at (l ∷ []) = size_line at (l ∷ [])
comments at (l ∷ k ∷ ls) = cond (is_comment l) (comments (at + length l + 1) (k ∷ ls)) (size_line at (l ∷ k ∷ ls))

-- "Line 1 is exactly" this.
abbrev pub HEADING : List ℕ
HEADING = bytes "%%MatrixMarket matrix coordinate integer symmetric"

unfoldable pub first_line : List (List ℕ) → Result
first_line ls = on_line 0 ls (λ l next rest. faulty 11 0 (not (same_list l HEADING)) (comments next rest))

-- "Lines are judged from the top."
unfoldable pub judged : List ℕ → Result
judged text = first_line (split FEED text)

-- ---- computed: the number and the place that are answered; where a text follows line 1, that has 51 bytes with its feed

-- No figure is left where a text is refused.
none_left : (judged []).figures ≡ record { n = 0; counts = replicate 15 0; divisors = replicate 105 0 }
unfolding split no_figures on_line first_line judged
none_left = refl

answer : List ℕ → List ℕ
answer text = (judged text).number ∷ (judged text).place ∷ []

after : String → List ℕ
after rest = answer (HEADING ++ bytes "\n" ++ bytes rest)

-- Line 1, and comments.
top : (answer [] ≡ 11 ∷ 0 ∷ [])
    × (answer HEADING ≡ 11 ∷ 0 ∷ [])
    × (answer (HEADING ++ bytes " \n1 1 1\n1 1 5\n") ≡ 11 ∷ 0 ∷ [])
    × (after "% no feed" ≡ 11 ∷ 51 ∷ [])
    × (after "%\n% no size line\n" ≡ 11 ∷ 68 ∷ [])
    × (after "%\n%2 2 2\n1 1 1\n1 1 5\n" ≡ 0 ∷ 0 ∷ [])
unfolding answer after before place is_relation is_digit value same_list split all_digits is_number numbers_in numbers_of in_triangle zero_divisor
    is_at is_pair_at given all_counted value_of count_at divisor_at listed figures_of no_figures on_line too_large with_numbers is_end entry_lines size_line
    is_comment comments first_line judged
top = (refl, refl, refl, refl, refl, refl)

-- The size line: each refusal where those that come after it are due, too.
sizes : (after "" ≡ 11 ∷ 51 ∷ [])
    × (after "0 4294967296\n" ≡ 11 ∷ 51 ∷ [])
    × (after "0 1 4294967296\n" ≡ 15 ∷ 51 ∷ [])
    × (after "0 1 4294967295\n" ≡ 2 ∷ 51 ∷ [])
    × (after "0 0 0\n" ≡ 1 ∷ 51 ∷ [])
    × (after "16 16 0\n" ≡ 1 ∷ 51 ∷ [])
    × (after "15 15 4294967295\n1 1 10\n" ≡ 11 ∷ 75 ∷ [])
unfolding answer after before place is_relation is_digit value same_list split all_digits is_number numbers_in numbers_of in_triangle zero_divisor
    is_at is_pair_at given all_counted value_of count_at divisor_at listed figures_of no_figures on_line too_large with_numbers is_end entry_lines size_line
    is_comment comments first_line judged
sizes = (refl, refl, refl, refl, refl, refl, refl)

-- Entry lines: the same, and case 9; then what follows them.
below : (after "2 2 3\n2 1 5\n3 1 4294967296 \n" ≡ 11 ∷ 63 ∷ [])
    × (after "2 2 3\n2 1 5\n3 1 4294967296\n" ≡ 15 ∷ 63 ∷ [])
    × (after "2 2 2\n1 1 10\n1 2 5\n" ≡ 14 ∷ 64 ∷ [])
    × (after "2 2 3\n2 1 5\n2 1 0\n" ≡ 13 ∷ 63 ∷ [])
    × (after "2 2 3\n1 1 0\n2 1 0\n" ≡ 3 ∷ 63 ∷ [])
    × (after "2 2 1\n1 1 10\n\n" ≡ 11 ∷ 64 ∷ [])
    × (after "2 2 1\n1 1 10\n" ≡ 12 ∷ 64 ∷ [])
    × (after "2 2 3\n2 2 0\n2 1 5\n1 1 10\n" ≡ 0 ∷ 0 ∷ [])
unfolding answer after before place is_relation is_digit value same_list split all_digits is_number numbers_in numbers_of in_triangle zero_divisor
    is_at is_pair_at given all_counted value_of count_at divisor_at listed figures_of no_figures on_line too_large with_numbers is_end entry_lines size_line
    is_comment comments first_line judged
below = (refl, refl, refl, refl, refl, refl, refl, refl)
