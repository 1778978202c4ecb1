-- What is expected of the reader of figures files.
use Rattle.std.specs.Prelude.{ℕ, Bool, ◌&&◌, List, ◌∷◌, ◌++◌, eqb}
use Rattle.numbers.specs.Texts.{same_list, is_digit, value}
use Rattle.relations.specs.Sets.{is_relation}
use Rattle.figures.specs.declared.Figures.{Figures}
use Rattle.figures.specs.Lines.{FEED, split, all_digits, is_number, numbers_in, numbers_of}
use Rattle.relations.specs.Pairs.{before, place}
use Rattle.figures.specs.Entries.{in_triangle, zero_divisor, is_at, is_pair_at, given, all_counted, value_of, count_at, divisor_at, listed, figures_of, no_figures}
use Rattle.figures.specs.Judge.{Result, on_line, too_large, with_numbers, is_end, entry_lines, size_line, is_comment, comments, HEADING, first_line, judged}

-- The answer has this number and this place.
unfoldable pub is_answer : Result → ℕ → ℕ → Bool
is_answer r number place = eqb r.number number && eqb r.place place

-- A text that comes after line 1.
abbrev pub after_line1 : List ℕ → List ℕ
after_line1 rest = HEADING ++ FEED ∷ rest

-- The judge answers a text with this number and this place. By the definitions alone: each that they rest on is unfolded.
unfoldable pub answers_to : List ℕ → ℕ → ℕ → Bool
unfolding is_relation is_digit value same_list split all_digits is_number numbers_in numbers_of in_triangle zero_divisor is_at given all_counted
    on_line too_large with_numbers is_end entry_lines size_line is_comment comments first_line judged is_answer
answers_to text number place = is_answer (judged text) number place

-- The figures are n, these counts and these divisors; and the judge answers a text with such.
unfoldable pub has_figures : Figures → ℕ → List ℕ → List ℕ → Bool
has_figures f n counts divisors = eqb f.n n && same_list f.counts counts && same_list f.divisors divisors

unfoldable pub reads_as : List ℕ → ℕ → List ℕ → List ℕ → Bool
unfolding before place is_pair_at value_of count_at divisor_at listed figures_of no_figures answers_to has_figures
reads_as text n counts divisors = has_figures (judged text).figures n counts divisors
