-- What only the contracts of the inner functions cite. No promise to a caller rests on it.
use Rattle.std.specs.Prelude.{ℕ, suc, ◌-◌, ◌≤◌, ◌<◌, min, Bool, true, false, cond, List, [], ◌≡◌, eqb, drop, get_or, set, Option, Some, None, IfOk, Result as Outcome, Ok, Err}
use Rattle.std.specs.List.{position_from, list_all, range_with_len}
use Rattle.numbers.specs.Texts.{value}
use Rattle.relations.specs.Pairs.{place}
use Rattle.relations.specs.Sets.{MOST, is_relation}
use Rattle.figures.specs.Lines.{FEED, split, is_number, Numbers, three, none, numbers_of}
use Rattle.figures.specs.Entries.{Entry, in_triangle}
use Rattle.figures.specs.Judge.{Result, number_of, refused, on_line, LARGEST, with_numbers}
use Rattle.figures.specs.declared.Fault.{Fault}
use Rattle.figures.specs.declared.Figures.{Figures}

-- ---- words

-- How many bytes stand before the first b, where there is one.
abbrev pub first_of : ℕ → List ℕ → Option ℕ
first_of b = position_from (λ c. eqb c b) 0

-- A number held one above the largest, where it stands for every number that is too large.
abbrev pub held : ℕ → ℕ
held k = min k (suc LARGEST)

unfoldable pub word_of : List ℕ → Option ℕ
word_of w = cond (is_number w) (Some (held (value 0 w))) None

abbrev pub words_of : Numbers → Option (ℕ × ℕ × ℕ)
words_of (three a b c) = Some (held a, held b, held c)
words_of none = None

-- ---- lines

-- The lines of a text from a place on.
abbrev pub lines_at : List ℕ → ℕ → List (List ℕ)
lines_at text at = split FEED (drop at text)

-- A line of numbers, as its reader answers it: the numbers, and the place after it.
abbrev pub LineRead : Type 0
LineRead = Outcome (ℕ × ℕ × ℕ × ℕ) Fault

-- What a reader of lines answers, as the judge has it: it goes on, or the line is refused.
abbrev pub passed : Outcome ℕ Fault → (ℕ → Result) → Result
passed (Ok next) go = go next
passed (Err fault) go = refused (number_of fault.why) fault.at

abbrev pub told : LineRead → (ℕ → ℕ → ℕ → ℕ → Result) → Result
told (Ok x) go = go x.0 x.1 x.2 x.3
told (Err fault) go = refused (number_of fault.why) fault.at

-- How the judge goes on after a line of numbers: with the numbers, the place after the line and the lines from there on.
abbrev pub Going : Type 0
Going = ℕ → ℕ → ℕ → ℕ → List (List ℕ) → Result

-- The answer of a reader of the line at `at`, which also judges what `judge` puts before the rest.
abbrev pub Reads : List ℕ → ℕ → LineRead → (Going → Going) → Type 0
Reads text at x judge =
    (go : Going)
    → told x (λ a b c next. go a b c next (lines_at text next))
    ≡ on_line at (lines_at text at) (λ l next rest. with_numbers at (numbers_of l) (λ a b c. judge go a b c next rest))

-- The next line starts after this one, within the text.
abbrev pub Onward : ℕ → ℕ → LineRead → Type 0
Onward at end x = IfOk x (λ l. (at < l.3) × (l.3 ≤ end))

-- A size line that was not refused.
abbrev pub Sized : LineRead → Type 0
Sized x = IfOk x (λ l. is_relation MOST l.0 ≡ true)

-- An entry that was not refused.
abbrev pub Inside : ℕ → LineRead → Type 0
Inside n x = IfOk x (λ l. in_triangle n l.0 l.1 ≡ true)

-- ---- entries

-- The figures with one entry stored: a relation's count, or the divisor of a pair.
unfoldable pub with_entry : Figures → Entry → Figures
with_entry f e =
    cond (eqb e.row e.column)
    (record { n = f.n; counts = set f.counts (e.row - 1) e.value; divisors = f.divisors })
    (record { n = f.n; counts = f.counts; divisors = set f.divisors (place e.row e.column) e.value })

-- The flag at (i, j) of an array of arrays; and the diagonal's, of the first n.
abbrev pub flag : List (List Bool) → ℕ → ℕ → Bool
flag seen i j = get_or (get_or seen i []) j false

abbrev pub all_seen : List (List Bool) → ℕ → Bool
all_seen seen n = list_all (λ k. flag seen k k) (range_with_len 0 n)
