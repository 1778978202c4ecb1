-- A result as an export tells it, number by number: it is the result that the exported function is defined to have.
use Rattle.std.specs.Prelude.{ℕ, List}
use Rattle.table.specs.Figures.{figures}
use Rattle.table.specs.Tables.{columns}
use Rattle.table.specs.Results.{Answer, Result}
use Rattle.newick.specs.Results.{Result as PrintResult}
use Rattle.figures.specs.Judge.{Result as ReadResult}

-- Of a fill or an edit.
abbrev pub answered : ℕ → ℕ → ℕ → Answer
answered number cost size = record { number = number; cost = cost; size = size }

abbrev pub plan : ℕ → ℕ → ℕ → List ℕ → List ℕ → List ℕ → List ℕ → List ℕ → Result
plan number cost size counts divisors sizes costs lefts = record {
  answer = answered number cost size;
  figures = figures counts divisors;
  table = columns sizes costs lefts;
}

-- Of print.
abbrev pub text : ℕ → ℕ → List ℕ → PrintResult
text number length room = record { answer = record { number = number; length = length }; room = room }

-- Of read.
abbrev pub reading : ℕ → ℕ → ℕ → List ℕ → List ℕ → ReadResult
reading number place n counts divisors = record {
  number = number;
  place = place;
  figures = record { n = n; counts = counts; divisors = divisors };
}
