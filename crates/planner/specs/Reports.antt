-- What the program prints for the bytes of its input (document 01, "Numbers answered"): "a line for each model", or "the one line
-- `refused N at P`".
use Rattle.std.specs.Prelude.{ℕ, zero, suc, ◌-◌, cond, List, [], ◌++◌, ◌≡◌, refl, eqb, ltb, length, take, replicate}
use Rattle.numbers.specs.Texts.{bytes, digits, decimal}
use Rattle.figures.specs.Judge.{Result as Judgement, judged}
use Rattle.planner.specs.Plans.{Result, outcome}
use Rattle.planner.specs.declared.reports.Output.{Output}

-- "At most 8,192 bytes."
abbrev pub LONGEST : ℕ
LONGEST = 8192

-- "Uses limit 2^60."
abbrev pub LIMIT : ℕ
LIMIT = 1152921504606846976

-- "The model is a number from 0 to 2."
abbrev pub MODELS : ℕ
MODELS = 3

-- The plan by a model, in a room of 64 bytes, which are always enough.
unfoldable pub asked : Judgement → ℕ → Result
asked j model = outcome j model LIMIT (replicate 64 0)

-- "Model, cost, size and tree"; "every printed line ends in a line feed".
unfoldable pub spaced : ℕ → List ℕ
spaced x = decimal x ++ bytes " "

unfoldable pub line_of : ℕ → ℕ → ℕ → List ℕ → List ℕ
line_of model cost size tree = spaced model ++ spaced cost ++ spaced size ++ tree ++ bytes "\n"

unfoldable pub line : ℕ → Result → List ℕ
line model r = line_of model r.answer.cost r.answer.size (take r.answer.length r.room)

unfoldable pub refused_line : ℕ → ℕ → List ℕ
refused_line number place = bytes "refused " ++ decimal number ++ bytes " at " ++ decimal place ++ bytes "\n"

-- The lines of k models from `model` on, after what was said of those before; the one line where a plan is refused.
unfoldable pub lines : Judgement → ℕ → ℕ → List ℕ → List ℕ
lines j zero model said = said
lines j (suc k) model said =
    cond (eqb (asked j model).answer.number 0)
    (lines j k (suc model) (said ++ line model (asked j model)))
    (refused_line (asked j model).answer.number (asked j model).answer.place)

-- "More: 11 at place 8,192, before anything else."
unfoldable pub printed : List ℕ → List ℕ
printed text = cond (ltb LONGEST (length text)) (refused_line 11 LONGEST) (lines (judged text) MODELS 0 [])

-- The room for what is printed, which is more than is ever needed.
abbrev pub ROOM : ℕ
ROOM = 512

-- The bytes printed, and 0 past them.
abbrev pub output_of : List ℕ → Output
output_of said = record { bytes = said ++ replicate (ROOM - length said) 0; length = length said }

-- ---- computed: the first line of document 01's case 10, and a refusal

shown : (line_of 0 241000 240000 (bytes "((2,3),(1,4));") ≡ bytes "0 241000 240000 ((2,3),(1,4));\n")
    × (refused_line 16 0 ≡ bytes "refused 16 at 0\n")
unfolding digits decimal spaced line_of refused_line
shown = (refl, refl)
