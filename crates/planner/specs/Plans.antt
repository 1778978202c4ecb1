-- What is answered for the text of a figures file, a model, a limit and room for the tree (document 01, "Numbers answered").
use Rattle.std.specs.Prelude.{ℕ, ◌+◌, ◌-◌, ◌*◌, ◌/◌, ◌^◌, cond, List, [], ◌∷◌, ◌++◌, ◌≡◌, refl, eqb, leb, ltb, length, take, drop, replicate, Result as Outcome, Ok, Err}
use Rattle.numbers.specs.Texts.{digits, decimal}
use Rattle.relations.specs.Sets.{all_of, first}
use Rattle.charges.specs.Charges.{priced}
use Rattle.figures.specs.Judge.{Result as Judgement, number_of as file_number, judged}
use Rattle.figures.specs.declared.Figures.{Figures}
use Rattle.table.specs.Requests.{fill}
use Rattle.table.specs.Results.{Call, called, in_order, Result as Filled, result}
use Rattle.table.specs.Trees.{Tree, plan_of}
use Rattle.newick.specs.Texts.{whole_text, digits_to, needed}
use Rattle.planner.specs.declared.answers.Plan.{Plan}
use Rattle.planner.specs.declared.answers.Refusal.{Refusal}
use Rattle.planner.specs.declared.answers.Refusal.TheVariants.{File, Many, UnknownModel, HighLimit, ShortText, NoPlan}

-- ---- the fill

-- The most relations that are planned here: "more than 11 relations in the program or C call" are refused.
abbrev pub FEW : ℕ
FEW = 11

-- A column of its own, with a row for each set of so many relations.
abbrev pub column : List ℕ
column = replicate (2 ^ FEW) 0

-- The figures of n relations among those that were read: the first n counts, and the divisors of their pairs.
unfoldable pub counts_of : Figures → List ℕ
counts_of f = take f.n f.counts

unfoldable pub divisors_of : Figures → List ℕ
divisors_of f = take (f.n * (f.n - 1) / 2) f.divisors

-- Their fill.
unfoldable pub call_of : Figures → ℕ → ℕ → Call
call_of f model limit = called f.n (counts_of f) (divisors_of f) model limit column column column

unfoldable pub filled : Figures → ℕ → ℕ → Filled
filled f model limit = result fill (call_of f model limit)

-- Its tree.
unfoldable pub tree_of : Figures → ℕ → ℕ → Tree
tree_of f model limit = plan_of (filled f model limit).table.lefts (all_of f.n)

-- ---- refusals

-- "Order there: reader, 16, 4, 5, 9",
unfoldable pub unfit : Judgement → ℕ → ℕ → ℕ → ℕ
unfit j model limit room = in_order
    (j.number
    ∷ cond (ltb FEW j.figures.n) 16 0
    ∷ (priced model 0 0 0).number
    ∷ cond (leb limit (2 ^ 60)) 0 5
    ∷ cond (ltb room (needed j.figures.n)) 9 0
    ∷ [])

-- "7". Where none of these is due the fill is accepted, and its own answer is 0 or 7 (proofs/Demand2, `best-fill`).
unfoldable pub refusal : Judgement → ℕ → ℕ → ℕ → ℕ
refusal j model limit room = first (unfit j model limit room) (filled j.figures model limit).answer.number

-- ---- answers

-- The number of document 01's table, the place that comes with a refusal of the reader, and what comes with 0.
pub record Answer : Type 0 where
  pub number : ℕ
  pub place : ℕ
  pub cost : ℕ
  pub size : ℕ
  pub length : ℕ

-- The answer, and what stands in the room lent for the tree.
pub record Result : Type 0 where
  pub answer : Answer
  pub room : List ℕ

abbrev pub refused_with : ℕ → ℕ → Answer
refused_with number place = record { number = number; place = place; cost = 0; size = 0; length = 0 }

-- A refusal by its number in document 01's table, and its place: the reader's, or 0.
abbrev pub number_of : Refusal → ℕ
number_of (File fault) = file_number fault.why
number_of Many = 16
number_of UnknownModel = 4
number_of HighLimit = 5
number_of ShortText = 9
number_of NoPlan = 7

abbrev pub place_of : Refusal → ℕ
place_of (File fault) = fault.at
place_of Many = 0
place_of UnknownModel = 0
place_of HighLimit = 0
place_of ShortText = 0
place_of NoPlan = 0

abbrev pub answer : Outcome Plan Refusal → Answer
answer (Ok p) = record { number = 0; place = 0; cost = p.cost; size = p.size; length = p.length }
answer (Err why) = refused_with (number_of why) (place_of why)

abbrev pub result_of : Outcome Plan Refusal → List ℕ → Result
result_of x room = record { answer = answer x; room = room }

-- "Nothing written."
abbrev pub refused : ℕ → ℕ → List ℕ → Result
refused number place room = record { answer = refused_with number place; room = room }

-- The text of the tree, with its cost and its size; "bytes past the text stay".
abbrev pub written : Filled → Tree → List ℕ → Result
written r t room = record {
  answer = record { number = 0; place = 0; cost = r.answer.cost; size = r.answer.size; length = length (whole_text t) };
  room = whole_text t ++ drop (length (whole_text t)) room;
}

-- ---- the result

-- The place is the reader's: 0 where the text is accepted.
unfoldable pub outcome : Judgement → ℕ → ℕ → List ℕ → Result
outcome j model limit room =
    cond (eqb (refusal j model limit (length room)) 0)
    (written (filled j.figures model limit) (tree_of j.figures model limit) room)
    (refused (refusal j model limit (length room)) j.place room)

unfoldable pub planned : List ℕ → ℕ → ℕ → List ℕ → Result
planned text model limit room = outcome (judged text) model limit room

-- ---- computed: each refusal where those that come after it are due, too; 11 relations and 12

abbrev answering : ℕ → ℕ → Judgement
answering number n = record { number = number; place = 51; figures = record { n = n; counts = []; divisors = [] } }

ordered : (unfit (answering 12 12) 3 (2 ^ 60 + 1) 0 ≡ 12)
    × (unfit (answering 0 12) 3 (2 ^ 60 + 1) 0 ≡ 16)
    × (unfit (answering 0 11) 3 (2 ^ 60 + 1) 0 ≡ 4)
    × (unfit (answering 0 11) 2 (2 ^ 60 + 1) 0 ≡ 5)
    × (unfit (answering 0 11) 2 (2 ^ 60) 43 ≡ 9)
    × (unfit (answering 0 11) 2 (2 ^ 60) 44 ≡ 0)
unfolding first in_order priced digits decimal digits_to needed unfit
ordered = (refl, refl, refl, refl, refl, refl)
