-- What only the contracts of the inner functions cite. No promise to a caller rests on it.
use Rattle.std.specs.Prelude.{ℕ, Bool, ◌||◌, cond, List, eqb}
use Rattle.figures.specs.Judge.{Result as Judgement}
use Rattle.figures.specs.declared.Figures.{Figures}
use Rattle.table.specs.Results.{Result as Filled}
use Rattle.newick.specs.Results.{Result as Print, printed}
use Rattle.planner.specs.Plans.{Result, refused}

-- Figures that were read, as the judge answers them.
abbrev pub accepted : Figures → Judgement
accepted f = record { number = 0; place = 0; figures = f }

-- What print answers, with the cost and size of the plan where it prints one.
abbrev pub shown : ℕ → ℕ → Print → Result
shown cost size p = record {
  answer = record {
    number = p.answer.number;
    place = 0;
    cost = cond (eqb p.answer.number 0) cost 0;
    size = cond (eqb p.answer.number 0) size 0;
    length = p.answer.length;
  };
  room = p.room;
}

-- What is answered after a fill of n relations: its own refusal but for 7, which print answers after 9.
unfoldable pub after_fill : Filled → ℕ → List ℕ → Result
after_fill r n room =
    cond (eqb r.answer.number 0 || eqb r.answer.number 7)
    (shown r.answer.cost r.answer.size (printed n r.table.costs r.table.lefts room))
    (refused r.answer.number 0 room)

-- What there is to answer once the figures of few relations were read: a plan, 4, 5, 9 or 7.
abbrev pub is_due : ℕ → Bool
is_due k = eqb k 0 || eqb k 4 || eqb k 5 || eqb k 9 || eqb k 7
