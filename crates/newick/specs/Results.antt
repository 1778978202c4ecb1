-- What print answers and leaves behind, for accepted and refused calls alike (document 01, "Printing the tree", "Numbers answered").
use Rattle.std.specs.Prelude.{ℕ, ◌^◌, Bool, ◌||◌, cond, List, [], ◌∷◌, ◌++◌, ◌≡◌, refl, eqb, ltb, length, get_or, drop, replicate, Result as Outcome, Ok, Err}
use Rattle.numbers.specs.Texts.{bytes, digits, decimal}
use Rattle.relations.specs.Sets.{MOST, weight, mem, those, without, inside, all_of, first, lowest_to, lowest, rest, larger, is_relation}
use Rattle.table.specs.Results.{in_order}
use Rattle.table.specs.Rule.{NONE}
use Rattle.table.specs.Trees.{plan_in, plan_of}
use Rattle.newick.specs.Texts.{text, whole_text, digits_to, needed}
use Rattle.newick.specs.Walks.{faulty, meets, meets_fault}
use Rattle.newick.specs.declared.Refusal.{Refusal}
use Rattle.newick.specs.declared.Refusal.TheVariants.{Relations, ShortColumn, ShortText, NoPlan, NoTree}

-- ---- refusals

-- "A column needed is shorter than 2^n."
unfoldable pub short_column : ℕ → List ℕ → List ℕ → Bool
short_column n costs lefts = ltb (length costs) (2 ^ n) || ltb (length lefts) (2 ^ n)

-- "Print: 1, 6, 9, then 7 when the full row's cost is 2^64-1, then 10, exactly when the walk from the full set meets" a fault: the first of
-- these that there is, and 0 where there is none.
unfoldable pub unprinted : ℕ → List ℕ → List ℕ → ℕ → ℕ
unprinted n costs lefts room = in_order
    (cond (is_relation MOST n) 0 1
    ∷ cond (short_column n costs lefts) 6 0
    ∷ cond (ltb room (needed n)) 9 0
    ∷ cond (eqb (get_or costs (all_of n) 0) NONE) 7 0
    ∷ cond (meets_fault lefts (all_of n)) 10 0
    ∷ [])

-- ---- answers

-- "Print answers its number and the length written, 0 when refused."
pub record Answer : Type 0 where
  pub number : ℕ
  pub length : ℕ

-- The answer of the code by its number in document 01's table.
abbrev pub number_of : Refusal → ℕ
number_of Relations = 1
number_of ShortColumn = 6
number_of NoPlan = 7
number_of ShortText = 9
number_of NoTree = 10

abbrev pub answer : Outcome ℕ Refusal → Answer
answer (Ok length) = record { number = 0; length = length }
answer (Err why) = record { number = number_of why; length = 0 }

-- ---- the result

-- The answer, and what stands in the room lent for the text.
pub record Result : Type 0 where
  pub answer : Answer
  pub room : List ℕ

abbrev pub result_of : Outcome ℕ Refusal → List ℕ → Result
result_of r room = record { answer = answer r; room = room }

-- "Nothing written."
abbrev pub unwritten : List ℕ → ℕ → Result
unwritten room k = record { answer = record { number = k; length = 0 }; room = room }

-- "Bytes past the text stay."
abbrev pub written : List ℕ → List ℕ → Result
written room text = record {
  answer = record { number = 0; length = length text };
  room = text ++ drop (length text) room;
}

-- The text is that of the tree that the left parts give for all n relations.
unfoldable pub printed : ℕ → List ℕ → List ℕ → List ℕ → Result
printed n costs lefts room =
    cond (eqb (unprinted n costs lefts (length room)) 0)
    (written room (whole_text (plan_of lefts (all_of n))))
    (unwritten room (unprinted n costs lefts (length room)))

-- ---- computed: columns of three relations, with x in row 3 and y in row 7; the tree is ((1,2),3) where the left parts there are 1 and 3

abbrev column : ℕ → ℕ → List ℕ
column x y = 0 ∷ 0 ∷ 0 ∷ x ∷ 0 ∷ 0 ∷ 0 ∷ y ∷ []

-- Case 8; then each refusal where all that come after it are due, too.
judged : (unprinted 3 (column 20 106) (column 1 3) 10 ≡ 0)
    × (unprinted 3 (column 20 106) (column 1 3) 9 ≡ 9)
    × (unprinted 0 [] [] 0 ≡ 1)
    × (unprinted 16 [] [] 0 ≡ 1)
    × (unprinted 1 [] (0 ∷ 0 ∷ []) 1 ≡ 6)
    × (unprinted 1 (0 ∷ NONE ∷ []) (0 ∷ []) 1 ≡ 6)
    × (unprinted 3 (column 20 NONE) (column 0 3) 9 ≡ 9)
    × (unprinted 3 (column 20 NONE) (column 0 3) 10 ≡ 7)
    × (unprinted 3 (column 20 106) (column 0 3) 10 ≡ 10)
unfolding weight mem those without inside all_of first lowest_to lowest rest larger is_relation in_order digits decimal digits_to needed
    faulty meets meets_fault short_column unprinted
judged = (refl, refl, refl, refl, refl, refl, refl, refl, refl)

-- The text, and the bytes past it as they were.
laid : ((printed 3 (column 20 106) (column 1 3) (replicate 12 7)).room ≡ bytes "((1,2),3);" ++ (7 ∷ 7 ∷ []))
    × ((printed 3 (column 20 106) (column 1 3) (replicate 12 7)).answer ≡ record { number = 0; length = 10 })
unfolding weight mem those without inside all_of first lowest_to lowest rest larger is_relation in_order digits decimal digits_to needed
    plan_in plan_of text whole_text faulty meets meets_fault short_column unprinted printed
laid = (refl, refl)

-- Nothing where it is refused: each refusal by itself, all else as above.
kept : (printed 16 (column 20 106) (column 1 3) (replicate 12 7) ≡ unwritten (replicate 12 7) 1)
    × (printed 3 [] (column 1 3) (replicate 12 7) ≡ unwritten (replicate 12 7) 6)
    × (printed 3 (column 20 106) (column 1 3) (replicate 9 7) ≡ unwritten (replicate 9 7) 9)
    × (printed 3 (column 20 NONE) (column 1 3) (replicate 12 7) ≡ unwritten (replicate 12 7) 7)
    × (printed 3 (column 20 106) (column 0 3) (replicate 12 7) ≡ unwritten (replicate 12 7) 10)
unfolding weight mem those without inside all_of first lowest_to lowest rest larger is_relation in_order digits decimal digits_to needed
    plan_in plan_of text whole_text faulty meets meets_fault short_column unprinted printed
kept = (refl, refl, refl, refl, refl)
