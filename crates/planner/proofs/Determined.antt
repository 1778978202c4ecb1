-- The public contracts determine their answers, and what is left in the room for the tree.
use Prim.Native.Nat.{ℕ}
use native.Mathlib.Omega.{arith}
use mathlib.Core.List.{[], ◌∷◌}
use mathlib.Core.Path.{◌≡◌, refl, sym, ap, ◌∙◌}
use lib.ListN.{get_or}
use Rattle.std.specs.Prelude.{Result as Outcome, Ok, Err}
use Rattle.numbers.specs.Determined.{Determined, DeterminedWith}
use Rattle.figures.specs.Judge.{number_of as file_number}
use Rattle.figures.specs.declared.Refusal.{Refusal as FileRefusal}
use Rattle.figures.specs.declared.Refusal.TheVariants as file
use Rattle.planner.specs.Plans.{Answer, number_of, place_of, answer, Result}
use Rattle.planner.specs.declared.answers.Plan.{Plan}
use Rattle.planner.specs.declared.answers.Refusal.{Refusal}
use Rattle.planner.specs.declared.answers.Refusal.TheVariants.{File, Many, UnknownModel, HighLimit, ShortText, NoPlan}
use Rattle.planner.proofs.Outcomes.{number_pos}
use Rattle.planner.proofs.plan.Reads as PlanOf
use Rattle.planner.proofs.answers.Refusal.place.Reads as Place
use Rattle.planner.proofs.answers.RefusalFromFault.from.Reads as FromFault
use Rattle.planner.proofs.answers.U32FromRefusal.from.Reads as NumberOf
use Rattle.planner.proofs.reports.report.Reads as Report

-- A refusal is known by its number and its place.
refusal_of : ℕ → ℕ → Refusal
refusal_of k at =
    get_or
    (
    Many
    ∷ of_file file.Relations
    ∷ of_file file.Unequal
    ∷ of_file file.ZeroDivisor
    ∷ UnknownModel
    ∷ HighLimit
    ∷ Many
    ∷ NoPlan
    ∷ Many
    ∷ ShortText
    ∷ Many
    ∷ of_file file.Shape
    ∷ of_file file.NoCount
    ∷ of_file file.Twice
    ∷ of_file file.Outside
    ∷ of_file file.TooLarge
    ∷ []
    ) k Many
  where
    of_file : FileRefusal → Refusal
    of_file why = File (record { why = why; at = at })

of_file : (why : FileRefusal) (at : ℕ) → refusal_of (file_number why) at ≡ File (record { why = why; at = at })
unfolding refusal_of
of_file file.Relations at = refl
of_file file.Unequal at = refl
of_file file.ZeroDivisor at = refl
of_file file.Shape at = refl
of_file file.NoCount at = refl
of_file file.Twice at = refl
of_file file.Outside at = refl
of_file file.TooLarge at = refl

refusal_of_lem : (why : Refusal) → refusal_of (number_of why) (place_of why) ≡ why
unfolding refusal_of
refusal_of_lem (File fault) = of_file fault.why fault.at
refusal_of_lem Many = refl
refusal_of_lem UnknownModel = refl
refusal_of_lem HighLimit = refl
refusal_of_lem ShortText = refl
refusal_of_lem NoPlan = refl

answer_tells : (x y : Outcome Plan Refusal) → answer x ≡ answer y → x ≡ y
answer_tells (Ok p) (Ok q) e = λ i. Ok (record { cost = (e i).cost; size = (e i).size; length = (e i).length })
answer_tells (Ok p) (Err why) e = absurd (omega (arith, number_pos why, ap (λ (a : Answer). a.number) e))
answer_tells (Err why) (Ok p) e = absurd (omega (arith, number_pos why, ap (λ (a : Answer). a.number) e))
answer_tells (Err x) (Err y) e = λ i. Err ((sym (refusal_of_lem x) ∙ ap (λ (a : Answer). refusal_of a.number a.place) e ∙ refusal_of_lem y) i)

plan_determined : DeterminedWith PlanOf.Post (λ x. x.1.1.1.0.now)
plan_determined k a x y r q p s =
    let e = p.0 ∙ sym s.0 in
    (answer_tells r q (ap (λ (z : Result). z.answer) e), ap (λ (z : Result). z.room) e)

fault_determined : Determined FromFault.Post
fault_determined k a x r q p s = p ∙ sym s

place_determined : Determined Place.Post
place_determined k a x r q p s = p ∙ sym s

number_of_determined : Determined NumberOf.Post
number_of_determined k a x r q p s = p ∙ sym s

report_determined : Determined Report.Post
report_determined k a x r q p s = p ∙ sym s
