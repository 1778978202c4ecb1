-- The public contract determines its answer: number, place and figures tell it.
use Prim.Native.Nat.{ℕ}
use native.Mathlib.Omega.{arith}
use mathlib.Core.List.{[], ◌∷◌}
use mathlib.Core.Path.{◌≡◌, refl, sym, ap, ap₂, ◌∙◌}
use lib.ListN.{get_or}
use Rattle.std.specs.Prelude.{Result as Outcome, Ok, Err}
use Rattle.numbers.specs.Determined.{Determined}
use Rattle.figures.specs.Judge.{Result, number_of, result_of}
use Rattle.figures.specs.declared.Fault.{Fault}
use Rattle.figures.specs.declared.Figures.{Figures}
use Rattle.figures.specs.declared.Refusal.{Refusal}
use Rattle.figures.specs.declared.Refusal.TheVariants.{Relations, Unequal, ZeroDivisor, Shape, NoCount, Twice, Outside, TooLarge}
use Rattle.figures.proofs.Accepted.{number_pos}
use Rattle.figures.proofs.read.Reads as Read
use Rattle.figures.proofs.U32FromRefusal.from.Reads as NumberOf

-- A refusal is known by its number.
refusal_of : ℕ → Refusal
refusal_of k =
    get_or
    (Shape ∷ Relations ∷ Unequal ∷ ZeroDivisor ∷ Shape ∷ Shape ∷ Shape ∷ Shape ∷ Shape ∷ Shape ∷ Shape ∷ Shape ∷ NoCount ∷ Twice ∷ Outside ∷ []) k
    TooLarge

refusal_of_lem : (why : Refusal) → refusal_of (number_of why) ≡ why
unfolding refusal_of
refusal_of_lem Relations = refl
refusal_of_lem Unequal = refl
refusal_of_lem ZeroDivisor = refl
refusal_of_lem Shape = refl
refusal_of_lem NoCount = refl
refusal_of_lem Twice = refl
refusal_of_lem Outside = refl
refusal_of_lem TooLarge = refl

-- Number and place tell the refusals apart, and figures are none.
answer_tells : (r q : Outcome Figures Fault) → result_of r ≡ result_of q → r ≡ q
answer_tells (Ok f) (Ok g) e = ap (λ (z : Result). Ok z.figures) e
answer_tells (Ok f) (Err y) e = absurd (omega (arith, number_pos y.why, ap (λ (z : Result). z.number) e))
answer_tells (Err x) (Ok g) e = absurd (omega (arith, number_pos x.why, ap (λ (z : Result). z.number) e))
answer_tells (Err x) (Err y) e =
    ap₂ (λ (w : Refusal) (p : ℕ). Err (record { why = w; at = p }))
    (sym (refusal_of_lem x.why) ∙ ap (λ (z : Result). refusal_of z.number) e ∙ refusal_of_lem y.why)
    (ap (λ (z : Result). z.place) e)

read_determined : Determined Read.Post
read_determined k a x r q p s = answer_tells r q (p ∙ sym s)

number_of_determined : Determined NumberOf.Post
number_of_determined k a x r q p s = p ∙ sym s
