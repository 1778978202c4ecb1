-- The public contract determines its answer and what it leaves in the room for the text.
use Prim.Native.Nat.{ℕ}
use native.Mathlib.Omega.{arith}
use mathlib.Core.List.{[], ◌∷◌}
use mathlib.Core.Path.{◌≡◌, refl, sym, ap, ◌∙◌}
use lib.ListN.{get_or}
use Rattle.std.specs.Prelude.{Ok, Err}
use Rattle.std.specs.Prelude.{Result as Outcome}
use Rattle.numbers.specs.Determined.{Determined, DeterminedWith}
use Rattle.newick.specs.Results.{Answer, number_of, answer, Result}
use Rattle.newick.specs.declared.Refusal.{Refusal}
use Rattle.newick.specs.declared.Refusal.TheVariants.{Relations, ShortColumn, NoPlan, ShortText, NoTree}
use Rattle.newick.proofs.Refusals.{number_pos}
use Rattle.newick.proofs.print.Reads as Print
use Rattle.newick.proofs.U32FromRefusal.from.Reads as NumberOf

-- A refusal is known by its number.
refusal_of : ℕ → Refusal
refusal_of k =
    get_or
    (NoTree ∷ Relations ∷ NoTree ∷ NoTree ∷ NoTree ∷ NoTree ∷ ShortColumn ∷ NoPlan ∷ NoTree ∷ ShortText ∷ []) k NoTree

refusal_of_lem : (why : Refusal) → refusal_of (number_of why) ≡ why
unfolding refusal_of
refusal_of_lem Relations = refl
refusal_of_lem ShortColumn = refl
refusal_of_lem NoPlan = refl
refusal_of_lem ShortText = refl
refusal_of_lem NoTree = refl

-- Number and length tell the answers apart.
answer_tells : (r q : Outcome ℕ Refusal) → answer r ≡ answer q → r ≡ q
answer_tells (Ok l) (Ok m) e = ap (λ (x : Answer). Ok x.length) e
answer_tells (Ok l) (Err w) e = absurd (omega (arith, ap (λ (x : Answer). x.number) e, number_pos w))
answer_tells (Err w) (Ok l) e = absurd (omega (arith, ap (λ (x : Answer). x.number) e, number_pos w))
answer_tells (Err w) (Err v) e = ap Err (sym (refusal_of_lem w) ∙ ap (λ (x : Answer). refusal_of x.number) e ∙ refusal_of_lem v)

print_determined : DeterminedWith Print.Post (λ x. x.1.1.1.0.now)
print_determined k a x y r q p s =
    let e = p ∙ sym s in
    (answer_tells r q (ap (λ (z : Result). z.answer) e), ap (λ (z : Result). z.room) e)

number_of_determined : Determined NumberOf.Post
number_of_determined k a x r q p s = p ∙ sym s
