-- Each public contract determines its answer and what it leaves in all memory lent.
use Rattle.std.proofs.Common.{◌≡◌, ℕ, List, [], ◌∷◌, get_or, sym, refl, ap, ◌∙◌, arith}
use Rattle.std.specs.Prelude.{Result as Outcome, Ok, Err}
use Rattle.numbers.specs.Determined.{Determined, DeterminedWith}
use Rattle.table.specs.Tables.{Table, columns}
use Rattle.table.specs.Results.{number_of, Answer, answer, Result}
use Rattle.table.specs.declared.Plan.{Plan}
use Rattle.table.specs.declared.Refusal.{Refusal}
use Rattle.table.specs.declared.Refusal.TheVariants.{Relations, Lengths, ZeroDivisor, UnknownModel, HighLimit, ShortColumn, NoPlan, Name}
use Rattle.table.proofs.Refusals.{number_pos}
use Rattle.table.proofs.fill.Reads as Fill
use Rattle.table.proofs.edit_count.Reads as EditCount
use Rattle.table.proofs.edit_pair.Reads as EditPair
use Rattle.table.proofs.RefusalFromUnknownModel.from.Reads as Unknown
use Rattle.table.proofs.U32FromRefusal.from.Reads as NumberOf

-- A refusal is known by its number.
refusal_of : ℕ → Refusal
refusal_of k = get_or (Name ∷ Relations ∷ Lengths ∷ ZeroDivisor ∷ UnknownModel ∷ HighLimit ∷ ShortColumn ∷ NoPlan ∷ Name ∷ []) k Name

refusal_of_lem : (why : Refusal) → refusal_of (number_of why) ≡ why
unfolding refusal_of
refusal_of_lem Relations = refl
refusal_of_lem Lengths = refl
refusal_of_lem ZeroDivisor = refl
refusal_of_lem UnknownModel = refl
refusal_of_lem HighLimit = refl
refusal_of_lem ShortColumn = refl
refusal_of_lem NoPlan = refl
refusal_of_lem Name = refl

-- Number, cost and size tell the answers apart.
answer_tells : (r q : Outcome Plan Refusal) → answer r ≡ answer q → r ≡ q
answer_tells (Ok p) (Ok o) e = ap (λ (x : Answer). Ok (record { cost = x.cost; size = x.size })) e
answer_tells (Ok p) (Err w) e = absurd (omega (arith, ap (λ (x : Answer). x.number) e, number_pos w))
answer_tells (Err w) (Ok p) e = absurd (omega (arith, ap (λ (x : Answer). x.number) e, number_pos w))
answer_tells (Err w) (Err v) e = ap Err (sym (refusal_of_lem w) ∙ ap (λ (x : Answer). refusal_of x.number) e ∙ refusal_of_lem v)

told : {x y : Result} → x ≡ y → (r q : Outcome Plan Refusal) → x.answer ≡ answer r → y.answer ≡ answer q → r ≡ q
told e r q p s = answer_tells r q (sym p ∙ ap (λ (z : Result). z.answer) e ∙ s)

-- A fill leaves the three columns.
fill_determined : DeterminedWith Fill.Post (λ x. columns x.1.1.1.1.1.0.now x.1.1.1.1.1.1.0.now x.1.1.1.1.1.1.1.0.now)
fill_determined k a x y r q p s =
    let e = p.0 ∙ sym s.0 in
    (told e r q refl refl, ap (λ (z : Result). z.table) e)

-- An edit of a count leaves the counts and the columns, an edit of a pair the divisors and the columns.
count_determined : DeterminedWith {L = List ℕ × Table} EditCount.Post
    (λ x. (x.1.0.now, columns x.1.1.1.1.1.0.now x.1.1.1.1.1.1.0.now x.1.1.1.1.1.1.1.0.now))
count_determined k a x y r q p s =
    let e = p.0 ∙ sym s.0 in
    (told e r q refl refl, ap (λ (z : Result). (z.figures.counts, z.table)) e)

pair_determined : DeterminedWith {L = List ℕ × Table} EditPair.Post
    (λ x. (x.1.1.0.now, columns x.1.1.1.1.1.0.now x.1.1.1.1.1.1.0.now x.1.1.1.1.1.1.1.0.now))
pair_determined k a x y r q p s =
    let e = p.0 ∙ sym s.0 in
    (told e r q refl refl, ap (λ (z : Result). (z.figures.divisors, z.table)) e)

unknown_determined : Determined Unknown.Post
unknown_determined k a x r q p s = p ∙ sym s

number_of_determined : Determined NumberOf.Post
number_of_determined k a x r q p s = p ∙ sym s
