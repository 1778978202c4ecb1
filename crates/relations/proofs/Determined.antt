-- Each public contract determines its result.
use Rattle.std.proofs.Common.{◌≡◌, ℕ, Option, None, Some, refl, sym, ap, ◌∙◌}
use Rattle.numbers.specs.Determined.{Determined, DeterminedWith}
use Rattle.relations.specs.Sets.{LowestFirst}
use Rattle.relations.specs.declared.Set.{Set}
use Rattle.relations.specs.declared.MembersIter.{MembersIter}
use Rattle.relations.proofs.is_relation.Reads as IsRelation
use Rattle.relations.proofs.Set.one.Reads as One
use Rattle.relations.proofs.Set.all.Reads as All
use Rattle.relations.proofs.Set.lowest.Reads as Lowest
use Rattle.relations.proofs.Set.rest.Reads as Rest
use Rattle.relations.proofs.Set.members.Reads as Members
use Rattle.relations.proofs.Set.is_single.Reads as Single
use Rattle.relations.proofs.Set.is_larger.Reads as Larger
use Rattle.relations.proofs.Set.holds.Reads as Holds
use Rattle.relations.proofs.Set.minus.Reads as Minus
use Rattle.relations.proofs.Set.next_left.Reads as NextLeft
use Rattle.relations.proofs.MembersIterIterator.next.Reads as Next
use Rattle.relations.proofs.pairs.place.Reads as Place
use Rattle.relations.proofs.pairs.place_below.Reads as PlaceBelow

-- A set is its number.
same_set : (A B : Set) → A.number ≡ B.number → A ≡ B
same_set A B e = ap (λ n. record { number = n }) e

-- What goes over a set is what is left of it.
same_members : (r q : MembersIter) → r.left ≡ q.left → r ≡ q
same_members r q e = ap (λ (S : Set). record { left = S }) e

is_relation_determined : Determined IsRelation.Post
is_relation_determined k a x r q p s = p ∙ sym s

one_determined : Determined One.Post
one_determined k a x r q p s = same_set r q (p ∙ sym s)

all_determined : Determined All.Post
all_determined k a x r q p s = same_set r q (p ∙ sym s)

lowest_determined : Determined Lowest.Post
lowest_determined k a x r q p s = p ∙ sym s

rest_determined : Determined Rest.Post
rest_determined k a x r q p s = same_set r q (p ∙ sym s)

members_determined : Determined Members.Post
members_determined k a x r q p s = same_members r q (p ∙ sym s)

-- A step gives the lowest, or none, and leaves the rest.
step_tells : (S : ℕ) (r q : Option ℕ) (T U : MembersIter) → LowestFirst S r T.left.number → LowestFirst S q U.left.number → (r ≡ q) × (T ≡ U)
step_tells S None None T U p s = (refl, same_members T U (same_set T.left U.left (p.1 ∙ sym s.1)))
step_tells S None (Some k) T U p s = absurd (s.0 p.0)
step_tells S (Some k) None T U p s = absurd (p.0 s.0)
step_tells S (Some k) (Some j) T U p s = (ap Some (p.1 ∙ sym s.1), same_members T U (same_set T.left U.left (p.2 ∙ sym s.2)))

next_determined : DeterminedWith Next.Post (λ x. x.0.now)
next_determined k a x y r q p s = step_tells a.0.now.left.number r q x.0.now y.0.now p.0 s.0

single_determined : Determined Single.Post
single_determined k a x r q p s = p ∙ sym s

larger_determined : Determined Larger.Post
larger_determined k a x r q p s = p ∙ sym s

holds_determined : Determined Holds.Post
holds_determined k a x r q p s = p ∙ sym s

minus_determined : Determined Minus.Post
minus_determined k a x r q p s = same_set r q (p ∙ sym s)

next-left_determined : Determined NextLeft.Post
next-left_determined k a x r q p s = same_set r q (p.0 ∙ sym s.0)

place_determined : Determined Place.Post
place_determined k a x r q p s = p ∙ sym s

place-below_determined : Determined PlaceBelow.Post
place-below_determined k a x r q p s = p ∙ sym s
