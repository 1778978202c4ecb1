-- The comparison of two lists.
use Prim.Native.Nat.{ℕ}
use mathlib.Core.Path.{◌≡◌, refl, sym, ap₂}
use mathlib.Core.Bool.{true, true≢false}
use mathlib.Core.List.{List, [], ◌∷◌}
use lib.Dec.{eqb}
use borrow.Author.Tests.{eqb-true}
use Rattle.numbers.specs.Texts.{same_list}
use Rattle.numbers.proofs.Tests.{first_true, second_true}

-- Lists that compare as the same are the same.
pub same_list_lem : (xs ys : List ℕ) → same_list xs ys ≡ true → xs ≡ ys
unfolding same_list
same_list_lem [] [] h = refl
same_list_lem [] (y ∷ ys) h = absurd (true≢false (sym h))
same_list_lem (x ∷ xs) [] h = absurd (true≢false (sym h))
same_list_lem (x ∷ xs) (y ∷ ys) h =
    ap₂ ◌∷◌ (eqb-true x y (first_true (eqb x y) (same_list xs ys) h)) (same_list_lem xs ys (second_true (eqb x y) (same_list xs ys) h))
