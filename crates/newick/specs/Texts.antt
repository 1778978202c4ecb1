-- The text of a tree and how long it is (document 01, "Printing the tree").
use Rattle.std.specs.Prelude.{ℕ, zero, suc, ◌+◌, ◌-◌, ◌*◌, List, ◌++◌, ◌≡◌, refl, length}
use Rattle.numbers.specs.Texts.{bytes, digits, decimal}
use Rattle.table.specs.Trees.{Tree, leaf, join}

-- "A relation is its number in decimal; a join is "(", left part, ",", right part, ")"."
unfoldable pub text : Tree → List ℕ
text (leaf k) = decimal k
text (join l r) = bytes "(" ++ text l ++ bytes "," ++ text r ++ bytes ")"

-- "The whole ends in ";"."
unfoldable pub whole_text : Tree → List ℕ
whole_text t = text t ++ bytes ";"

-- "The needed length depends only on n: the digits of the numbers 1 to n, plus 3(n-1), plus 1."
unfoldable pub digits_to : ℕ → ℕ
digits_to zero = 0
digits_to (suc k) = digits_to k + length (decimal (suc k))

unfoldable pub needed : ℕ → ℕ
needed n = digits_to n + 3 * (n - 1) + 1

-- ---- computed: the tree of document 01's case 4, and a relation alone

shown : (whole_text (join (leaf 2) (join (leaf 1) (leaf 3))) ≡ bytes "(2,(1,3));") × (whole_text (leaf 10) ≡ bytes "10;")
unfolding digits decimal text whole_text
shown = (refl, refl)

-- "For n = 15 it is 64."
long : (needed 1 ≡ 2) × (needed 3 ≡ 10) × (needed 9 ≡ 34) × (needed 10 ≡ 39) × (needed 15 ≡ 64)
unfolding digits decimal digits_to needed
long = (refl, refl, refl, refl, refl)
