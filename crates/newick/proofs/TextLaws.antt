-- Two different trees have different texts, and the text of every tree over n relations has the needed length.
use Prim.Native.Nat.{ℕ, zero, suc, ◌+◌, ◌-◌, ◌*◌, ◌^◌, ◌≤◌, ◌<◌}
use native.Mathlib.Decide.{le_ind}
use native.Mathlib.Omega.{arith}
use mathlib.Core.Bool.{Bool, false, false≢true}
use mathlib.Core.List.{List, [], ◌∷◌, ◌++◌, append_assoc}
use mathlib.Core.Path.{◌≡◌, refl, sym, ap, ap₂, ◌∙◌, subst}
use lib.Dec.{leb, eqb}
use lib.ListN.{length, length-append}
use borrow.Author.Tests.{eq-eqb, ne_eqb, leb-true, leb-false}
use Rattle.relations.specs.Sets.{is_relation}
use Rattle.numbers.specs.Texts.{bytes, digits, decimal, is_digit}
use Rattle.numbers.proofs.Decimal.{NoDigit, FirstDigit, decimal_tells, decimal_digit, decimal-short, decimal-long}
use Rattle.relations.proofs.Named.{mem-all, is_relation_lem, relation_is}
use Rattle.table.specs.Trees.{Tree, leaf, join, times, Over}
use Rattle.table.proofs.Reasoning.{by_test}
use Rattle.table.proofs.TreeLaws.{once}
use Rattle.newick.specs.Texts.{text, whole_text, digits_to, needed}

-- ---- two different trees have different texts

tail-same : {c d : ℕ} {xs ys : List ℕ} → c ∷ xs ≡ d ∷ ys → xs ≡ ys
tail-same e = cc

-- A number in decimal does not begin with "(".
not_open : (k : ℕ) (xs ys : List ℕ) → decimal k ++ xs ≡ 40 ∷ ys → ⊥
unfolding is_digit
not_open k xs ys e = false≢true (subst FirstDigit e (decimal_digit k xs))

-- The bytes of a join,
pub text-join : (l r : Tree) → text (join l r) ≡ 40 ∷ (text l ++ (44 ∷ (text r ++ (41 ∷ []))))
unfolding text
text-join l r = simp append_assoc

-- and what follows.
join_then : (l r : Tree) (xs : List ℕ) → text (join l r) ++ xs ≡ 40 ∷ (text l ++ (44 ∷ (text r ++ (41 ∷ xs))))
join_then l r xs = ap (λ (s : List ℕ). s ++ xs) (text-join l r) ∙ simp append_assoc

-- Two texts, with no digit after them, are the same bytes only where the trees are the same and so is what follows.
text_prefix : (t u : Tree) (xs ys : List ℕ) → NoDigit xs → NoDigit ys → text t ++ xs ≡ text u ++ ys → (t ≡ u) × (xs ≡ ys)
unfolding text is_digit
text_prefix (leaf j) (leaf k) xs ys h g e = let s = decimal_tells j k xs ys h g e in (ap leaf s.0, s.1)
text_prefix (leaf j) (join p q) xs ys h g e = absurd (not_open j xs _ (e ∙ join_then p q ys))
text_prefix (join l r) (leaf k) xs ys h g e = absurd (not_open k ys _ (sym e ∙ join_then l r xs))
text_prefix (join l r) (join p q) xs ys h g e =
    let rest = tail-same (sym (join_then l r xs) ∙ e ∙ join_then p q ys) in
    let a = text_prefix l p (44 ∷ (text r ++ (41 ∷ xs))) (44 ∷ (text q ++ (41 ∷ ys))) refl refl rest in
    let b = text_prefix r q (41 ∷ xs) (41 ∷ ys) refl refl (tail-same a.1) in
    (ap₂ join a.0 b.0, tail-same b.1)

-- No tree's text begins with that of another, whatever follows it,
pub text-first : (t u : Tree) (xs ys : List ℕ) → whole_text t ++ xs ≡ whole_text u ++ ys → t ≡ u
unfolding whole_text is_digit
text-first t u xs ys e =
    (text_prefix t u (bytes ";" ++ xs) (bytes ";" ++ ys) refl refl
    (sym (append_assoc (text t) (bytes ";") xs) ∙ e ∙ append_assoc (text u) (bytes ";") ys)).0

-- and so two trees with the same text are the same.
pub text_tells : (t u : Tree) → whole_text t ≡ whole_text u → t ≡ u
text_tells t u e = text-first t u [] [] (ap (λ (s : List ℕ). s ++ []) e)

-- ---- sums over the leaves of a tree, and over the numbers from 1

-- The sum of f over the leaves.
unfoldable leaves : (ℕ → ℕ) → Tree → ℕ
leaves f (leaf k) = f k
leaves f (join l r) = leaves f l + leaves f r

-- The sum of f over the numbers 1 to n.
unfoldable sum_to : (ℕ → ℕ) → ℕ → ℕ
sum_to f zero = 0
sum_to f (suc n) = sum_to f n + f (suc n)

-- The sum of two functions.
sum_add : (f g : ℕ → ℕ) (n : ℕ) → sum_to (λ k. f k + g k) n ≡ sum_to f n + sum_to g n
unfolding sum_to
sum_add f g zero = refl
sum_add f g (suc n) = omega (arith, sum_add f g n)

-- Functions that agree from 1 to n have the same sum.
sum_same : (f g : ℕ → ℕ) (n : ℕ) → ((k : ℕ) → 1 ≤ k → k ≤ n → f k ≡ g k) → sum_to f n ≡ sum_to g n
unfolding sum_to
sum_same f g zero h = refl
sum_same f g (suc n) h = ap₂ (λ (a b : ℕ). a + b) (sum_same f g n (λ k l m. h k l (omega arith))) (h (suc n) (omega arith) (omega arith))

module _ (f : ℕ → ℕ) where
  -- f at j, and 0 elsewhere.
  abbrev only : ℕ → ℕ → ℕ
  only j k = once (eqb j k) * f k

  only-other : (j k : ℕ) → (j ≡ k → ⊥) → only j k ≡ 0
  only-other j k h = rw (ne_eqb j k h) (omega arith)

  only_same : (j k : ℕ) → j ≡ k → only j k ≡ f j
  only_same j k e = rw (eq-eqb j k e, e) (omega arith)

  only_past : (j n : ℕ) → n < j → sum_to (only j) n ≡ 0
  unfolding sum_to
  only_past j zero h = refl
  only_past j (suc n) h = omega (arith, only_past j n (omega arith), only-other j (suc n) (omega arith))

  only_sum : (j n : ℕ) → 1 ≤ j → j ≤ n → sum_to (only j) n ≡ f j
  unfolding sum_to
  only_sum j zero h l = absurd (omega arith)
  only_sum j (suc n) h l =
      by_test (leb j n)
      (λ e. let b = leb-true j n e in omega (arith, only_sum j n h b, only-other j (suc n) (omega arith)))
      (λ e. let b = leb-false j n e in omega (arith, only_past j n b, only_same j (suc n) (omega arith)))

  -- In a tree with no relation but 1 to n the sum over the leaves is that over 1 to n, each counted as often as it stands there.
  leaves-sum : (n : ℕ) (t : Tree) → ((k : ℕ) → is_relation n k ≡ false → times k t ≡ 0) → leaves f t ≡ sum_to (λ k. times k t * f k) n
  unfolding leaves times
  leaves-sum n (leaf j) h =
      by_test (is_relation n j)
      (λ e. let b = is_relation_lem n j e in sym (only_sum j n b.0 b.1))
      (λ e. absurd (omega (arith, h j e, ap once (eq-eqb j j refl))))
  leaves-sum n (join l r) h =
      ap₂ (λ (a b : ℕ). a + b) (leaves-sum n l (λ k e. omega (arith, h k e))) (leaves-sum n r (λ k e. omega (arith, h k e)))
      ∙ sym (sum_add (λ k. times k l * f k) (λ k. times k r * f k) n)
      ∙ sum_same (λ k. times k l * f k + times k r * f k) (λ k. (times k l + times k r) * f k) n (λ k _ _. omega arith)

  -- In a tree over all n relations the sum over the leaves is the sum over 1 to n.
  leaves-over : (allows : ℕ → ℕ → Bool) (n : ℕ) (t : Tree) → Over allows (2 ^ n - 1) t → leaves f t ≡ sum_to f n
  unfolding is_relation
  leaves-over allows n t o =
      leaves-sum n t (λ k e. counted k ∙ ap once e)
      ∙ sum_same (λ k. times k t * f k) f n (λ k h l. rw (counted k, relation_is n k h l) (omega arith))
    where
      counted : (k : ℕ) → times k t ≡ once (is_relation n k)
      counted k = o.once k ∙ ap once (mem-all k n)

-- ---- the length of a text

-- A join adds three bytes to the texts of its parts.
pub length-join : (l r : Tree) → length (text (join l r)) ≡ length (text l) + length (text r) + 3
unfolding text
length-join l r = simp length-append (omega arith)

-- The end is one more.
pub length_whole : (t : Tree) → length (whole_text t) ≡ length (text t) + 1
unfolding whole_text
length_whole t = length-append (text t) (bytes ";")

-- With three bytes more, a text has three for each leaf besides its digits.
length-leaves : (t : Tree) → length (text t) + 3 ≡ leaves (λ k. length (decimal k) + 3) t
unfolding text leaves
length-leaves (leaf k) = refl
length-leaves (join l r) = omega (arith, length-join l r, length-leaves l, length-leaves r)

digits_sum : (n : ℕ) → sum_to (λ k. length (decimal k) + 3) n ≡ digits_to n + 3 * n
unfolding sum_to digits_to
digits_sum zero = refl
digits_sum (suc n) = omega (arith, digits_sum n)

-- The text of every tree over n relations has the needed length.
pub text-length : (allows : ℕ → ℕ → Bool) (n : ℕ) (t : Tree) → 1 ≤ n → Over allows (2 ^ n - 1) t → length (whole_text t) ≡ needed n
unfolding needed
text-length allows n t h o =
    let d = length-leaves t ∙ leaves-over (λ k. length (decimal k) + 3) allows n t o ∙ digits_sum n in
    length_whole t ∙ omega arith

-- ---- the digits of the numbers 1 to n

-- The numbers 1 to n below 10 have n digits.
pub digits-few : (n : ℕ) → n < 10 → digits_to n ≡ n
unfolding digits_to
digits-few zero h = refl
digits-few (suc n) h = omega (arith, digits-few n (omega arith), ap length (decimal-short (suc n) h))

-- The numbers 1 to n, from 10 to 99, have twice n digits less 9.
pub digits_more : (n : ℕ) → 10 ≤ n → n < 100 → digits_to n + 9 ≡ 2 * n
unfolding digits_to digits decimal
digits_more =
    le_ind (λ (n : ℕ). n < 100 → digits_to n + 9 ≡ 2 * n) (λ _. refl)
    (λ n h ih l. omega (arith, ih (omega arith), ap length (decimal-long (suc n) (omega arith) l)))
