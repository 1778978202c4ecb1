-- Bytes written in turn.
use Prim.Native.Nat.{ℕ, ◌+◌, ◌≤◌}
use native.Mathlib.Nat.{zero-add}
use native.Mathlib.Numerals.{add-one}
use native.Mathlib.Omega.{arith}
use mathlib.Core.Bool.{true, false}
use mathlib.Core.List.{List, [], ◌∷◌, ◌++◌}
use mathlib.Core.Path.{◌≡◌, sym, ap, ap₂, ◌∙◌}
use lib.ListN.{length, length-set, set, drop, get_or}
use lib.Seq.{sets, sets-eq, length-sets}
use Rattle.numbers.specs.Texts.{decimal}
use Rattle.numbers.proofs.Writing.{sets-append}
use Rattle.relations.specs.Sets.{without, lowest, larger}
use Rattle.table.specs.Trees.{Tree, join, plan_of}
use Rattle.table.proofs.TreeLaws.{plan-alone}
use Rattle.newick.specs.Texts.{text, whole_text}
use Rattle.newick.specs.Inner.{Walked}
use Rattle.newick.proofs.WalkLaws.{walk_on}
use Rattle.newick.proofs.TextLaws.{text-join, length-join}

-- "(", the left tree up to the comma, ",", the right tree up to the bracket, ")": B is what stands after the left tree, and D after both.
pub join_written : (out B D : List ℕ) (at comma close : ℕ) (l r : Tree)
    → B ≡ sets (set out at 40) (at + 1) (text l) → comma ≡ at + 1 + length (text l)
    → D ≡ sets (set B comma 44) (comma + 1) (text r) → close ≡ comma + 1 + length (text r)
    → set D close 41 ≡ sets out at (text (join l r))
join_written out B D at comma close l r b c d e =
    let rest = text r ++ (41 ∷ []) in
    ap₂ (λ (X : List ℕ) (k : ℕ). set X k 41) d e
    ∙ sets-append (set B comma 44) (comma + 1) (text r) (41 ∷ [])
    ∙ ap (λ (k : ℕ). sets (set B comma 44) k rest) (add-one comma)
    ∙ ap₂ (λ (X : List ℕ) (k : ℕ). sets X k (44 ∷ rest)) b c
    ∙ sets-append (set out at 40) (at + 1) (text l) (44 ∷ rest)
    ∙ ap (λ (k : ℕ). sets (set out at 40) k (text l ++ (44 ∷ rest))) (add-one at)
    ∙ ap (sets out at) (sym (text-join l r))

-- The whole text at the start of the room: the tree's, which leaves B and ends at the place `end`, and ";".
pub whole-written : (room B : List ℕ) (end : ℕ) (t : Tree)
    → B ≡ sets room 0 (text t) → end ≡ 0 + length (text t) → length (whole_text t) ≤ length room
    → set B end 59 ≡ whole_text t ++ drop (length (whole_text t)) room
unfolding whole_text
whole-written room B end t b e l =
    ap₂ (λ (X : List ℕ) (k : ℕ). set X k 59) b e
    ∙ sets-append room 0 (text t) (59 ∷ [])
    ∙ sets-eq (whole_text t) room 0 (omega arith)
    ∙ ap (λ (k : ℕ). whole_text t ++ drop k room) (zero-add (length (whole_text t)))

-- ---- what is written for a set that the walk has found sound

-- A relation alone, which is x.
pub text_alone : (lefts : List ℕ) (S x : ℕ) → Walked lefts S → false ≡ larger S → x ≡ lowest S → text (plan_of lefts S) ≡ decimal x
unfolding text
text_alone lefts S x w z e = ap text (plan-alone lefts S w.some (sym z)) ∙ ap decimal (sym e)

-- A set of two or more, by its parts L and R.
module _ (lefts : List ℕ) (S L R : ℕ) (m : true ≡ larger S) (l : L ≡ get_or lefts S 0) (r : R ≡ without S L) (w : Walked lefts S) where
  pub text_parts : text (plan_of lefts S) ≡ text (join (plan_of lefts L) (plan_of lefts R))
  text_parts = ap text (walk_on lefts S L R (sym m) l r w).tree

  pub length_parts : length (text (plan_of lefts S)) ≡ length (text (plan_of lefts L)) + length (text (plan_of lefts R)) + 3
  length_parts = ap length text_parts ∙ length-join _ _

  pub parts_written : (out B D : List ℕ) (at comma close : ℕ)
      → B ≡ sets (set out at 40) (at + 1) (text (plan_of lefts L)) → comma ≡ at + 1 + length (text (plan_of lefts L))
      → D ≡ sets (set B comma 44) (comma + 1) (text (plan_of lefts R)) → close ≡ comma + 1 + length (text (plan_of lefts R))
      → set D close 41 ≡ sets out at (text (plan_of lefts S))
  parts_written out B D at comma close b c d e = rw text_parts (join_written out B D at comma close (plan_of lefts L) (plan_of lefts R) b c d e)

-- Bytes written keep the length of what they are written to.
pub length_kept : (out B : List ℕ) (at k v : ℕ) (s : List ℕ) → B ≡ sets (set out at v) k s → length B ≡ length out
length_kept out B at k v s e = rw e (simp (length-sets, length-set))
