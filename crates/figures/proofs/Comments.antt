-- Comment lines at a place of the text: one is passed where it has its feed (`comment_passed`), and refused where it has none (`no_feed`);
-- from the first line that is no comment (`no_comment`, `no_line`) the judge goes on with the size line.
use Prim.Native.Nat.{ℕ, suc, ◌+◌, ◌-◌, ◌≤◌, ◌<◌}
use native.Mathlib.Omega.{arith}
use mathlib.Core.Bool.{Bool, true, false, cond}
use mathlib.Core.List.{List, [], ◌∷◌}
use mathlib.Core.Path.{◌≡◌, refl, ap, ◌∙◌}
use lib.Dec.{eqb}
use lib.ListN.{length, take, drop, get_or, length-drop, drop_of_length-le}
use lib.Seq.{drop-cons, length-take-le}
use borrow.Author.Tests.{eq-eqb, ne_eqb}
use Rattle.std.specs.Prelude.{Some, None}
use Rattle.figures.specs.Lines.{FEED, PERCENT, onto, split}
use Rattle.figures.specs.Judge.{refused, on_line, size_line, is_comment, comments}
use Rattle.figures.specs.Inner.{first_of, lines_at}
use Rattle.figures.proofs.Cutting.{some-piece, later, first_piece, only_piece}

-- ---- a line that is no comment

none_first : (at c : ℕ) (ls : List (List ℕ)) (t : Bool) → eqb c PERCENT ≡ false → comments at (cond t ([] ∷ ls) (onto c ls)) ≡ size_line at (cond t ([] ∷ ls) (onto c ls))
unfolding comments is_comment
none_first at c [] true h = refl
none_first at c (l ∷ ls) true h = refl
none_first at c [] false h = refl
none_first at c (l ∷ []) false h = refl
none_first at c (l ∷ k ∷ ls) false h = rw h

none_in : (at : ℕ) (xs : List ℕ) → (get_or xs 0 0 ≡ PERCENT → ⊥) → comments at (split FEED xs) ≡ size_line at (split FEED xs)
unfolding split comments
none_in at [] h = refl
none_in at (c ∷ cs) h = none_first at c (split FEED cs) (eqb c FEED) (ne_eqb c PERCENT h)

-- ---- a comment with its feed

comment_fed : (at : ℕ) (l xs : List ℕ) → is_comment l ≡ true → comments at (l ∷ split FEED xs) ≡ comments (at + length l + 1) (split FEED xs)
unfolding comments
comment_fed at l xs h = some-piece FEED xs (λ ws. comments at (l ∷ ws) ≡ comments (at + length l + 1) ws) (λ w ws. rw h)

-- ---- at a place

module _ (text : List ℕ) (at : ℕ) where
  pub no_comment : at < length text → (get_or text at 0 ≡ PERCENT → ⊥) → comments at (lines_at text at) ≡ size_line at (lines_at text at)
  no_comment l h = rw (drop-cons text at 0 l) (none_in at (get_or text at 0 ∷ drop (suc at) text) h)

  pub no_line : length text ≤ at → comments at (lines_at text at) ≡ size_line at (lines_at text at)
  no_line l = rw (drop_of_length-le text l) (none_in at [] (λ e. omega arith))

  pub no_feed : None ≡ first_of FEED (drop at text) → comments at (lines_at text at) ≡ refused 11 at
  unfolding comments size_line on_line
  no_feed e = rw (only_piece FEED at text e)

  module _ (len : ℕ) (e : Some len ≡ first_of FEED (drop at text)) (l : at + len < length text) (b : get_or text at 0 ≡ PERCENT) where
    abbrev line : List ℕ
    line = take len (drop at text)

    is_comment_lem : is_comment line ≡ true
    unfolding is_comment
    is_comment_lem =
        let k : len ≡ suc (len - 1) = omega (arith, later FEED at len text e (omega arith) (λ f. omega arith)) in
        rw (k, drop-cons text at 0 (omega arith)) (eq-eqb (get_or text at 0) PERCENT b)

    pub comment_passed : comments at (lines_at text at) ≡ comments (at + len + 1) (lines_at text (at + len + 1))
    comment_passed =
        ap (comments at) (first_piece FEED at len text e)
        ∙ comment_fed at line (drop (at + len + 1) text) is_comment_lem
        ∙ ap (λ (k : ℕ). comments (at + k + 1) (lines_at text (at + len + 1))) (length-take-le len (drop at text) (omega (arith, length-drop at text)))
