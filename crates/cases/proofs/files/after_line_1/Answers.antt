-- The two copies stand one after the other: line 1 with its feed, and the text after it.
use Rattle.std.proofs.Common.{ℕ, [], ◌∷◌, ◌+◌, ◌≡◌, List, ◌++◌, length, take, ap, ◌∙◌, arith, length-append}
use Rattle.std.proofs.lemmas.Slice.{take-put_mid}
use borrow.Rule.Slice.PartMut.{put_mid}
use lib.Seq.{take_at}
use Rattle.figures.specs.Lines.{FEED}
use Rattle.figures.specs.Judge.{HEADING}
use Rattle.cases.specs.Files.{after_line1, answers_to}
use Rattle.cases.proofs.files.after_line_1.Goals as goal

-- first was copied to the front, in front of old, and last after it.
laid :
    (m : ℕ) (first old rest last : List ℕ) →
    first ≡ HEADING ++ FEED ∷ [] →
    last ≡ rest →
    take (51 + length rest) (put_mid 51 m (first ++ old) last) ≡ after_line1 rest
laid m first old rest last e f =
    let n : length first ≡ 51 = ap length e in
    take-put_mid 51 m (first ++ old) last (51 + length rest) (rw f) (omega (arith, n, length-append first old))
    ∙ ap (λ (l : List ℕ). l ++ last) (take_at first old 51 n)
    ∙ (λ i. e i ++ f i)

pub answers-requires : goal.answers-requires
answers-requires c =
    let filled = laid _ _ _ _ _ c.copy_from_slice.ensures.after c.copy_from_slice-2.ensures.after in
    ap (λ (l : List ℕ). answers_to l c.args.number c.args.place) filled ∙ c.requires.answered
