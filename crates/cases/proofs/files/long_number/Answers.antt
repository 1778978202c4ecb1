-- The array has line 1 in front and the end of the size line at its end: the nines are left between. The answer is what the judge computes to.
use Rattle.std.proofs.Common.{ℕ, [], ◌∷◌, ◌≡◌, true, List, ◌++◌, drop, replicate, refl, ◌∙◌}
use borrow.Rule.Slice.PartMut.{put_mid}
use Rattle.numbers.specs.Texts.{bytes}
use Rattle.figures.specs.Lines.{FEED}
use Rattle.figures.specs.Judge.{HEADING}
use Rattle.cases.specs.Files.{answers_to}
use Rattle.cases.proofs.files.long_number.Goals as goal

answered :
    (first last : List ℕ) →
    first ≡ HEADING ++ FEED ∷ [] →
    last ≡ bytes " 1 1\n" →
    answers_to (put_mid 2051 5 (first ++ drop 51 (replicate 2056 57)) last) 15 51 ≡ true
unfolding answers_to
answered first last e f = (λ i. answers_to (put_mid 2051 5 (e i ++ drop 51 (replicate 2056 57)) (f i)) 15 51) ∙ refl

pub answers-requires : goal.answers-requires
answers-requires c = answered _ _ c.copy_from_slice.ensures.after c.copy_from_slice-2.ensures.after
