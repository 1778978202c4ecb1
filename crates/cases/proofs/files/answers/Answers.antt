-- The reader answers as the judge does.
use Rattle.std.proofs.Common.{ap, ◌∙◌}
use Rattle.figures.specs.Judge.{Result}
use Rattle.cases.specs.Files.{is_answer, answers_to}
use Rattle.cases.proofs.files.answers.Goals as goal

pub expect-requires : goal.expect-requires
unfolding answers_to
expect-requires c =
    c.is_answer.ensures ∙ ap (λ (r : Result). is_answer r c.args.number c.args.place) c.read.ensures.result ∙ c.requires
