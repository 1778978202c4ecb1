-- What is read is what the judge answers, and each part of it is as expected.
use Rattle.std.proofs.Common.{Bool, true, ◌&&◌, ◌≡◌, refl, ap, ◌∙◌, eqb, eq-eqb, eqb-true, Result, Ok, Err}
use Rattle.std.specs.Result.{result_unwrap_or}
use Rattle.std.proofs.lemmas.Slice.Eq.{bytes_eq-Decides}
use Rattle.numbers.specs.Texts.{same_list}
use Rattle.numbers.proofs.Lists.{same_list_lem}
use Rattle.numbers.proofs.Tests.{first_true, second_true}
use Rattle.figures.specs.Entries.{no_figures}
use Rattle.figures.specs.Judge.{Result as Judgement, result_of, judged}
use Rattle.figures.specs.declared.Fault.{Fault}
use Rattle.figures.specs.declared.Figures.{Figures}
use Rattle.cases.specs.Files.{has_figures, reads_as}
use Rattle.cases.proofs.files.reads_as.Goals as goal

module _ (f e : Figures) (h : has_figures f e.n e.counts e.divisors ≡ true) where
  abbrev first : Bool
  first = eqb f.n e.n

  abbrev second : Bool
  second = same_list f.counts e.counts

  abbrev third : Bool
  third = same_list f.divisors e.divisors

  figures_same : f ≡ e
  unfolding has_figures
  figures_same =
      let both = first_true (first && second) third h in
      let n = eqb-true f.n e.n (first_true first second both) in
      let counts = same_list_lem f.counts e.counts (second_true first second both) in
      let divisors = same_list_lem f.divisors e.divisors (second_true (first && second) third h) in
      λ i. record { n = n i; counts = counts i; divisors = divisors i }

-- A text that is refused says no figures.
said : (r : Result Figures Fault) → result_unwrap_or r no_figures ≡ (result_of r).figures
said (Ok f) = refl
said (Err fault) = refl

pub expect-requires : goal.expect-requires
unfolding reads_as no_figures
expect-requires c =
    let e = c.args.expected in
    let read : c.unwrap_or.result ≡ (judged c.args.text.now).figures =
    c.unwrap_or.ensures ∙ said c.read.result ∙ ap (λ (j : Judgement). j.figures) c.read.ensures.result
    in
    let same = figures_same c.unwrap_or.result e (ap (λ (f : Figures). has_figures f e.n e.counts e.divisors) read ∙ c.requires) in
    rw (c.eq.ensures, same, eq-eqb e.n e.n refl, (bytes_eq-Decides e.counts e.counts).1 refl, (bytes_eq-Decides e.divisors e.divisors).1 refl) refl
