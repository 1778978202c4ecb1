-- The length of the text that is answered.
use Prim.Native.Nat.{ℕ, ◌+◌, ◌-◌, ◌*◌, ◌≤◌, ◌<◌}
use native.Mathlib.Decide.{dec_lt}
use native.Mathlib.Omega.{arith}
use mathlib.Core.List.{List}
use mathlib.Core.Path.{◌≡◌, refl, sym, ap, ◌∙◌, subst}
use Rattle.relations.specs.Sets.{MOST}
use Rattle.relations.proofs.Named.{all_is}
use Rattle.figures.specs.Judge.{judged}
use Rattle.table.specs.Results.{job_of}
use Rattle.table.specs.Rule.{job_for}
use Rattle.table.specs.Trees.{Over}
use Rattle.newick.specs.Texts.{digits_to, needed}
use Rattle.newick.proofs.TextLaws.{text-length, digits-few, digits_more}
use Rattle.planner.specs.Plans.{call_of, tree_of, Result, result_of, planned}
use Rattle.planner.specs.Best.{fig}
use Rattle.planner.specs.declared.answers.Plan.{Plan}
use Rattle.std.specs.Prelude.{Ok}
use Rattle.planner.proofs.Demand2.{proper, best-fill, both, answer_is}

-- "For n = 15 it is 64", and for fewer it is less.
pub needed-most : (n : ℕ) → 1 ≤ n → n ≤ MOST → needed n ≤ 64
unfolding needed
needed-most n h l = by (dec_lt n 10)
  where
    by : Dec (n < 10) → digits_to n + 3 * (n - 1) + 1 ≤ 64
    by (yes f) = omega (arith, digits-few n f)
    by (no m) = omega (arith, digits_more n (omega arith) (omega arith))

module _ (text : List ℕ) (model limit : ℕ) (room : List ℕ) (z : (planned text model limit room).answer.number ≡ 0) where
  abbrev n : ℕ
  n = (judged text).figures.n

  -- A plan's text is as long as its relations need,
  length_is : (planned text model limit room).answer.length ≡ needed n
  unfolding call_of job_of tree_of
  length_is =
      let b = both text model limit room z in
      let ok = proper text model limit room b.0 in
      let over = (best-fill text model limit room b.0).plan b.1 in
      ap (λ (r : Result). r.answer.length) (answer_is text model limit room z)
      ∙ text-length ((job_for model limit).profile (fig (judged text).figures)) n (tree_of (judged text).figures model limit) ok.some
      (subst (λ (S : ℕ). Over ((job_for model limit).profile (fig (judged text).figures)) S (tree_of (judged text).figures model limit)) (all_is n ok.few) over)

  -- which is something,
  pub length_some : 0 < (planned text model limit room).answer.length
  unfolding needed
  length_some = omega (arith, length_is)

  -- and 64 bytes at most.
  length_most : (planned text model limit room).answer.length ≤ 64
  length_most =
      let ok = proper text model limit room (both text model limit room z).0 in
      omega (arith, length_is, needed-most n ok.some ok.few)

-- So of what is answered a plan's text is short.
pub plan-short : (text : List ℕ) (model limit : ℕ) (room left : List ℕ) (p : Plan) → result_of (Ok p) left ≡ planned text model limit room → p.length ≤ 64
plan-short text model limit room left p e =
    subst (λ (r : Result). r.answer.number ≡ 0 → r.answer.length ≤ 64) (sym e) (length_most text model limit room) refl
