-- What is printed fits into its room; and how it grows, model by model.
use Prim.Native.Nat.{ℕ, suc, ◌+◌, ◌-◌, ◌*◌, ◌^◌, ◌≤◌, ◌<◌}
use native.Mathlib.Numerals.{add-one}
use native.Mathlib.Omega.{arith}
use mathlib.Core.List.{List, [], ◌++◌}
use mathlib.Core.Path.{◌≡◌, sym, ap, ap₂, ◌∙◌}
use lib.ListN.{length, take, drop, length-append, length-take, replicate}
use lib.Dec.{eqb}
use mathlib.Core.Bool.{false}
use borrow.Author.Tests.{eq-eqb, ne_eqb, lt-ltb, le-ltb}
use Rattle.numbers.specs.Texts.{bytes, decimal}
use Rattle.figures.specs.Judge.{judged}
use Rattle.planner.specs.Plans.{Result, number_of, place_of, result_of, outcome, planned}
use Rattle.planner.specs.Reports.{LONGEST, LIMIT, MODELS, ROOM, asked, spaced, line_of, line, refused_line, lines, printed, output_of}
use Rattle.planner.specs.declared.answers.Plan.{Plan}
use Rattle.planner.specs.declared.reports.Output.{Output}
use Rattle.std.proofs.lemmas.List.{drop-replicate}
use Rattle.planner.specs.declared.answers.Refusal.{Refusal}
use Rattle.std.specs.Prelude.{Ok, Err}
use Rattle.planner.proofs.Lengths.{plan-short}
use Rattle.planner.proofs.Outcomes.{number_pos}
use Rattle.planner.proofs.Writing.{five_long, digits_32, digits_64}

-- A line has 108 bytes at most,
line-most : (model cost size : ℕ) (tree : List ℕ) → model < 2 ^ 32 → cost < 2 ^ 64 → size < 2 ^ 32 → length tree ≤ 64
    → length (line_of model cost size tree) ≤ 108
unfolding line_of spaced
line-most model cost size tree m c s t =
    omega (
      arith,
      five_long (spaced model) (spaced cost) (spaced size) tree (bytes "\n"),
      length-append (decimal model) (bytes " "),
      length-append (decimal cost) (bytes " "),
      length-append (decimal size) (bytes " "),
      digits_32 model m,
      digits_64 cost c,
      digits_32 size s,
      t,
    )

-- and a refusal 43.
pub refused_most : (number place : ℕ) → number < 2 ^ 32 → place < 2 ^ 64 → length (refused_line number place) ≤ 43
unfolding refused_line
refused_most number place n p =
    omega (
      arith,
      five_long (bytes "refused ") (decimal number) (bytes " at ") (decimal place) (bytes "\n"),
      digits_32 number n,
      digits_64 place p,
    )

-- What is said, at the start of the room, which holds zeros.
pub at_start : (s t : List ℕ) (k : ℕ) → t ≡ s → k ≡ length s → record { bytes = t ++ drop k (replicate ROOM 0); length = k } ≡ output_of s
at_start s t k e l = ap₂ made room l
  where
    made : List ℕ → ℕ → Output
    made b n = record { bytes = b; length = n }

    room : t ++ drop k (replicate ROOM 0) ≡ s ++ replicate (ROOM - length s) 0
    room = ap₂ (λ (x : List ℕ) (j : ℕ). x ++ drop j (replicate ROOM 0)) e l ∙ ap (λ (z : List ℕ). s ++ z) (drop-replicate (length s) ROOM 0)

-- What is printed is within the room, however long.
pub output_within : (s : List ℕ) → (output_of s).length ≤ length (output_of s).bytes
output_within s = omega (arith, length-append s (replicate (ROOM - length s) 0))

-- ---- model by model

module _ (text : List ℕ) where
  -- The lines of the models below m are said, and those of the others are to come.
  pub record Said (m : ℕ) (said : List ℕ) : Type 0 where
    pub few : m ≤ MODELS
    pub short : length said ≤ 108 * m
    pub goes : lines (judged text) (MODELS - m) m said ≡ lines (judged text) MODELS 0 []

  -- What is answered for model m.
  module _ (m : ℕ) (tree said : List ℕ) (w : Said m said) (l : m < MODELS) where
    abbrev answered : Result
    answered = planned text m LIMIT (replicate 64 0)

    -- This model comes next.
    now_goes : lines (judged text) (suc (MODELS - suc m)) m said ≡ lines (judged text) MODELS 0 []
    now_goes = let e : suc (MODELS - suc m) ≡ MODELS - m = omega arith in ap (λ (k : ℕ). lines (judged text) k m said) e ∙ w.goes

    -- A plan: its line is said, and the others come next.
    module _ (q : Plan) (e : result_of (Ok q) tree ≡ answered) (c : q.cost < 2 ^ 64) (s : q.size < 2 ^ 32) where
      line_is : line m (asked (judged text) m) ≡ line_of m q.cost q.size (take q.length tree)
      unfolding line asked planned
      line_is = ap (λ (r : Result). line_of m r.answer.cost r.answer.size (take r.answer.length r.room)) (sym e)

      then_goes : lines (judged text) (suc (MODELS - suc m)) m said
          ≡ lines (judged text) (MODELS - suc m) (suc m) (said ++ line_of m q.cost q.size (take q.length tree))
      unfolding lines asked planned
      then_goes =
          rw (eq-eqb (outcome (judged text) m LIMIT (replicate 64 0)).answer.number 0 (sym (ap (λ (r : Result). r.answer.number) e)))
          (ap (λ (x : List ℕ). lines (judged text) (MODELS - suc m) (suc m) (said ++ x)) line_is)

      line-short : length (line_of m q.cost q.size (take q.length tree)) ≤ 108
      line-short =
          let part : length (take q.length tree) ≤ 64 = omega (arith, length-take q.length tree, plan-short text m LIMIT (replicate 64 0) tree q e) in
          line-most m q.cost q.size (take q.length tree) (omega arith) c s part

      -- There is room for it.
      pub line_fits : length said + length (line_of m q.cost q.size (take q.length tree)) ≤ ROOM
      line_fits = omega (arith, w.short, line-short)

      pub said-next : Said (m + 1) (said ++ line_of m q.cost q.size (take q.length tree))
      said-next =
          rw (add-one m) record {
            few = l;
            short = omega (arith, w.short, line-short, length-append said (line_of m q.cost q.size (take q.length tree)));
            goes = sym then_goes ∙ now_goes;
          }

    -- A refusal: its line is all.
    pub said-refused : (why : Refusal) → result_of (Err why) tree ≡ answered → length text ≤ LONGEST
        → refused_line (number_of why) (place_of why) ≡ printed text
    unfolding printed lines asked planned
    said-refused why e h =
        let n : eqb (number_of why) 0 ≡ false = ne_eqb (number_of why) 0 (λ z. omega (arith, z, number_pos why)) in
        let a : refused_line (number_of why) (place_of why) ≡ lines (judged text) (suc (MODELS - suc m)) m said = rw (← e, n) in
        let r : lines (judged text) MODELS 0 [] ≡ printed text = rw (le-ltb LONGEST (length text) h) in
        a ∙ now_goes ∙ r

  -- After the last model all is said.
  pub said-last : (m : ℕ) (said : List ℕ) → Said m said → MODELS ≤ m → length text ≤ LONGEST → said ≡ printed text
  unfolding printed lines
  said-last m said w l h =
      let e : MODELS - m ≡ 0 = omega arith in
      sym (ap (λ (k : ℕ). lines (judged text) k m said) e) ∙ w.goes ∙ rw (le-ltb LONGEST (length text) h)

  -- "More: 11 at place 8,192."
  pub too_long : LONGEST < length text → refused_line 11 LONGEST ≡ printed text
  unfolding printed
  too_long h = rw (lt-ltb LONGEST (length text) h)
