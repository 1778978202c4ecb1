-- Under the program's limit, 2^60, there is always a plan: so a line is printed for each model.
use Prim.Native.Nat.{ℕ, zero, suc, ◌+◌, ◌-◌, ◌*◌, ◌^◌, ◌≤◌, ◌<◌}
use native.Mathlib.Decide.{dec_lt}
use native.Mathlib.Nat.{min-le_left}
use native.Mathlib.Omega.{arith}
use mathlib.Core.Bool.{Bool, true, false, cond}
use mathlib.Core.List.{List, ◌++◌}
use mathlib.Core.Logic.{◌⊎◌, inl, inr}
use mathlib.Core.Path.{◌≡◌, refl, sym, ap, ◌∙◌, subst}
use lib.ListN.{length, get_or, get_or-eq_default, replicate}
use lib.Pow.{ones_lt, pow_pos}
use lib.Seq.{get_or-take}
use borrow.Author.Tests.{eq-eqb, le-ltb}
use Rattle.relations.specs.Sets.{weight, lowest, larger, first, Apart}
use Rattle.relations.proofs.Members.{mem-alone, mem-most}
use Rattle.relations.proofs.Named.{all_is}
use Rattle.charges.proofs.Laws.{charge_bounded, known}
use Rattle.figures.specs.Judge.{judged}
use Rattle.figures.specs.Written.{Proper}
use Rattle.figures.specs.declared.Figures.{Figures as Read}
use Rattle.figures.proofs.Accepted.{accepted-proper}
use Rattle.table.specs.Figures.{Figures, CEILING, count, joined, size_rule, size_in, size_of}
use Rattle.table.specs.Results.{in_order}
use Rattle.table.specs.Rule.{job_for}
use Rattle.table.specs.Trees.{Tree, leaf, join, set_of, Over, cost_of, tree_cost}
use Rattle.table.proofs.TreeLaws.{Sound, sound-over}
use Rattle.planner.specs.Plans.{FEW, counts_of, filled, unfit, planned}
use Rattle.planner.specs.Best.{fig, OverAll, cost_of as price_of}
use Rattle.planner.specs.Reports.{LONGEST, MODELS, asked, line, lines, printed}
use Rattle.planner.proofs.Fit.{counts-long}
use Rattle.planner.proofs.Demand2.{proper, best-fill, number_is, no_plan_lem}
use Rattle.planner.proofs.Lengths.{needed-most}

-- ---- a tree over all relations

-- Relation 1, and each of the next k joined to all before it: ((1,2),3) and so on.
unfoldable comb : ℕ → Tree
comb zero = leaf 1
comb (suc k) = join (comb k) (leaf (suc (suc k)))

-- Its set is that of relations 1 to k + 1.
comb-set : (k : ℕ) → set_of (comb k) ≡ 2 ^ suc k - 1
unfolding comb set_of weight
comb-set zero = refl
comb-set (suc k) = omega (arith, comb-set k, pow_pos (suc k))

-- The relation that comes next is not among them.
next-apart : (n : ℕ) → Apart (2 ^ n - 1) (weight (suc n))
next-apart n j here next = omega (arith, mem-most j (2 ^ n - 1) n here (ones_lt n), mem-alone j (suc n) next)

-- So where every split is allowed the tree is sound,
comb-sound : (k : ℕ) → Sound (λ S L. true) (comb k)
unfolding comb set_of
comb-sound zero = omega arith
comb-sound (suc k) =
    (comb-sound k, omega arith, subst (λ (A : ℕ). Apart A (weight (suc (suc k)))) (sym (comb-set k)) (next-apart (suc k)), refl)

-- and it is over them all.
comb-over : (k : ℕ) → Over (λ S L. true) (2 ^ suc k - 1) (comb k)
comb-over k = sound-over (λ S L. true) (2 ^ suc k - 1) (comb k) (comb-sound k) (comb-set k)

-- ---- what it costs

-- Where no count is above 4,294,967,295,
module _ (fig : Figures) (counted : (p : ℕ) → get_or fig.counts p 0 ≤ CEILING) where
  count_most : (k : ℕ) → count fig.counts k ≤ CEILING
  unfolding count
  count_most zero = omega arith
  count_most (suc p) = counted p

  -- no size is: a larger set's is held there.
  rule_most : (S v : ℕ) → size_rule fig S v ≤ CEILING
  unfolding size_rule joined
  rule_most S v = by (larger S)
    where
      by : (b : Bool) → cond b (joined fig S v) (count fig.counts (lowest S)) ≤ CEILING
      by true = min-le_left CEILING _
      by false = count_most (lowest S)

  size-most : (S : ℕ) → size_of fig S ≤ CEILING
  unfolding size_of size_in
  size-most zero = omega arith
  size-most (suc s) = rule_most (suc s) _

  -- Each of its k joins is charged less than 2^51.
  comb-cost : (model limit k : ℕ) → tree_cost (job_for model limit) fig (comb k) ≤ k * 2 ^ 51
  unfolding tree_cost cost_of comb
  comb-cost model limit zero = omega arith
  comb-cost model limit (suc k) =
      let a : ℕ = set_of (comb k) in
      let b : ℕ = set_of (leaf (suc (suc k))) in
      omega (
        arith,
        comb-cost model limit k,
        charge_bounded model (size_of fig a) (size_of fig b) (size_of fig (a + b))
            (omega (arith, size-most a)) (omega (arith, size-most b)) (omega (arith, size-most (a + b))),
      )

-- ---- figures that were read

module _ (f : Read) (ok : Proper f) where
  -- have no count above 4,294,967,295,
  read-counted : (p : ℕ) → get_or (counts_of f) p 0 ≤ CEILING
  unfolding counts_of
  read-counted p = by (dec_lt p f.n)
    where
      by : Dec (p < f.n) → get_or (counts_of f) p 0 ≤ CEILING
      by (yes l) = rw (get_or-take f.n f.counts p 0 l) (ok.counted p l)
      by (no l) = omega (arith, get_or-eq_default (counts_of f) 0 {n = p} (omega (arith, counts-long f ok)))

  -- and so a tree over all n relations that costs no more than 2^60: fourteen charges at most.
  all-over : (model limit : ℕ) → OverAll f model limit (comb (f.n - 1))
  all-over model limit =
      let e : suc (f.n - 1) ≡ f.n = omega (arith, ok.some) in
      subst (λ (S : ℕ). Over (λ S L. true) S (comb (f.n - 1))) (ap (λ (n : ℕ). 2 ^ n - 1) e ∙ sym (all_is f.n ok.few)) (comb-over (f.n - 1))

  all-within : (model limit : ℕ) → price_of f model limit (comb (f.n - 1)) ≤ 2 ^ 60
  all-within model limit = omega (arith, comb-cost (fig f) read-counted model limit (f.n - 1), ok.few)

-- ---- "uses limit 2^60"

-- Where nothing that comes before 7 is due,
module _ (text : List ℕ) (model : ℕ) (room : List ℕ) (e : unfit (judged text) model (2 ^ 60) (length room) ≡ 0) where
  abbrev read : Read
  read = (judged text).figures

  abbrev number : ℕ
  number = (planned text model (2 ^ 60) room).answer.number

  -- 7 is not either, for that tree is within the limit:
  not_none : number ≡ 7 → ⊥
  not_none z =
      let ok = proper text model (2 ^ 60) room e in
      let over = all-over read ok model (2 ^ 60) in
      omega (arith, (no_plan_lem text model (2 ^ 60) room e).0 z (comb (read.n - 1)) over, all-within read ok model (2 ^ 60))

  -- there is a plan.
  pub never_none : (planned text model (2 ^ 60) room).answer.number ≡ 0
  never_none = by (best-fill text model (2 ^ 60) room e).either
    where
      same : number ≡ (filled read model (2 ^ 60)).answer.number
      same = number_is text model (2 ^ 60) room e

      by : ((filled read model (2 ^ 60)).answer.number ≡ 0) ⊎ ((filled read model (2 ^ 60)).answer.number ≡ 7) → number ≡ 0
      by (inl z) = same ∙ z
      by (inr z) = absurd (not_none (same ∙ z))

-- ---- "a line for each model"

-- Of a text that is accepted, up to 11 relations, each model has a plan:
each-planned : (text : List ℕ) → (judged text).number ≡ 0 → (judged text).figures.n ≤ FEW
    → (model : ℕ) → model < MODELS → (asked (judged text) model).answer.number ≡ 0
unfolding asked planned unfit in_order first
each-planned text z few model l =
    let ok = accepted-proper text z in
    let fits = needed-most (judged text).figures.n ok.some ok.few in
    never_none text model (replicate 64 0) (rw (z, le-ltb FEW (judged text).figures.n few, known model 0 0 0 l, le-ltb 64 _ fits))

-- what is printed is the three lines.
pub three-lines : (text : List ℕ) → length text ≤ LONGEST → (judged text).number ≡ 0 → (judged text).figures.n ≤ FEW
    → printed text ≡ line 0 (asked (judged text) 0) ++ line 1 (asked (judged text) 1) ++ line 2 (asked (judged text) 2)
unfolding printed lines
three-lines text h z few =
    let done = each-planned text z few in
    rw (
      le-ltb LONGEST (length text) h,
      eq-eqb _ 0 (done 0 (omega arith)),
      eq-eqb _ 0 (done 1 (omega arith)),
      eq-eqb _ 0 (done 2 (omega arith)),
    )
