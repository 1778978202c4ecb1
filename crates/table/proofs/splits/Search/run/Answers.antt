use Rattle.std.proofs.Common.{◌≡◌, ℕ, ◌+◌, ◌-◌, ◌<◌, ◌≤◌, true, List, [], refl, arith}
use Rattle.relations.specs.Sets.{Part, larger}
use Rattle.relations.specs.Splits.{Next}
use Rattle.relations.proofs.Parts.{part-le}
use Rattle.relations.proofs.Splits.{next-below}
use Rattle.charges.proofs.Laws.{charge_symmetric}
use Rattle.table.specs.Figures.{figures}
use Rattle.table.specs.Tables.{Table, columns, row_at}
use Rattle.table.specs.Rule.{NONE, Job, better, best_to, price, join_cost, within, splits}
use Rattle.table.specs.Inner.{under, split_job}
use Rattle.table.specs.declared.splits.Split.{Split}
use Rattle.table.proofs.Rules.{larger-rest, split_is}
use Rattle.table.proofs.Search.{Prices, Visited, tried_none, tried_next, visit_next, visit_half, split_total, quiet_price, mirror_price}
use Rattle.table.proofs.splits.Search.run.Invariants.{Come}
use Rattle.table.proofs.splits.Search.run.Goals as goal

-- ---- what the search works with

module _ (sizes costs : List ℕ) (model room o S : ℕ) where
  abbrev T : Table
  T = columns sizes costs []

  abbrev job : Job
  job = split_job model room

  abbrev prices : ℕ → ℕ
  prices = price job (figures [] []) T S o

  abbrev quiet : (L : ℕ) → (0 < L → Part L S → ⊥) → prices L ≡ NONE
  quiet = quiet_price job (figures [] []) T S o

  abbrev At : ℕ → Split → Type 0
  At = Visited prices room S

  abbrev of_parts : ℕ → ℕ → ℕ
  of_parts L r = join_cost job (figures [] []) (row_at T L) (row_at T r) o

  -- A split tried has the total that the row rule gives it.
  total : (L r : ℕ) → r ≡ S - L → 0 < L → Part L S → Prices room (of_parts L r) (prices L)
  total L r e l p =
      split_total job (figures [] []) T S o L r e (split_is job (figures [] []) S L (record { some = l; part = p; allows = refl }))

  -- Where the loop ends, past the middle, all of S is searched.
  done : (l : ℕ) (b : Split) → S < l + l → At l b → b ≡ under (room + 1) (best_to prices S)
  done l b h v =
      visit_half _ _ S l b h (mirror_price job (figures [] []) T S o even (λ _ _. refl)) v
    where
      even : (a b c : ℕ) → job.charge a b c ≡ job.charge b a c
      even a b c = omega (arith, charge_symmetric model a b c)

  -- ---- a turn

  -- From l, with b found, the step goes to N, and from there to a part that is searched to as soon as N is tried.
  record Turn (l N : ℕ) (b : Split) : Type 0 where
    below : N < S
    rises : l < N
    held : b.cost ≤ room + 1
    come : (N₂ : ℕ) (x : Split) → Next S N N₂ → x ≡ better (λ _. of_parts N (S - N)) b N → At N₂ x

  turn : larger S ≡ true → (l N : ℕ) (b : Split) → Come sizes costs model room o S l b → Next S l N → Turn l N b
  turn more l N b came next =
      let below : N < S = next-below S _ N (larger-rest S more) came.part came.low next in
      let rises : l < N = next.above (omega (arith, came.low)) in
      let arrived : At N b = came.next N next in
      record {
        below = below;
        rises = rises;
        held = omega (arith, arrived.searched.cost);
        come = λ N₂ x next-2 e.
            visit_next _ _ S quiet N N₂ _ _ _ (omega arith) below next-2 (total N _ refl (omega arith) next.part) e arrived;
      }

-- ---- the goals

pub loop-left-init : goal.loop-left-init
loop-left-init c = tried_none _ _ _ _ (omega (arith, c.args.self.room_low))

pub overflow_sub-right : goal.overflow_sub-right
overflow_sub-right c = part-le _ _ (c.next_left-left.ensures.rising c.loop-left.invariant.part).part

pub try_split-best-requires : goal.try_split-best-requires
try_split-best-requires c =
    let next = c.next_left-left.ensures.rising c.loop-left.invariant.part in
    let t = turn _ _ _ _ c.args.self.size _ c.args.self.larger_set _ _ _ c.loop-left.invariant next in
    record { left_within = omega (arith, t.below); right_within = omega arith; best_low = t.held }

pub overflow_sub-other : goal.overflow_sub-other
overflow_sub-other c =
    let next = c.next_left-left.ensures.rising c.loop-left.invariant.part in
    part-le _ _ (c.next_left-left-in-loop-left.ensures.rising next.part).part

pub try_split-best-requires-in-loop-left-clause-best_low : goal.try_split-best-requires-in-loop-left-clause-best_low
try_split-best-requires-in-loop-left-clause-best_low c =
    let next = c.next_left-left.ensures.rising c.loop-left.invariant.part in
    let t = turn _ _ _ _ c.args.self.size _ c.args.self.larger_set _ _ _ c.loop-left.invariant next in
    let v = t.come _ _ (c.next_left-left-in-loop-left.ensures.rising next.part) (c.try_split-best.ensures (figures [] []) [] c.args.self.room) in
    omega (arith, v.searched.cost)

pub loop-left-smaller : goal.loop-left-smaller
loop-left-smaller c =
    let next = c.next_left-left.ensures.rising c.loop-left.invariant.part in
    let next-2 = c.next_left-left-in-loop-left.ensures.rising next.part in
    let t = turn _ _ _ _ c.args.self.size _ c.args.self.larger_set _ _ _ c.loop-left.invariant next in
    omega (arith, t.rises, next-2.above t.below, part-le _ _ next-2.part)

pub loop-left-preserved : goal.loop-left-preserved
loop-left-preserved c =
    let S = c.args.self.set.number in
    let N = c.next_left-left-in-loop-left.result.number in
    let next = c.next_left-left.ensures.rising c.loop-left.invariant.part in
    let next-2 = c.next_left-left-in-loop-left.ensures.rising next.part in
    let t = turn _ _ _ _ c.args.self.size S c.args.self.larger_set _ _ _ c.loop-left.invariant next in
    let some : 0 < N = omega (arith, next-2.above t.below) in
    let low : N + N ≤ S = omega (arith, part-le _ _ next-2.part, c.if-other-left.false) in
    tried_next _ _ S _ N _ _ _ some low
    (total _ _ c.args.model c.args.self.room c.args.self.size S N _ refl some next-2.part)
    (c.try_split-best-in-loop-left.ensures (figures [] []) [] c.args.self.room)
    (t.come _ _ next-2 (c.try_split-best.ensures (figures [] []) [] c.args.self.room))

pub returns : goal.returns
unfolding price splits within join_cost row_at
returns c = λ fig lefts.
    let next = c.next_left-left.ensures.rising c.loop-left.invariant.part in
    let next-2 = c.next_left-left-in-loop-left.ensures.rising next.part in
    let t = turn _ _ _ _ c.args.self.size _ c.args.self.larger_set _ _ _ c.loop-left.invariant next in
    done c.args.self.sizes.now c.args.self.costs.now c.args.model c.args.self.room c.args.self.size c.args.self.set.number c.next_left-left-in-loop-left.result.number _
    (omega (arith, part-le _ _ next-2.part, c.if-other-left.true))
    (t.come _ _ next-2 (c.try_split-best.ensures (figures [] []) [] c.args.self.room))
