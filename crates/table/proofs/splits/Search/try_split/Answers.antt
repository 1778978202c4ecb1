-- Where the parts alone cost as much as the best so far, or more than 64 bits hold, so does their join; else nothing overflows.
use Rattle.std.proofs.Common.{◌≡◌, ℕ, ◌+◌, ◌%◌, ◌^◌, ◌<◌, ◌≤◌, sym, arith}
use Rattle.table.specs.Tables.{row_at}
use Rattle.table.specs.Rule.{join_cost}
use Rattle.table.proofs.Best.{better_stays, better-new}
use Rattle.table.proofs.splits.Search.try_split.Goals as goal

-- A sum that wraps is below its first part, and passes 64 bits ..
wraps : (a b : ℕ) → (a + b) % 2 ^ 64 < a → 2 ^ 64 ≤ a + b
wraps a b l = omega arith

-- .. and any other is the sum.
whole : (a b : ℕ) → a < 2 ^ 64 → b < 2 ^ 64 → a ≤ (a + b) % 2 ^ 64 → (a + b) % 2 ^ 64 ≡ a + b
whole a b ha hb l = omega arith

pub returns-then-parts-a : goal.returns-then-parts-a
unfolding join_cost row_at
returns-then-parts-a c = λ fig lefts room. sym (better_stays _ _ _ (omega (arith, wraps _ _ c.if-parts-a.true)))

pub returns-then-cost-best : goal.returns-then-cost-best
unfolding join_cost row_at
returns-then-cost-best c = λ fig lefts room.
    let e = whole _ _ c.cost_of-a.type_inv c.cost_of.type_inv c.if-parts-a.false in
    rw (← c.cost_of-a.ensures, ← c.cost_of.ensures, ← c.size_of.ensures, ← c.size_of-then-parts-best.ensures, e, ← c.split_charge.ensures.value)
    (sym (better-new _ _ _ (omega (arith, e))))

pub returns-else-cost-best : goal.returns-else-cost-best
unfolding join_cost row_at
returns-else-cost-best c = λ fig lefts room.
    let e = whole _ _ c.cost_of-a.type_inv c.cost_of.type_inv c.if-parts-a.false in
    rw (← c.cost_of-a.ensures, ← c.cost_of.ensures, ← c.size_of.ensures, ← c.size_of-then-parts-best.ensures, ← c.split_charge.ensures.value)
    (sym (better_stays _ _ _ (omega (arith, e))))

pub returns-else-parts-best : goal.returns-else-parts-best
unfolding join_cost row_at
returns-else-parts-best c = λ fig lefts room.
    let e = whole _ _ c.cost_of-a.type_inv c.cost_of.type_inv c.if-parts-a.false in
    sym (better_stays _ _ _ (omega (arith, e)))
