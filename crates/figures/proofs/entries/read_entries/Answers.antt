use Rattle.std.proofs.Common.{ℕ, ◌≡◌, suc, ◌+◌, ◌-◌, ◌≤◌, ◌<◌, true, false, Bool, List, sym, ◌∙◌, arith}
use Rattle.relations.specs.Sets.{MOST, is_relation}
use Rattle.relations.proofs.Named.{is_relation_lem}
use Rattle.figures.specs.Entries.{in_triangle}
use Rattle.figures.specs.Judge.{Result}
use Rattle.figures.specs.Inner.{flag}
use Rattle.figures.specs.declared.Figures.{Figures}
use Rattle.figures.proofs.Collected.{triangle, triangle_is}
use Rattle.figures.proofs.Turns.{Kept, first-kept, line_refused, twice, no_divisor, next-kept, bytes_follow, count_missing, all_read}
use Rattle.figures.proofs.entries.read_entries.Goals as goal

-- ---- what is left to read

module _ {text : List ℕ} {n : ℕ} {seen : List (List Bool)} {figures : Figures} {at : ℕ} {w : Result} (m k : ℕ)
    (h : Kept text n (m - k) seen figures at w) where
  -- Before a line it is that line, and what is left after it;
  before_line : k < m → Kept text n (suc (m - (k + 1))) seen figures at w
  before_line l = let e : m - k ≡ suc (m - (k + 1)) = omega arith in rw e at h

  -- and after the last it is nothing.
  after_last : m ≤ k → Kept text n 0 seen figures at w
  after_last l = let e : m - k ≡ 0 = omega arith in rw e at h

-- ---- the place of an entry

-- It is in the arrays.
named : (n i j : ℕ) → n ≤ MOST → in_triangle n i j ≡ true → (1 ≤ j) × (j ≤ i) × (i ≤ MOST)
named n i j l h = let t = triangle n i j h in (t.0, t.1, omega arith)

few : (n : ℕ) → is_relation MOST n ≡ true → n ≤ MOST
few n h = (is_relation_lem MOST n h).1

pub no_entries-figures-requires : goal.no_entries-figures-requires
no_entries-figures-requires c = few c.args.n c.requires

pub loop-init : goal.loop-init
loop-init c = record {
  in_range = omega arith;
  taken = omega arith;
  turns = omega arith;
  kept = first-kept _ _ _ _ _ _ (few c.args.n c.requires) (omega arith) c.no_entries-figures.ensures;
}

pub returns-in_default : goal.returns-in_default
returns-in_default c =
    let h = before_line c.args.m c.loop.counter c.loop.invariant.kept c.loop-test.true in
    line_refused h c.entry_line-line.result c.entry_line-line.ensures.reads c.unwrap_err.ensures

pub returns-then-twice : goal.returns-then-twice
returns-then-twice c =
    let h = before_line c.args.m c.loop.counter c.loop.invariant.kept c.loop-test.true in
    rw c.at.ensures (twice h c.entry_line-line.result c.entry_line-line.ensures.reads c.in-Ok.is c.in-Ok.ensures.inside c.if-twice.true)

pub returns-then-no_divisor : goal.returns-then-no_divisor
returns-then-no_divisor c =
    let h = before_line c.args.m c.loop.counter c.loop.invariant.kept c.loop-test.true in
    let new : flag c.loop.seen (c.in-Ok.i - 1) (c.in-Ok.j - 1) ≡ false = cc in
    rw c.at-then-no_divisor.ensures
    (no_divisor h c.entry_line-line.result c.entry_line-line.ensures.reads c.in-Ok.is c.in-Ok.ensures.inside new
    (sym c.is_zero_divisor-no_divisor.ensures ∙ c.if-no_divisor.true))

pub with_entry-figures-requires : goal.with_entry-figures-requires
with_entry-figures-requires c =
    let t = named c.args.n _ _ c.loop.invariant.kept.few c.in-Ok.ensures.inside in
    triangle_is MOST _ _ t.0 t.1 t.2

pub loop-preserved : goal.loop-preserved
loop-preserved c =
    let h = before_line c.args.m c.loop.counter c.loop.invariant.kept c.loop-test.true in
    record {
      in_range = omega arith;
      taken = omega (arith, c.in-Ok.ensures.onward);
      turns = omega (arith, c.in-Ok.ensures.onward);
      kept =
          rw c.with_entry-figures.ensures
          (next-kept h c.entry_line-line.result c.entry_line-line.ensures.reads c.in-Ok.is c.in-Ok.ensures.inside c.if-twice.false
          (sym c.is_zero_divisor-no_divisor.ensures ∙ c.if-no_divisor.false));
    }

pub returns-then-bytes_follow : goal.returns-then-bytes_follow
returns-then-bytes_follow c =
    let h = after_last c.args.m c.loop.counter c.loop.invariant.kept c.loop-test.false in
    rw c.at-then-bytes_follow.ensures (bytes_follow h c.if-bytes_follow.true)

pub returns-then-not-all_seen : goal.returns-then-not-all_seen
returns-then-not-all_seen c =
    let h = after_last c.args.m c.loop.counter c.loop.invariant.kept c.loop-test.false in
    rw c.at-then-not-all_seen.ensures (count_missing h c.if-bytes_follow.false (sym c.all_seen.ensures ∙ c.if-not-all_seen.true))

pub returns : goal.returns
returns c =
    let h = after_last c.args.m c.loop.counter c.loop.invariant.kept c.loop-test.false in
    all_read h c.if-bytes_follow.false (sym c.all_seen.ensures ∙ c.if-not-all_seen.false)
