-- After an accepted fill that gives a plan, and after an edit of a table that holds a fill, print shows that plan.
use Prim.Native.Nat.{ℕ, ◌^◌, ◌≤◌, ◌<◌}
use native.Mathlib.Omega.{arith}
use mathlib.Core.List.{List, ◌++◌}
use mathlib.Core.Path.{◌≡◌, sym, ap, ◌∙◌}
use lib.ListN.{length, drop}
use borrow.Author.Tests.{lt-ltb, le-ltb}
use Rattle.relations.specs.Sets.{MOST, all_of}
use Rattle.relations.proofs.Named.{all-some, relation_is}
use Rattle.table.specs.Demands.{Optimal, HoldsFill, changed}
use Rattle.table.specs.Requests.{Request, fill, change, touches}
use Rattle.table.specs.Results.{Call, Result, refusal, job_of, mended, worked, result}
use Rattle.table.specs.Rule.{row_of}
use Rattle.table.specs.Tables.{Table, Room, row_at}
use Rattle.table.specs.Trees.{Tree, plan_of}
use Rattle.table.proofs.Demand2.{optimal}
use Rattle.table.proofs.Demand3.{fit-changed, fill-accepted, demand_3}
use Rattle.table.proofs.Mending.{mend_room}
use Rattle.table.proofs.Refusals.{accepted, result-done}
use Rattle.newick.specs.Results.{short_column, unwritten, written, printed, Result as Print}
use Rattle.newick.specs.Shows.{ShowsPlan}
use Rattle.newick.specs.Texts.{whole_text, needed}
use Rattle.newick.proofs.Refusals.{HoldsPlan, only-room, printed-done, printed-refused}
use Rattle.newick.proofs.TextLaws.{text-first}
use Rattle.newick.proofs.WalkLaws.{over-walked}

-- Columns that hold a plan show it.
module _ (n : ℕ) (r : Result) (room : List ℕ) (h : HoldsPlan n r.table.costs r.table.lefts) where
  abbrev plan : Tree
  plan = plan_of r.table.lefts (all_of n)

  abbrev found : Print
  found = printed n r.table.costs r.table.lefts room

  shown : needed n ≤ length room → found ≡ written room (whole_text plan)
  shown l = printed-done n _ _ room (only-room n _ _ (length room) h ∙ rw (le-ltb (length room) (needed n) l))

  short : length room < needed n → found ≡ unwritten room 9
  short l = printed-refused n _ _ room 9 (sym (only-room n _ _ (length room) h ∙ rw (lt-ltb (length room) (needed n) l))) (omega arith)

  only : needed n ≤ length room → (t : Tree) (rest : List ℕ) → found.room ≡ whole_text t ++ rest → t ≡ plan
  only l t rest e = text-first t plan rest (drop (length (whole_text plan)) room) (sym e ∙ ap (λ (x : Print). x.room) (shown l))

  shows-plan : ShowsPlan n r room
  shows-plan = record { shown = shown; short = short; only = only }

-- The table of an optimal result that gives a plan holds it.
optimal-holds : (c : Call) (r : Result) → 1 ≤ c.n → c.n ≤ MOST → Room r.table (2 ^ c.n) → Optimal c r → r.answer.number ≡ 0
    → HoldsPlan c.n r.table.costs r.table.lefts
unfolding short_column row_at job_of
optimal-holds c r some few room o z =
    let all = all-some c.n some few in
    record {
      relations = relation_is MOST c.n some few;
      columns = rw (le-ltb _ _ room.costs, le-ltb _ _ room.lefts);
      plan = λ e. omega (arith, o.none.1 ((o.rows (all_of c.n) all.0 all.1).none.0 e));
      tree = over-walked r.table.lefts _ (all_of c.n) (o.plan z);
    }

-- An accepted fill keeps the columns' lengths.
pub filled-room : (c : Call) → refusal fill c ≡ 0 → Room (mended fill c) (2 ^ c.n)
unfolding mended change
filled-room c e = mend_room (row_of (job_of c) c.figures) (touches fill) (2 ^ c.n) c.table (accepted fill c e).fit.room

-- After an accepted fill that gives a plan.
pub fill_shows : (c : Call) → refusal fill c ≡ 0 → (result fill c).answer.number ≡ 0 → (room : List ℕ) → ShowsPlan c.n (result fill c) room
fill_shows c e =
    rw (result-done fill c e)
    (λ z room.
    let fit = (accepted fill c e).fit in
    shows-plan c.n (worked fill c) room (optimal-holds c (worked fill c) fit.some fit.few (filled-room c e) (optimal c e) z))

-- After an accepted edit of a table that holds a fill.
pub edit_shows : (q : Request) (c : Call) (U : Table) → refusal q c ≡ 0 → HoldsFill c U → (result q c).answer.number ≡ 0
    → (room : List ℕ) → ShowsPlan c.n (result q c) room
edit_shows q c U e h =
    rw (demand_3 q c e U h) (fill_shows (changed q c) (fill-accepted (changed q c) (fit-changed q c (accepted q c e))))
