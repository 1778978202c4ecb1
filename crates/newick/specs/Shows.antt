-- What print makes of the table that an accepted fill, or an edit that is as good as one, has left: the plan and no other.
use Rattle.std.specs.Prelude.{ℕ, ◌≤◌, ◌<◌, List, ◌++◌, ◌≡◌, length}
use Rattle.relations.specs.Sets.{all_of}
use Rattle.table.specs.Results.{Result}
use Rattle.table.specs.Trees.{Tree, plan_of}
use Rattle.newick.specs.Texts.{whole_text, needed}
use Rattle.newick.specs.Results.{unwritten, written, printed}

-- Of n relations, the result r of the fill and the room lent for the text. The tree, `plan_of r.table.lefts (all_of n)`, is the one that
-- demand 2 speaks of (table, specs/Demands, `Optimal`).
pub record ShowsPlan (n : ℕ) (r : Result) (room : List ℕ) : Type 0 where
  -- It is never refused with 7 or 10. With room enough the text is that of the tree,
  pub shown : needed n ≤ length room
      → printed n r.table.costs r.table.lefts room ≡ written room (whole_text (plan_of r.table.lefts (all_of n)))
  -- and otherwise it is refused with 9.
  pub short : length room < needed n → printed n r.table.costs r.table.lefts room ≡ unwritten room 9
  -- Whatever tree is read at the start of the room is that tree.
  pub only : needed n ≤ length room → (t : Tree) (rest : List ℕ) → (printed n r.table.costs r.table.lefts room).room ≡ whole_text t ++ rest
      → t ≡ plan_of r.table.lefts (all_of n)
