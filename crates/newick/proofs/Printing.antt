-- What print leaves, once the checks have refused or passed; `full` is the full set's number.
use Prim.Native.Nat.{ℕ, ◌+◌, ◌≤◌}
use native.Mathlib.Omega.{arith}
use mathlib.Core.List.{List}
use mathlib.Core.Path.{◌≡◌, sym, ap, ap₂, ◌∙◌}
use lib.ListN.{length, set}
use lib.Seq.{sets}
use Rattle.std.specs.Prelude.{Ok, Err}
use Rattle.relations.specs.Sets.{all_of}
use Rattle.table.specs.Trees.{plan_of}
use Rattle.newick.specs.Texts.{text, whole_text}
use Rattle.newick.specs.Inner.{Walked}
use Rattle.newick.specs.Results.{unprinted, number_of, result_of, written, printed}
use Rattle.newick.specs.declared.Refusal.{Refusal}
use Rattle.newick.proofs.Refusals.{printable, plan-walked, plan-length, printed-done, printed-refused, number_pos}
use Rattle.newick.proofs.TextLaws.{length_whole}
use Rattle.newick.proofs.Writing.{whole-written}

-- The walk from the full set goes through,
pub passed_walked : (n room : ℕ) (costs lefts : List ℕ) (full : ℕ) → 0 ≡ unprinted n costs lefts room → full ≡ all_of n → Walked lefts full
passed_walked n room costs lefts full e is = let p = printable n costs lefts room (sym e) in rw is (plan-walked n costs lefts p.0)

module _ (n : ℕ) (costs lefts room : List ℕ) where
  pub leaves_refused : (why : Refusal) → number_of why ≡ unprinted n costs lefts (length room) → result_of (Err why) room ≡ printed n costs lefts room
  leaves_refused why e = sym (printed-refused n costs lefts room _ e (number_pos why))

  module _ (full : ℕ) (is : full ≡ all_of n) (e : 0 ≡ unprinted n costs lefts (length room)) where
    -- and the room is long enough for the tree's text and its end.
    pub passed_fits : length (text (plan_of lefts full)) + 1 ≤ length room
    passed_fits =
        let p = printable n costs lefts (length room) (sym e) in
        rw is (omega (arith, length_whole (plan_of lefts (all_of n)), plan-length n costs lefts p.0, p.1))

    pub leaves_written : (B : List ℕ) (end : ℕ) → B ≡ sets room 0 (text (plan_of lefts full)) → end ≡ 0 + length (text (plan_of lefts full))
        → result_of (Ok (end + 1)) (set B end 59) ≡ printed n costs lefts room
    leaves_written B end b l =
        let tree = plan_of lefts full in
        let one = length_whole tree in
        ap₂ (λ (k : ℕ) (X : List ℕ). result_of (Ok k) X) (omega arith) (whole-written room B end tree b l (omega (arith, passed_fits)))
        ∙ ap (λ (S : ℕ). written room (whole_text (plan_of lefts S))) is
        ∙ sym (printed-done n costs lefts room (sym e))
