-- A model that is charged has the charge of the list, and an unknown one none.
use Rattle.std.proofs.Common.{◌≡◌, ℕ, Result, Ok, Err, ap, ◌∙◌}
use Rattle.std.specs.Result.{result_unwrap_or}
use Rattle.charges.specs.Charges.{Answer, answer, priced, charge}
use Rattle.charges.specs.declared.UnknownModel.{UnknownModel}
use Rattle.table.proofs.splits.charged.Goals as goal

charge-or_none : (r : Result ℕ UnknownModel) (model a b o : ℕ) → answer r ≡ priced model a b o → result_unwrap_or r 0 ≡ charge model a b o
unfolding charge
charge-or_none (Ok c) model a b o e = ap (λ (x : Answer). x.charge) e
charge-or_none (Err why) model a b o e = ap (λ (x : Answer). x.charge) e

pub returns : goal.returns
returns c = c.unwrap_or.ensures ∙ charge-or_none _ _ _ _ _ c.charge.ensures
