-- What is answered is the value that is expected, where its number and what comes with the number are.
use Prim.Native.Nat.{ℕ}
use native.Mathlib.Omega.{arith}
use mathlib.Core.Path.{◌≡◌, refl, ap}
use Rattle.std.specs.Prelude.{Result, Ok, Err}
use Rattle.charges.specs.Charges.{Answer as Charge, answer as charge_of}
use Rattle.charges.specs.declared.UnknownModel.{UnknownModel}
use Rattle.table.specs.Results.{Answer, answer}
use Rattle.table.specs.declared.Plan.{Plan}
use Rattle.table.specs.declared.Refusal.{Refusal}
use Rattle.table.specs.declared.Refusal.TheVariants as table
use Rattle.table.proofs.Refusals.{number_pos}
use Rattle.newick.specs.Results.{Answer as Print, answer as print_of}
use Rattle.newick.specs.declared.Refusal.{Refusal as Unprinted}
use Rattle.newick.specs.declared.Refusal.TheVariants as newick

pub charge_is : (r : Result ℕ UnknownModel) (c : ℕ) → charge_of r ≡ charge_of (Ok c) → r ≡ Ok c
charge_is (Ok d) c e = ap (λ (a : Charge). Ok a.charge) e
charge_is (Err _) c e = absurd (omega (arith, ap (λ (a : Charge). a.number) e))

pub plan_is : (r : Result Plan Refusal) (p : Plan) → answer r ≡ answer (Ok p) → r ≡ Ok p
plan_is (Ok q) p e = ap (λ (a : Answer). Ok (record { cost = a.cost; size = a.size })) e
plan_is (Err why) p e = absurd (omega (arith, ap (λ (a : Answer). a.number) e, number_pos why))

pub no_plan_is : (r : Result Plan Refusal) → answer r ≡ answer (Err table.NoPlan) → r ≡ Err table.NoPlan
no_plan_is (Ok q) e = absurd (omega (arith, ap (λ (a : Answer). a.number) e))
no_plan_is (Err table.NoPlan) e = refl
no_plan_is (Err table.Relations) e = absurd (omega (arith, ap (λ (a : Answer). a.number) e))
no_plan_is (Err table.Lengths) e = absurd (omega (arith, ap (λ (a : Answer). a.number) e))
no_plan_is (Err table.ZeroDivisor) e = absurd (omega (arith, ap (λ (a : Answer). a.number) e))
no_plan_is (Err table.UnknownModel) e = absurd (omega (arith, ap (λ (a : Answer). a.number) e))
no_plan_is (Err table.HighLimit) e = absurd (omega (arith, ap (λ (a : Answer). a.number) e))
no_plan_is (Err table.ShortColumn) e = absurd (omega (arith, ap (λ (a : Answer). a.number) e))
no_plan_is (Err table.Name) e = absurd (omega (arith, ap (λ (a : Answer). a.number) e))

pub short_is : (r : Result ℕ Unprinted) → print_of r ≡ print_of (Err newick.ShortText) → r ≡ Err newick.ShortText
short_is (Ok k) e = absurd (omega (arith, ap (λ (a : Print). a.number) e))
short_is (Err newick.ShortText) e = refl
short_is (Err newick.Relations) e = absurd (omega (arith, ap (λ (a : Print). a.number) e))
short_is (Err newick.ShortColumn) e = absurd (omega (arith, ap (λ (a : Print). a.number) e))
short_is (Err newick.NoPlan) e = absurd (omega (arith, ap (λ (a : Print). a.number) e))
short_is (Err newick.NoTree) e = absurd (omega (arith, ap (λ (a : Print). a.number) e))
