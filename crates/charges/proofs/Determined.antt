-- Each public contract determines its result.
use Rattle.std.proofs.Common.{◌≡◌, ℕ, Result, Ok, Err, refl, sym, ap, ◌∙◌, arith}
use Rattle.numbers.specs.Determined.{Determined}
use Rattle.charges.specs.Charges.{Answer, answer}
use Rattle.charges.specs.declared.UnknownModel.{UnknownModel}
use Rattle.charges.proofs.charge.Reads as Charge
use Rattle.charges.proofs.up.Reads as Up
use Rattle.charges.proofs.w.Reads as W

-- Number and charge tell the answers apart.
answer_tells : (r q : Result ℕ UnknownModel) → answer r ≡ answer q → r ≡ q
answer_tells (Ok c) (Ok d) e = ap (λ (x : Answer). Ok x.charge) e
answer_tells (Ok c) (Err _) e = absurd (omega (arith, ap (λ (x : Answer). x.number) e))
answer_tells (Err _) (Ok d) e = absurd (omega (arith, ap (λ (x : Answer). x.number) e))
answer_tells (Err _) (Err _) e = refl

charge_determined : Determined Charge.Post
charge_determined k a x r q p s = answer_tells r q (p ∙ sym s)

w_determined : Determined W.Post
w_determined k a x r q p s = p ∙ sym s

up_determined : Determined Up.Post
up_determined k a x r q p s = p ∙ sym s
