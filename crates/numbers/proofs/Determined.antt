-- Each public contract determines its result.
use mathlib.Core.Path.{sym, ◌∙◌}
use Rattle.numbers.specs.Determined.{Determined, DeterminedWith}
use Rattle.numbers.proofs.product.Reads as Product
use Rattle.numbers.proofs.put_decimal.Reads as PutDecimal

product_determined : Determined Product.Post
product_determined k a x r q p s = p ∙ sym s

-- The place after the number, and what stands in the memory lent.
put_decimal_determined : DeterminedWith PutDecimal.Post (λ x. x.1.0.now)
put_decimal_determined k a x y r q p s = (p.0 ∙ sym s.0, p.1 ∙ sym s.1)
