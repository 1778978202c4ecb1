-- The digits before the last are the number's that is without it, and that number is less.
use Rattle.numbers.proofs.+put_decimal.Given as goal

abbrev pub decreases-put_decimal : goal.decreases-put_decimal
decreases-put_decimal l = l.x
