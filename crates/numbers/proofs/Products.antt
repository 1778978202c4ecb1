-- Products that fit.
use Prim.Native.Nat.{ℕ, ◌+◌, ◌*◌, ◌^◌, ◌<◌}
use native.Mathlib.Nat.{le_of_lt, lt_of_le_of_lt, mul-le-mul_left}
use lib.Pow.{shl_lt}

-- The widths of the factors make up the width of the product.
pub product_fits : (j k a b : ℕ) → a < 2 ^ j → b < 2 ^ k → a * b < 2 ^ (j + k)
product_fits j k a b ha hb = lt_of_le_of_lt (mul-le-mul_left a (le_of_lt hb)) (shl_lt j k ha)
