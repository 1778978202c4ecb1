-- How long texts are together, and numbers in decimal.
use Prim.Native.Nat.{ℕ, zero, suc, ◌+◌, ◌/◌, ◌%◌, ◌^◌, ◌≤◌, ◌<◌}
use native.Mathlib.Decide.{dec_lt}
use native.Mathlib.Nat.{pow-suc}
use native.Mathlib.Omega.{arith}
use mathlib.Core.List.{List, [], ◌∷◌, ◌++◌}
use mathlib.Core.Path.{◌≡◌, ap, ◌∙◌}
use lib.ListN.{length, length-append}
use Rattle.numbers.specs.Texts.{digit, decimal}
use Rattle.numbers.proofs.Decimal.{decimal-short, decimal_step}

pub five_long : (x y z t u : List ℕ) → length (x ++ y ++ z ++ t ++ u) ≡ length x + length y + length z + length t + length u
five_long x y z t u = simp length-append

-- A number below 10^d has d digits at most: one of 64 bits has 20, and one of 32 bits 10.
digits-most : (d k : ℕ) → k < 10 ^ suc d → length (decimal k) ≤ suc d
digits-most zero k h = omega (arith, ap length (decimal-short k (omega (arith, h))))
digits-most (suc d) k h = by (dec_lt k 10) (digits-most d (k / 10))
  where
    by : Dec (k < 10) → (k / 10 < 10 ^ suc d → length (decimal (k / 10)) ≤ suc d) → length (decimal k) ≤ suc (suc d)
    by (yes l) more = omega (arith, ap length (decimal-short k l))
    by (no l) more =
        let step = ap length (decimal_step k (omega arith)) ∙ length-append (decimal (k / 10)) (digit (k % 10) ∷ []) in
        omega (arith, step, more (omega (arith, h, pow-suc 10 (suc d))))

pub digits_64 : (k : ℕ) → k < 2 ^ 64 → length (decimal k) ≤ 20
digits_64 k h = digits-most 19 k (omega arith)

pub digits_32 : (k : ℕ) → k < 2 ^ 32 → length (decimal k) ≤ 10
digits_32 k h = digits-most 9 k (omega arith)
