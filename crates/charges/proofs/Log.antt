-- The logarithm: what its definition means, and why counting leading zeros gives it.
use Prim.Native.Nat.{ℕ, zero, suc, ◌+◌, ◌*◌, ◌/◌, ◌^◌, ◌≤◌, ◌<◌, zero-le}
use native.Mathlib.Nat.{le_antisymm, le_of_suc-le-suc, le_refl, lt_of_not-le}
use native.Mathlib.Omega.{arith}
use mathlib.Core.Path.{◌≡◌}
use lib.Bits.{bit_or, or_add_and, or_lt, and_mask}
use lib.Count.{count_leading_zeros, leading_top}
use lib.Pow.{pow-lt, pow_mono}
use Rattle.charges.specs.Charges.{halvings, log2}

-- k is the whole part of the base-two logarithm of x.
abbrev pub WholeLog : ℕ → ℕ → Type 0
WholeLog x k = (2 ^ k ≤ x) × (x < 2 ^ suc k)

log_doubled : (x k : ℕ) → 1 < x → WholeLog (x / 2) k → WholeLog x (suc k)
log_doubled x k p l = omega arith

halvings_are : (f x : ℕ) → 0 < x → x ≤ f → WholeLog x (halvings f x)
unfolding halvings
halvings_are zero x p h = absurd (omega arith)
halvings_are (suc f) zero p h = absurd (omega arith)
halvings_are (suc f) (suc zero) p h = omega arith
halvings_are (suc f) (suc (suc x)) p h =
    log_doubled (suc (suc x)) _ (omega arith) (halvings_are f (suc (suc x) / 2) (omega arith) (omega arith))

-- How often a number can be halved is the whole part of its logarithm, as document 01 words it ..
pub log_is : (x : ℕ) → 0 < x → WholeLog x (log2 x)
unfolding log2
log_is x p = halvings_are x x p (le_refl x)

exponents : (x i j : ℕ) → 2 ^ i ≤ x → x < 2 ^ suc j → i ≤ j
exponents x i j l h = le_of_suc-le-suc (lt_of_not-le (λ (q : suc j ≤ i). omega (arith, pow_mono q)))

-- .. and there is no other number that it could mean.
pub log_unique : (x j k : ℕ) → WholeLog x j → WholeLog x k → j ≡ k
log_unique x j k p q = le_antisymm (exponents x j k p.0 q.1) (exponents x k j q.0 p.1)

-- It never falls when the number rises.
pub log_rises : (x y : ℕ) → x ≤ y → log2 x ≤ log2 y
unfolding log2 halvings
log_rises zero y h = zero-le
log_rises (suc x) y h = exponents y (log2 (suc x)) (log2 y) (omega (arith, (log_is (suc x) (omega arith)).0)) (log_is y (omega arith)).1

last_set : (x : ℕ) → bit_or x 1 ≡ x / 2 * 2 + 1
last_set x = omega (arith, or_add_and x 1, and_mask x 1)

-- With its last digit set a number that is not 0 keeps its logarithm, and 0 becomes 1, whose logarithm is 0.
log_last_set : (x : ℕ) → WholeLog (bit_or x 1) (log2 x)
unfolding log2 halvings
log_last_set zero = omega arith
log_last_set (suc x) = let l = log_is (suc x) (omega arith) in rw last_set (omega arith)

-- So at any width the leading zeros, the highest digit and the logarithm's digits below it make up the width, without a test for 0.
pub log_leading : (k x : ℕ) → 0 < k → x < 2 ^ k → count_leading_zeros k (bit_or x 1) + suc (log2 x) ≡ k
log_leading k x p h =
    let top = leading_top k (bit_or x 1) (omega (arith, last_set x)) (or_lt k x 1 h (pow-lt p)) in
    rw (log_unique _ (log2 x) top.0 (log_last_set x) (top.2, top.3)) top.1
