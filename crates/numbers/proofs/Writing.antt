-- Texts written one after another, and numbers digit by digit.
use Prim.Native.Nat.{ℕ, suc, ◌+◌, ◌/◌, ◌%◌, ◌≤◌, ◌<◌}
use native.Mathlib.Nat.{add-zero}
use native.Mathlib.Omega.{arith}
use mathlib.Core.List.{List, [], ◌∷◌, ◌++◌}
use mathlib.Core.Path.{◌≡◌, sym, ap, ◌∙◌}
use lib.ListN.{length, set, length-append}
use lib.Seq.{sets}
use Rattle.numbers.specs.Texts.{digit, decimal}
use Rattle.numbers.proofs.Decimal.{decimal-short, decimal_step}

-- One text after another is the two as one.
pub sets-append : (out : List ℕ) (at : ℕ) (xs ys : List ℕ) → sets (sets out at xs) (at + length xs) ys ≡ sets out at (xs ++ ys)
sets-append out at [] ys = ap (λ (k : ℕ). sets out k ys) (add-zero at)
sets-append out at (x ∷ xs) ys =
    let e : at + suc (length xs) ≡ suc at + length xs = omega arith in
    ap (λ (k : ℕ). sets (sets (set out at x) (suc at) xs) k ys) e ∙ sets-append (set out at x) (suc at) xs ys

-- A number below 10 is one digit ..
pub short_length : (x : ℕ) → x < 10 → length (decimal x) ≡ 1
short_length x h = ap length (decimal-short x h)

pub short_written : (out : List ℕ) (at x : ℕ) → x < 10 → set out at (digit x) ≡ sets out at (decimal x)
short_written out at x h = rw (decimal-short x h)

-- .. and any other is the number without its last digit, with that digit after it.
pub long_length : (x : ℕ) → 10 ≤ x → length (decimal x) ≡ length (decimal (x / 10)) + 1
long_length x h = ap length (decimal_step x h) ∙ length-append (decimal (x / 10)) (digit (x % 10) ∷ [])

pub long_written : (out : List ℕ) (at x : ℕ) → 10 ≤ x
    → set (sets out at (decimal (x / 10))) (at + length (decimal (x / 10))) (digit (x % 10)) ≡ sets out at (decimal x)
long_written out at x h = sets-append out at (decimal (x / 10)) (digit (x % 10) ∷ []) ∙ ap (sets out at) (sym (decimal_step x h))

-- What `put_decimal` stands on.
pub ruleset digit_by_digit = (short_length, short_written, long_length, long_written)
