-- Numbers in decimal: what was written is read back, and it ends where the digits end.
use Prim.Native.Nat.{ℕ, zero, suc, ◌+◌, ◌-◌, ◌*◌, ◌/◌, ◌%◌, ◌≤◌, ◌<◌}
use native.Mathlib.Nat.{div-eq_of_lt, mod-eq_of_lt}
use native.Mathlib.Omega.{arith}
use mathlib.Core.Bool.{true, false, cond}
use mathlib.Core.List.{List, [], ◌∷◌, ◌++◌}
use mathlib.Core.Path.{◌≡◌, refl, sym, ap, ◌∙◌}
use lib.Dec.{leb}
use lib.Seq.{append_snoc}
use borrow.Author.Tests.{le-leb}
use Rattle.numbers.specs.Texts.{digit, digits, decimal, is_digit, value}
use Rattle.numbers.proofs.Tests.{both}

-- ---- reading

-- What follows the leading digits.
unfoldable pub after : List ℕ → List ℕ
after [] = []
after (c ∷ cs) = cond (is_digit c) (after cs) (c ∷ cs)

-- The bytes do not begin with a digit.
abbrev pub NoDigit : List ℕ → Type 0
NoDigit [] = Unit {0}
NoDigit (c ∷ cs) = is_digit c ≡ false

-- The bytes begin with a digit.
abbrev pub FirstDigit : List ℕ → Type 0
FirstDigit [] = ⊥
FirstDigit (c ∷ cs) = is_digit c ≡ true

-- Where there is no digit nothing is read.
value-end : (a : ℕ) (xs : List ℕ) → NoDigit xs → value a xs ≡ a
unfolding value
value-end a [] h = refl
value-end a (c ∷ cs) h = rw h

after-end : (xs : List ℕ) → NoDigit xs → after xs ≡ xs
unfolding after
after-end [] h = refl
after-end (c ∷ cs) h = rw h

-- The byte of a digit is one, and it is read.
pub digit_is : (d : ℕ) → d < 10 → is_digit (digit d) ≡ true
unfolding is_digit
digit_is d h = both (leb 48 (digit d)) (leb (digit d) 57) (le-leb 48 (digit d) (omega arith)) (le-leb (digit d) 57 (omega arith))

value-digit : (a d : ℕ) (xs : List ℕ) → d < 10 → value a (digit d ∷ xs) ≡ value (10 * a + d) xs
unfolding value
value-digit a d xs h = let e : digit d - 48 ≡ d = omega arith in rw (digit_is d h, e)

after-digit : (d : ℕ) (xs : List ℕ) → d < 10 → after (digit d ∷ xs) ≡ after xs
unfolding after
after-digit d xs h = rw (digit_is d h)

-- ---- what was written is read

-- All the digits of k are read, and say k.
abbrev Read : ℕ → List ℕ → Type 0
Read k s = (xs : List ℕ) → (value 0 (s ++ xs) ≡ value k xs) × (after (s ++ xs) ≡ after xs)

digits-read : (f k : ℕ) → k ≤ f → Read k (digits f k)
unfolding digits
digits-read zero zero h xs = (refl, refl)
digits-read zero (suc k) h xs = absurd (omega arith)
digits-read (suc f) zero h xs = (refl, refl)
digits-read (suc f) (suc k) h xs =
    let q = suc k / 10 in
    let d = suc k % 10 in
    let l : d < 10 = omega arith in
    let e : 10 * q + d ≡ suc k = omega arith in
    let r = digits-read f q (omega arith) (digit d ∷ xs) in
    rw (append_snoc (digits f q) (digit d) xs)
    (r.0 ∙ value-digit q d xs l ∙ ap (λ (n : ℕ). value n xs) e, r.1 ∙ after-digit d xs l)

decimal-read : (k : ℕ) → Read k (decimal k)
unfolding decimal
decimal-read zero xs = (value-digit 0 0 xs (omega arith), after-digit 0 xs (omega arith))
decimal-read (suc k) xs = digits-read (suc k) (suc k) (omega arith) xs

-- A number in decimal is read back, where no digit follows it.
pub decimal-value : (k : ℕ) (xs : List ℕ) → NoDigit xs → value 0 (decimal k ++ xs) ≡ k
decimal-value k xs h = (decimal-read k xs).0 ∙ value-end k xs h

-- What follows the number is left.
pub decimal-after : (k : ℕ) (xs : List ℕ) → NoDigit xs → after (decimal k ++ xs) ≡ xs
decimal-after k xs h = (decimal-read k xs).1 ∙ after-end xs h

-- Two numbers in decimal, with no digit after them, are the same bytes only where the numbers are the same and so is what follows.
pub decimal_tells : (j k : ℕ) (xs ys : List ℕ) → NoDigit xs → NoDigit ys → decimal j ++ xs ≡ decimal k ++ ys → (j ≡ k) × (xs ≡ ys)
decimal_tells j k xs ys h g e =
    (sym (decimal-value j xs h) ∙ ap (value 0) e ∙ decimal-value k ys g, sym (decimal-after j xs h) ∙ ap after e ∙ decimal-after k ys g)

-- ---- the first digit

-- A last digit is a first one, or follows one.
first-last : (f k : ℕ) → ((xs : List ℕ) → FirstDigit xs → FirstDigit (digits f (suc k / 10) ++ xs)) → (xs : List ℕ)
    → FirstDigit (digits (suc f) (suc k) ++ xs)
unfolding digits
first-last f k before xs =
    let d = suc k % 10 in
    rw (append_snoc (digits f (suc k / 10)) (digit d) xs) (before (digit d ∷ xs) (digit_is d (omega arith)))

digits-first : (f k : ℕ) (xs : List ℕ) → FirstDigit xs → FirstDigit (digits f k ++ xs)
unfolding digits
digits-first zero k xs h = h
digits-first (suc f) zero xs h = h
digits-first (suc f) (suc k) xs h = first-last f k (digits-first f (suc k / 10)) xs

-- A number in decimal begins with a digit.
pub decimal_digit : (k : ℕ) (xs : List ℕ) → FirstDigit (decimal k ++ xs)
unfolding decimal
decimal_digit zero xs = digit_is 0 (omega arith)
decimal_digit (suc k) xs = first-last k k (digits-first k (suc k / 10)) xs

-- ---- digit by digit

digits_zero : (f : ℕ) → digits f 0 ≡ []
unfolding digits
digits_zero zero = refl
digits_zero (suc f) = refl

-- Room for more digits than there are adds none.
digits-enough : (f g k : ℕ) → k ≤ f → k ≤ g → digits f k ≡ digits g k
unfolding digits
digits-enough zero g zero h l = sym (digits_zero g)
digits-enough zero g (suc k) h l = absurd (omega arith)
digits-enough (suc f) g zero h l = sym (digits_zero g)
digits-enough (suc f) zero (suc k) h l = absurd (omega arith)
digits-enough (suc f) (suc g) (suc k) h l = rw (digits-enough f g (suc k / 10) (omega arith) (omega arith))

-- A number below 10 is its digit.
pub decimal-short : (k : ℕ) → k < 10 → decimal k ≡ digit k ∷ []
unfolding decimal digits
decimal-short zero h = refl
decimal-short (suc k) h = rw (div-eq_of_lt h, mod-eq_of_lt h, digits_zero k)

decimal-some : (k : ℕ) → 0 < k → decimal k ≡ digits k k
unfolding decimal
decimal-some zero h = absurd (omega arith)
decimal-some (suc k) h = refl

-- A number from 10 on is the number without its last digit, and that digit.
pub decimal_step : (k : ℕ) → 10 ≤ k → decimal k ≡ decimal (k / 10) ++ (digit (k % 10) ∷ [])
unfolding digits
decimal_step zero h = absurd (omega arith)
decimal_step (suc k) h =
    let q = suc k / 10 in
    rw (decimal-some (suc k) (omega arith), decimal-some q (omega arith), digits-enough k q q (omega arith) (omega arith))

-- A number from 10 to 99 is two digits.
pub decimal-long : (k : ℕ) → 10 ≤ k → k < 100 → decimal k ≡ digit (k / 10) ∷ digit (k % 10) ∷ []
decimal-long k h l = rw (decimal_step k h, decimal-short (k / 10) (omega arith))
