-- "up meaning rounded up" (document 01, "Costs"): the least whole number that is enough.
use Prim.Native.Nat.{ℕ, ◌+◌, ◌-◌, ◌*◌, ◌/◌, ◌%◌, ◌≤◌, ◌<◌}
use native.Mathlib.Nat.{add-mul, div-add-mod', eq-zero-or-pos, le_of_mul-le-mul_right, lt_of_mul-lt-mul_right, mod-lt, mul-le-mul_left}
use native.Mathlib.Omega.{arith}
use mathlib.Core.Path.{◌≡◌, ap, ◌∙◌}
use mathlib.Core.Logic.{⊎_elim}
use lib.Arith.{digits_div}
use Rattle.charges.specs.Charges.{up}

module _ (x d : ℕ) where
  -- Where no remainder is left, the quotient ..
  pub up-whole : x % d ≡ 0 → x / d ≡ up x d
  unfolding up
  up-whole e = omega arith

  -- .. and where one is left, one more.
  pub up-part : 0 < x % d → x / d + 1 ≡ up x d
  unfolding up
  up-part p = omega arith

  -- Rounding adds at most one, so what is rounded is as small as the quotient.
  pub up_near : up x d ≤ x / d + 1
  unfolding up
  up_near = omega arith

module _ (x d : ℕ) (some : 0 < d) where
  -- What is rounded up is enough ..
  pub up-enough : x ≤ up x d * d
  up-enough =
      let whole = div-add-mod' x d in
      let part = mod-lt x some in
      ⊎_elim
      (λ e. rw (← up-whole x d e) (omega arith))
      (λ p. rw (← up-part x d p, add-mul) (omega arith))
      (eq-zero-or-pos (x % d))

  -- .. and nothing less is.
  pub up_least : (y : ℕ) → x ≤ y * d → up x d ≤ y
  up_least y h =
      let whole = div-add-mod' x d in
      ⊎_elim
      (λ e. rw (← up-whole x d e) (le_of_mul-le-mul_right (omega arith) some))
      (λ p. let q : x / d < y = lt_of_mul-lt-mul_right d (omega arith) in omega (arith, up-part x d p))
      (eq-zero-or-pos (x % d))

  -- So rounding never goes past x itself: the one that code adds to a quotient cannot overflow.
  pub up_fits : up x d ≤ x
  up_fits = up_least x (omega (arith, mul-le-mul_left x some))

  -- Code that has the room for it adds d - 1 and divides once.
  pub up_quick : (x + (d - 1)) / d ≡ up x d
  up_quick = ⊎_elim whole part (eq-zero-or-pos (x % d))
    where
      told : (q r : ℕ) → x + (d - 1) ≡ q * d + r → r < d → (x + (d - 1)) / d ≡ q
      told q r e l = ap (λ (y : ℕ). y / d) e ∙ digits_div q l

      whole : x % d ≡ 0 → (x + (d - 1)) / d ≡ up x d
      whole e = told (x / d) (d - 1) (omega (arith, div-add-mod' x d)) (omega arith) ∙ up-whole x d e

      part : 0 < x % d → (x + (d - 1)) / d ≡ up x d
      part p =
          let next : (x / d + 1) * d ≡ x / d * d + d = rw add-mul (omega arith) in
          told (x / d + 1) (x % d - 1) (omega (arith, div-add-mod' x d)) (omega (arith, mod-lt x some)) ∙ up-part x d p

-- It never falls when x rises.
pub up_rises : (x y d : ℕ) → 0 < d → x ≤ y → up x d ≤ up y d
up_rises x y d some h = up_least x d some (up y d) (omega (arith, up-enough y d some))
