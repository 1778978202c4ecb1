-- What joining sizes a and b into size o costs beside the two trees (document 01, "Costs").
use Rattle.std.specs.Prelude.{ℕ, zero, suc, ◌+◌, ◌*◌, ◌/◌, ◌%◌, min, Result, Ok, Err, ◌≡◌, refl}
use Rattle.charges.specs.declared.UnknownModel.{UnknownModel}

-- "up meaning rounded up": the quotient, and one more when a remainder is left.
unfoldable pub up : ℕ → ℕ → ℕ
up x d = x / d + min (x % d) 1

-- "The whole part of the base-two logarithm of x": how often x can be halved before 1 is left; f bounds how often it is tried.
unfoldable pub halvings : ℕ → ℕ → ℕ
halvings zero x = 0
halvings (suc f) zero = 0
halvings (suc f) (suc zero) = 0
halvings (suc f) (suc (suc x)) = suc (halvings f (suc (suc x) / 2))

unfoldable pub log2 : ℕ → ℕ
log2 x = halvings x x

-- "w(x) = x times (1 + the whole part of the base-two logarithm of x), and w(0) = 0."
unfoldable pub w : ℕ → ℕ
w x = x * (1 + log2 x)

-- "1, sort-merge: w(a) + w(b)."
unfoldable pub sort_merge : ℕ → ℕ → ℕ
sort_merge a b = w a + w b

-- "2, disk nested loops: 2·up(o/10) + up(a·b/9,900) + up(min(a, b)/10). Each term is rounded by itself."
unfoldable pub disk_loops : ℕ → ℕ → ℕ → ℕ
disk_loops a b o = 2 * up o 10 + up (a * b) 9900 + up (min a b) 10

-- An answer by its number in document 01's table, with the charge where the number is 0.
pub record Answer : Type 0 where
  pub number : ℕ
  pub charge : ℕ

abbrev pub answer : Result ℕ UnknownModel → Answer
answer (Ok c) = record { number = 0; charge = c }
answer (Err _) = record { number = 4; charge = 0 }

-- "The model is a number from 0 to 2"; 0, naive, charges o. Any other number is refused with 4.
unfoldable pub priced : ℕ → ℕ → ℕ → ℕ → Answer
priced zero a b o = record { number = 0; charge = o }
priced (suc zero) a b o = record { number = 0; charge = sort_merge a b }
priced (suc (suc zero)) a b o = record { number = 0; charge = disk_loops a b o }
priced (suc (suc (suc _))) a b o = record { number = 4; charge = 0 }

unfoldable pub charge : ℕ → ℕ → ℕ → ℕ → ℕ
charge model a b o = (priced model a b o).charge

-- ---- computed

rounded : (up 20 10 ≡ 2) × (up 21 10 ≡ 3) × (up 0 10 ≡ 0)
unfolding up
rounded = (refl, refl, refl)

logged : (log2 0 ≡ 0) × (log2 1 ≡ 0) × (log2 7 ≡ 2) × (log2 8 ≡ 3)
unfolding halvings log2
logged = (refl, refl, refl, refl)

-- The smallest join pays for a whole block, or a whole read, in every term.
each-rounded : disk_loops 1 1 1 ≡ 4
unfolding up disk_loops
each-rounded = refl
