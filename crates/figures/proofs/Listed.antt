-- What `listed` holds.
use Prim.Native.Nat.{ℕ, zero, suc, ◌<◌}
use native.Mathlib.Omega.{arith}
use mathlib.Core.List.{List}
use mathlib.Core.Path.{◌≡◌, refl, sym, ap, ◌∙◌}
use lib.ListN.{length, get_or}
use lib.Seq.{ext_get_or}
use Rattle.figures.specs.Entries.{listed}

-- It has a number for each of the first k places,
pub listed-length : (k : ℕ) (f : ℕ → ℕ) → length (listed k f) ≡ k
unfolding listed
listed-length zero f = refl
listed-length (suc k) f = ap suc (listed-length k (λ p. f (suc p)))

-- and it is the one that f gives.
pub listed_at : (k : ℕ) (f : ℕ → ℕ) (p : ℕ) → p < k → get_or (listed k f) p 0 ≡ f p
unfolding listed
listed_at zero f p h = absurd (omega arith)
listed_at (suc k) f zero h = refl
listed_at (suc k) f (suc p) h = listed_at k (λ q. f (suc q)) p (omega arith)

-- A list that has the same at each place is the same.
pub listed_is : (k : ℕ) (f : ℕ → ℕ) (xs : List ℕ) → length xs ≡ k → ((p : ℕ) → f p ≡ get_or xs p 0) → listed k f ≡ xs
listed_is k f xs l h =
    ext_get_or 0 (listed k f) xs (listed-length k f ∙ sym l) (λ p b. listed_at k f p (rw (listed-length k f) at b) ∙ h p)
