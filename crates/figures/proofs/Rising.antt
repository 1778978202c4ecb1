-- Entries in the order of columns and then rows: none stands where one before it does.
use Prim.Native.Nat.{ℕ, suc, ◌+◌, ◌*◌, ◌≤◌, ◌<◌}
use native.Mathlib.Omega.{arith}
use mathlib.Core.Bool.{false}
use mathlib.Core.List.{List, [], ◌∷◌}
use mathlib.Core.Path.{◌≡◌}
use Rattle.numbers.proofs.Tests.{is_false}
use Rattle.figures.specs.Entries.{Entry, is_at, given}
use Rattle.figures.proofs.Collected.{All, all_same, at_is, none-given}

-- Where an entry comes, in n by n of at most 15: columns, and then rows.
abbrev pub turn : Entry → ℕ
turn e = 16 * e.column + e.row

-- The entries come one after another, the first not before m.
abbrev pub RisesFrom : ℕ → List Entry → Type 0
RisesFrom m [] = Unit {0}
RisesFrom m (e ∷ es) = (m ≤ turn e) × RisesFrom (suc (turn e)) es

pub rises_sooner : (m k : ℕ) (es : List Entry) → k ≤ m → RisesFrom m es → RisesFrom k es
rises_sooner m k [] l h = tt
rises_sooner m k (e ∷ es) l h = (omega (arith, h.0), h.1)

-- All come before m.
abbrev pub Before : ℕ → List Entry → Type 0
Before m = All (λ e. turn e < m)

pub before-later : (m k : ℕ) (es : List Entry) → m ≤ k → Before m es → Before k es
before-later m k es l h = all_same (λ e. turn e < m) (λ e. turn e < k) es (λ e b. omega arith) h

-- Where all come before an entry, none stands where it does.
pub not_given : (e : Entry) (es : List Entry) → Before (turn e) es → given e.row e.column es ≡ false
not_given e es h = none-given e.row e.column es (all_same (λ x. turn x < turn e) (λ x. is_at e.row e.column x ≡ false) es apart h)
  where
    apart : (x : Entry) → turn x < turn e → is_at e.row e.column x ≡ false
    apart x b = is_false (is_at e.row e.column x) (λ t. let s = at_is e.row e.column x t in omega arith)
