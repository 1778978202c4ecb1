-- A text and its pieces: what was put together is cut apart again, and a text is its pieces put together.
use Prim.Native.Nat.{ℕ, ◌<◌}
use native.Mathlib.Omega.{arith}
use mathlib.Core.Bool.{Bool, true, false, cond, not, ◌&&◌}
use mathlib.Core.List.{List, [], ◌∷◌, ◌++◌, append-nil}
use mathlib.Core.Path.{◌≡◌, refl, ap, ◌∙◌}
use lib.Dec.{eqb}
use lib.ListN.{length}
use borrow.Author.Tests.{eq-eqb, eqb-true, not-true}
use Rattle.numbers.proofs.Tests.{first_true, second_true}
use Rattle.figures.specs.Lines.{FEED, onto, split}
use Rattle.figures.specs.Written.{fed}
use Rattle.figures.proofs.Cutting.{some-piece}

-- ---- what was put together is cut apart

-- No byte of the list is b.
abbrev pub Without : ℕ → List ℕ → Type 0
Without b [] = Unit {0}
Without b (c ∷ cs) = (eqb c b ≡ false) × Without b cs

-- No byte of any of the lists is.
abbrev pub NoneWith : ℕ → List (List ℕ) → Type 0
NoneWith b [] = Unit {0}
NoneWith b (w ∷ ws) = Without b w × NoneWith b ws

-- The same as a test, for bytes that are written out.
unfoldable pub is_without : ℕ → List ℕ → Bool
is_without b [] = true
is_without b (c ∷ cs) = not (eqb c b) && is_without b cs

pub is_without_lem : (b : ℕ) (w : List ℕ) → is_without b w ≡ true → Without b w
unfolding is_without
is_without_lem b [] h = tt
is_without_lem b (c ∷ cs) h =
    (not-true (eqb c b) (first_true (not (eqb c b)) (is_without b cs) h), is_without_lem b cs (second_true (not (eqb c b)) (is_without b cs) h))

-- Bytes without b are without it put together.
pub without-append : (b : ℕ) (v w : List ℕ) → Without b v → Without b w → Without b (v ++ w)
without-append b [] w g h = h
without-append b (c ∷ cs) w g h = (g.0, without-append b cs w g.1 h)

-- The bytes before the first b are the first piece,
split-piece : (b : ℕ) (w xs : List ℕ) → Without b w → split b (w ++ b ∷ xs) ≡ w ∷ split b xs
unfolding split
split-piece b [] xs h = rw (eq-eqb b b refl)
split-piece b (c ∷ cs) xs h = rw (h.0, split-piece b cs xs h.1)

-- and where there is none, the only one.
split-last : (b : ℕ) (w : List ℕ) → Without b w → split b w ≡ w ∷ []
unfolding split
split-last b [] h = refl
split-last b (c ∷ cs) h = rw (h.0, split-last b cs h.1)

-- Lines that were fed are the lines of their text, and after them is nothing.
pub split-fed : (ls : List (List ℕ)) → NoneWith FEED ls → split FEED (fed ls) ≡ ls ++ ([] ∷ [])
unfolding split fed
split-fed [] h = refl
split-fed (l ∷ ls) h = rw (split-piece FEED l (fed ls) h.0, split-fed ls h.1)

-- ---- a text is its pieces put together

-- Pieces with a b before each,
unfoldable pub each_after : ℕ → List (List ℕ) → List ℕ
each_after b [] = []
each_after b (w ∷ ws) = b ∷ w ++ each_after b ws

-- and between them.
unfoldable pub joined : ℕ → List (List ℕ) → List ℕ
joined b [] = []
joined b (w ∷ ws) = w ++ each_after b ws

-- Pieces put together are cut apart.
pub split-joined : (b : ℕ) (w : List ℕ) (ws : List (List ℕ)) → NoneWith b (w ∷ ws) → split b (joined b (w ∷ ws)) ≡ w ∷ ws
unfolding joined each_after
split-joined b w [] h = ap (split b) (append-nil w) ∙ split-last b w h.0
split-joined b w (v ∷ vs) h = split-piece b w (v ++ each_after b vs) h.0 ∙ ap (λ (r : List (List ℕ)). w ∷ r) (split-joined b v vs h.1)

-- A text has a piece, and its pieces put together are the text.
joined-first : (b c : ℕ) (t : Bool) (ws : List (List ℕ)) → eqb c b ≡ t → 0 < length ws → joined b (cond t ([] ∷ ws) (onto c ws)) ≡ c ∷ joined b ws
unfolding joined each_after
joined-first b c t [] e h = absurd (omega arith)
joined-first b c true (w ∷ ws) e h = rw (eqb-true c b e)
joined-first b c false (w ∷ ws) e h = refl

pub joined-split : (b : ℕ) (xs : List ℕ) → joined b (split b xs) ≡ xs
unfolding split joined each_after
joined-split b [] = refl
joined-split b (c ∷ cs) = joined-first b c (eqb c b) (split b cs) refl (some-piece b cs (λ ws. 0 < length ws) (λ w ws. omega arith)) ∙ ap (λ (r : List ℕ). c ∷ r) (joined-split b cs)
