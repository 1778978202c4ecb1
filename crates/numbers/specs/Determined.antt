-- "Results satisfying one contract are shown equal" (document 01, "How strictly the contracts speak").
use Rattle.std.specs.Prelude.{◌≡◌}

-- `Post` is a function's `ensures` as the checker reads it off the source: of the lifetimes, the arguments, the result and the parameters
-- at exit. This is for functions that write through no parameter, so that those are the same for both results.
abbrev pub Determined : {K A R X : Type 0} → (K → A → R → X → Type 0) → Type 0
Determined {K} {A} {R} {X} Post = (k : K) (a : A) (x : X) (r q : R) → Post k a r x → Post k a q x → r ≡ q

-- The same for functions that write: two results are equal, and so is what is left in the memory lent, which is read off the parameters at
-- exit.
abbrev pub DeterminedWith : {K A R X L : Type 0} → (K → A → R → X → Type 0) → (X → L) → Type 0
DeterminedWith {K} {A} {R} {X} {L} Post left =
    (k : K) (a : A) (x y : X) (r q : R) → Post k a r x → Post k a q y → (r ≡ q) × (left x ≡ left y)
