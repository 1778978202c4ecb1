-- A text cut at the first of certain bytes: what stands before it is the first piece, and what follows it has the others.
use Prim.Native.Nat.{ℕ, ◌+◌, ◌≤◌, ◌<◌}
use native.Mathlib.Decide.{dec_lt}
use native.Mathlib.Omega.{arith}
use mathlib.Core.Bool.{Bool, true, false, cond, not}
use mathlib.Core.List.{List, [], ◌∷◌}
use mathlib.Core.Path.{◌≡◌, refl, sym, ap, ◌∙◌}
use lib.Dec.{eqb}
use lib.ListN.{length, take, drop, get_or}
use lib.Seq.{drop-drop}
use borrow.Author.Tests.{ne_eqb, lt-ltb, le-ltb}
use Rattle.std.specs.List.{slice_split, onto_first, position_or_len}
use Rattle.std.specs.Prelude.{Some, None, ltb}
use Rattle.std.proofs.lemmas.List.Splits.{slice_split_none, slice_split_first, length-slice_split}
use Rattle.std.proofs.lemmas.List.Sums.{fails_before_first, prefix_len-drop_yes}
use Rattle.std.proofs.lemmas.Iterator.Adapters.{position_from-zero}
use Rattle.figures.specs.Lines.{FEED, onto, split}
use Rattle.figures.specs.Judge.{Result, on_line}
use Rattle.figures.specs.Inner.{first_of}

-- ---- the first such byte

abbrev up_to : ℕ → List ℕ → ℕ
up_to b = position_or_len (λ c. eqb c b)

module _ (b : ℕ) (xs : List ℕ) where
  -- It is found,
  found : (i : ℕ) → Some i ≡ first_of b xs → (i ≡ up_to b xs) × (i < length xs)
  found i e = by (dec_lt (up_to b xs) (length xs)) (position_from-zero (λ c. eqb c b) xs ∙ sym e)
    where
      by : Dec (up_to b xs < length xs) → cond (ltb (up_to b xs) (length xs)) (Some (up_to b xs)) None ≡ Some i → (i ≡ up_to b xs) × (i < length xs)
      by (yes l) h = let f = rw (lt-ltb (up_to b xs) (length xs) l) at h in let q : i ≡ up_to b xs = cc in (q, omega arith)
      by (no l) h = let f = rw (le-ltb (up_to b xs) (length xs) (omega arith)) at h in absurd (cc)

  -- or it isn't there.
  unfound : None ≡ first_of b xs → length xs ≤ up_to b xs
  unfound e = by (dec_lt (up_to b xs) (length xs)) (position_from-zero (λ c. eqb c b) xs ∙ sym e)
    where
      by : Dec (up_to b xs < length xs) → cond (ltb (up_to b xs) (length xs)) (Some (up_to b xs)) None ≡ None → length xs ≤ up_to b xs
      by (yes l) h = let f = rw (lt-ltb (up_to b xs) (length xs) l) at h in absurd (cc)
      by (no l) h = omega arith

-- Where the first byte is another, it isn't at once.
pub later : (b at len : ℕ) (xs : List ℕ) → Some len ≡ first_of b (drop at xs) → at < length xs → (get_or xs at 0 ≡ b → ⊥) → 0 < len
later b at len xs e l n =
    omega (arith, found b (drop at xs) len e, prefix_len-drop_yes (λ c. not (eqb c b)) xs at 0 l (rw (ne_eqb (get_or xs at 0) b n)))

-- ---- pieces

-- They are the library's.
pub split_is : (b : ℕ) (xs : List ℕ) → split b xs ≡ slice_split (λ c. eqb c b) xs
unfolding split
split_is b [] = refl
split_is b (c ∷ cs) =
    ap (λ (ws : List (List ℕ)). cond (eqb c b) ([] ∷ ws) (onto c ws)) (split_is b cs)
    ∙ by (eqb c b) (slice_split (λ d. eqb d b) cs) (omega (arith, length-slice_split (λ d. eqb d b) cs))
  where
    by : (t : Bool) (ws : List (List ℕ)) → 0 < length ws → cond t ([] ∷ ws) (onto c ws) ≡ cond t ([] ∷ ws) (onto_first c ws)
    by true ws l = refl
    by false [] l = absurd (omega arith)
    by false (w ∷ ws) l = refl

-- There is a first one.
pub some-piece : (b : ℕ) (xs : List ℕ) (P : List (List ℕ) → Type 0) → ((w : List ℕ) (ws : List (List ℕ)) → P (w ∷ ws)) → P (split b xs)
some-piece b xs P h = by (split b xs) (rw (split_is b xs) (omega (arith, length-slice_split (λ c. eqb c b) xs)))
  where
    by : (ws : List (List ℕ)) → 0 < length ws → P ws
    by [] l = absurd (omega arith)
    by (w ∷ ws) l = h w ws

-- A line is there if any follow it: so it is where its feed is,
pub line-there : (at : ℕ) (l : List ℕ) (ls : List (List ℕ)) (next : List ℕ → ℕ → List (List ℕ) → Result) → 0 < length ls
    → on_line at (l ∷ ls) next ≡ next l (at + length l + 1) ls
unfolding on_line
line-there at l [] next h = absurd (omega arith)
line-there at l (k ∷ ls) next h = refl

pub line-fed : (at : ℕ) (l xs : List ℕ) (next : List ℕ → ℕ → List (List ℕ) → Result)
    → on_line at (l ∷ split FEED xs) next ≡ next l (at + length l + 1) (split FEED xs)
line-fed at l xs next = line-there at l (split FEED xs) next (some-piece FEED xs (λ ws. 0 < length ws) (λ w ws. omega arith))

-- ---- from a place on

-- Up to the first such byte,
pub first_piece : (b at len : ℕ) (xs : List ℕ) → Some len ≡ first_of b (drop at xs)
    → split b (drop at xs) ≡ take len (drop at xs) ∷ split b (drop (at + len + 1) xs)
first_piece b at len xs e =
    let h = found b (drop at xs) len e in
    let q : at + (len + 1) ≡ at + len + 1 = omega arith in
    split_is b (drop at xs) ∙ slice_split_first (λ c. eqb c b) (drop at xs) 0 (omega (arith, h))
    ∙ rw (← h.0, ← split_is b (drop (len + 1) (drop at xs)), drop-drop (len + 1) at xs, q)

-- or where there is none, to the end.
pub only_piece : (b at : ℕ) (xs : List ℕ) → None ≡ first_of b (drop at xs) → split b (drop at xs) ≡ drop at xs ∷ []
only_piece b at xs e =
    split_is b (drop at xs)
    ∙ slice_split_none (λ c. eqb c b) (drop at xs)
    (λ k d h. fails_before_first (λ c. eqb c b) (drop at xs) k d (omega (arith, unfound b (drop at xs) e)))
