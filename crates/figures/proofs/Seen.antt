-- The flags of the places that were seen: they tell which places the entries so far have given.
use Prim.Native.Nat.{ℕ, zero, suc, ◌+◌, ◌-◌, ◌≤◌, ◌<◌}
use native.Mathlib.Decide.{ℕ_discrete}
use native.Mathlib.Nat.{zero-add}
use native.Mathlib.Numerals.{add-one}
use native.Mathlib.Omega.{arith}
use mathlib.Core.Bool.{Bool, true, false, ◌&&◌, ◌||◌, true≢false}
use mathlib.Core.List.{List, [], ◌∷◌}
use mathlib.Core.Path.{◌≡◌, refl, sym, ap, ap₂, ◌∙◌}
use lib.ListN.{length, get_or, set, replicate, length-set, get_or-replicate}
use lib.Seq.{get_or-set_same, get_or-set_other}
use Rattle.std.specs.List.{list_all, range_with_len}
use Rattle.relations.specs.Sets.{MOST}
use Rattle.figures.specs.Entries.{Entry, entry, is_at, given, all_counted}
use Rattle.figures.specs.Inner.{flag, all_seen}
use Rattle.figures.proofs.Collected.{at_is, is_at_lem}

-- ---- an array of arrays

-- With the flag at (a, b) set.
abbrev pub marked : List (List Bool) → ℕ → ℕ → List (List Bool)
marked seen a b = set seen a (set (get_or seen a []) b true)

module _ (seen : List (List Bool)) (a b : ℕ) (h : a < length seen) where
  -- The rows stay as long as they are,
  row-length : (i : ℕ) → length (get_or (marked seen a b) i []) ≡ length (get_or seen i [])
  row-length i = by (ℕ_discrete i a)
    where
      by : Dec (i ≡ a) → length (get_or (marked seen a b) i []) ≡ length (get_or seen i [])
      by (yes e) = rw (e, get_or-set_same seen a (set (get_or seen a []) b true) [] h) (length-set (get_or seen a []) b true)
      by (no e) = rw (get_or-set_other seen a i (set (get_or seen a []) b true) [] e)

  -- the flag is set,
  flag-here : b < length (get_or seen a []) → flag (marked seen a b) a b ≡ true
  flag-here g = rw (get_or-set_same seen a (set (get_or seen a []) b true) [] h) (get_or-set_same (get_or seen a []) b true false g)

  -- and every other is as it was.
  flag-kept : (i j : ℕ) → (i ≡ a → j ≡ b → ⊥) → flag (marked seen a b) i j ≡ flag seen i j
  flag-kept i j o = by (ℕ_discrete i a)
    where
      by : Dec (i ≡ a) → flag (marked seen a b) i j ≡ flag seen i j
      by (yes e) = rw (e, get_or-set_same seen a (set (get_or seen a []) b true) [] h) (get_or-set_other (get_or seen a []) b j true false (o e))
      by (no e) = rw (get_or-set_other seen a i (set (get_or seen a []) b true) [] e)

swapped : (x y z : Bool) → (x && (y && z)) ≡ (y && (x && z))
swapped true y z = refl
swapped false true z = refl
swapped false false z = refl

-- A test of n numbers from a on, and one more.
all_more : (p : ℕ → Bool) (a n : ℕ) → list_all p (range_with_len a (suc n)) ≡ (p (a + n) && list_all p (range_with_len a n))
all_more p a zero = let e : a + 0 ≡ a = omega arith in rw e
all_more p a (suc n) =
    let e : a + 1 + n ≡ a + suc n = omega arith in
    rw (all_more p (a + 1) n, e) (swapped (p a) (p (a + suc n)) (list_all p (range_with_len (a + 1) n)))

-- ---- the places that were seen

-- A flag for each place of the most relations, which is set where an entry stands.
pub record Seen (seen : List (List Bool)) (es : List Entry) : Type 0 where
  pub rows : length seen ≡ MOST
  pub cells : (i : ℕ) → i < MOST → length (get_or seen i []) ≡ MOST
  pub flags : (i j : ℕ) → i < MOST → j < MOST → flag seen i j ≡ given (i + 1) (j + 1) es

pub none_seen : Seen (replicate MOST (replicate MOST false)) []
unfolding given
none_seen = record {
  rows = refl;
  cells = λ i h. ap length (row i h);
  flags = λ i j h g. ap (λ (r : List Bool). get_or r j false) (row i h) ∙ get_or-replicate MOST j false false g;
}
  where
    row : (i : ℕ) → i < MOST → get_or (replicate MOST (replicate MOST false)) i [] ≡ replicate MOST false
    row i h = get_or-replicate MOST i (replicate MOST false) [] h

module _ (seen : List (List Bool)) (es : List Entry) (s : Seen seen es) where
  -- The flag of a place tells whether an entry stands there.
  pub seen_given : (i j : ℕ) → 1 ≤ i → i ≤ MOST → 1 ≤ j → j ≤ MOST → flag seen (i - 1) (j - 1) ≡ given i j es
  seen_given i j a b c d =
      let x : i - 1 + 1 ≡ i = omega arith in
      let y : j - 1 + 1 ≡ j = omega arith in
      s.flags (i - 1) (j - 1) (omega arith) (omega arith) ∙ rw (x, y)

  -- With one entry more, its flag is set.
  pub more_seen : (i j v : ℕ) → 1 ≤ i → i ≤ MOST → 1 ≤ j → j ≤ MOST → Seen (marked seen (i - 1) (j - 1)) (entry i j v ∷ es)
  unfolding given
  more_seen i j v a b c d = record {
    rows = length-set seen (i - 1) _ ∙ s.rows;
    cells = λ x h. row-length seen (i - 1) (j - 1) row x ∙ s.cells x h;
    flags = λ x y h g. by x y h g (is_at (x + 1) (y + 1) (entry i j v)) refl;
  }
    where
      row : i - 1 < length seen
      row = omega (arith, s.rows)

      by : (x y : ℕ) → x < MOST → y < MOST → (t : Bool) → is_at (x + 1) (y + 1) (entry i j v) ≡ t
          → flag (marked seen (i - 1) (j - 1)) x y ≡ (t || given (x + 1) (y + 1) es)
      by x y h g true e =
          let q = at_is (x + 1) (y + 1) (entry i j v) e in
          let p : i - 1 ≡ x = omega arith in
          let r : j - 1 ≡ y = omega arith in
          rw (p, r) (flag-here seen x y (omega (arith, s.rows)) (omega (arith, s.cells x h)))
      by x y h g false e = flag-kept seen (i - 1) (j - 1) row x y apart ∙ s.flags x y h g
        where
          apart : x ≡ i - 1 → y ≡ j - 1 → ⊥
          apart p r =
              let q : x + 1 ≡ i = omega arith in
              let t : y + 1 ≡ j = omega arith in
              true≢false (sym (is_at_lem i j (entry i j v) refl refl) ∙ rw (q, t) at e)

  -- The diagonal's flags tell whether all are counted.
  pub all-given : (n : ℕ) → n ≤ MOST → all_seen seen n ≡ all_counted n es
  unfolding all_counted
  all-given zero h = refl
  all-given (suc n) h =
      let f = rw (add-one n) at (s.flags n n h h) in
      rw (zero-add n) at (all_more (λ k. flag seen k k) 0 n) ∙ ap₂ ◌&&◌ f (all-given n (omega arith))
