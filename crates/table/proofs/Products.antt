-- The product of the divisors across: it is taken one relation at a time, and holding it at 2^64-1 alters no size.
use Rattle.std.proofs.Common.{◌≡◌, ℕ, zero, suc, ◌+◌, ◌-◌, ◌*◌, ◌/◌, ◌%◌, ◌^◌, ◌<◌, ◌≤◌, min, Bool, true, false, cond, ◌≢◌, ◌⊎◌, List, length, get_or, sym, refl, ap, ◌∙◌, inl, inr, mul-le-mul_right, mod-eq_of_lt, mul_assoc, mul_comm, eq-zero-or-pos, mul-le-mul, one-mul, zero-add, mul-one, le-mul_of_pos_right, arith}
use Rattle.std.proofs.lemmas.List.{get_or_default}
use native.Mathlib.Decide.{dec_le, dec_lt, ℕ_discrete}
use native.Mathlib.Nat.{one-le-mul}
use native.Mathlib.Nat.{min-le_left, min-eq_left, min-eq_right, div-eq_of_lt}
use mathlib.Core.Bool.{and-true}
use Rattle.numbers.proofs.Tests.{is_false}
use Rattle.relations.specs.Pairs.{place}
use Rattle.relations.specs.Sets.{weight, mem, Part, lowest, rest, larger}
use Rattle.relations.proofs.Members.{mem_pos, mem-weight, mem-alone, mem-empty, mem-most}
use Rattle.relations.proofs.Parts.{part_self, part_trans, part-le, mem-other}
use Rattle.relations.proofs.Lowest.{lowest-none, lowest-mem, lowest_pos, lowest-part, rest_part, rest-other, rest-above}
use Rattle.relations.proofs.Places.{place-below}
use Rattle.charges.specs.Charges.{up}
use Rattle.table.specs.Figures.{Figures, CEILING, count, divisor, across, joined}
use Rattle.table.specs.Inner.{Complete, HELD}
use Rattle.table.proofs.Rules.{larger-rest}

-- ---- one relation at a time

-- R is X without its member m.
record Less (m X R : ℕ) : Type 0 where
  here : mem m X ≡ true
  gone : mem m R ≡ false
  other : (k : ℕ) → k ≢ m → mem k R ≡ mem k X

less-rest : (X : ℕ) → 0 < X → Less (lowest X) X (rest X)
unfolding rest
less-rest X h = record {
  here = lowest-mem X h;
  gone = mem-other (lowest X) X (weight (lowest X)) (lowest-part X) ∙ rw (mem-weight (lowest X) (lowest_pos X h), lowest-mem X h);
  other = λ k d.
      mem-other k X (weight (lowest X)) (lowest-part X)
      ∙ rw (is_false (mem k (weight (lowest X))) (λ e. d (mem-alone k (lowest X) e))) (and-true (mem k X));
}

module _ (ds : List ℕ) (r : ℕ) where
  pub across-none : (k : ℕ) → across ds r 0 k ≡ 1
  unfolding across
  across-none zero = refl
  across-none (suc k) = rw (across-none k, mem-empty (suc k))

  across_pos : ((k : ℕ) → 1 ≤ get_or ds k 1) → (X k : ℕ) → 1 ≤ across ds r X k
  unfolding across divisor
  across_pos h X zero = omega arith
  across_pos h X (suc k) = one-le-mul (across_pos h X k) (factor (mem (suc k) X))
    where
      factor : (b : Bool) → 1 ≤ cond b (divisor ds r (suc k)) 1
      factor true = h _
      factor false = omega arith

  -- Below m the product is the same without m; from m on, m's divisor is a factor.
  below-same : (m X R : ℕ) → Less m X R → (k : ℕ) → k < m → across ds r X k ≡ across ds r R k
  unfolding across
  below-same m X R s zero l = refl
  below-same m X R s (suc k) l = rw (below-same m X R s k (omega arith), s.other (suc k) (omega arith))

  take_out : (m X R : ℕ) → Less m X R → 1 ≤ m → (k : ℕ) → m ≤ k → across ds r X k ≡ divisor ds r m * across ds r R k
  unfolding across
  take_out m X R s p zero l = absurd (omega arith)
  take_out m X R s p (suc k) l = by (ℕ_discrete m (suc k)) (take_out m X R s p k)
    where
      d : ℕ
      d = divisor ds r m

      by : Dec (m ≡ suc k) → (m ≤ k → across ds r X k ≡ d * across ds r R k) → across ds r X (suc k) ≡ d * across ds r R (suc k)
      by (yes e) ih =
          rw (← e, s.here, s.gone, below-same m X R s k (omega arith), mul-one (across ds r R k)) (mul_comm (across ds r R k) d)
      by (no e) ih =
          rw (s.other (suc k) (λ q. e (sym q)), ih (omega arith)) (mul_assoc d (across ds r R k) _)

  pub across-take : (X k : ℕ) → 0 < X → X < 2 ^ k → across ds r X k ≡ divisor ds r (lowest X) * across ds r (rest X) k
  across-take X k h l =
      take_out (lowest X) X (rest X) (less-rest X h) (lowest_pos X h) k (mem-most (lowest X) X k (lowest-mem X h) l)

-- ---- holding

-- What is held may be held again after a factor.
pub held-times : (x a : ℕ) → 1 ≤ a → min HELD (min HELD x * a) ≡ min HELD (x * a)
held-times x a h = by (dec_le x HELD)
  where
    by : Dec (x ≤ HELD) → min HELD (min HELD x * a) ≡ min HELD (x * a)
    by (yes l) = rw (min-eq_right {n = x} {m = HELD} l)
    by (no l) =
        let g : HELD ≤ x = omega arith in
        let p : HELD ≤ HELD * a = le-mul_of_pos_right HELD h in
        let q : HELD * a ≤ x * a = mul-le-mul_right a g in
        rw (min-eq_left {n = HELD} {m = x} g, min-eq_left {n = HELD} {m = HELD * a} p, min-eq_left {n = HELD} {m = x * a} (omega arith))

-- A number below 2^64-1 gives the same quotient, rounded up, by the held divisor.
pub up-held : (x d : ℕ) → x < HELD → up x (min HELD d) ≡ up x d
unfolding up
up-held x d h = by (dec_lt HELD d)
  where
    small : (e : ℕ) → x < e → x / e + min (x % e) 1 ≡ min x 1
    small e l = rw (div-eq_of_lt l, mod-eq_of_lt l, zero-add (min x 1))

    by : Dec (HELD < d) → x / min HELD d + min (x % min HELD d) 1 ≡ x / d + min (x % d) 1
    by (yes l) = rw (min-eq_left {n = HELD} {m = d} (omega arith)) (small HELD h ∙ sym (small d (omega arith)))
    by (no l) = rw (min-eq_right {n = d} {m = HELD} (omega arith))

-- ---- figures that are there

pub divisor_at_lem : (ds : List ℕ) (i j : ℕ) → place i j < length ds → divisor ds i j ≡ get_or ds (place i j) 0
unfolding divisor
divisor_at_lem ds i j h = get_or_default ds (place i j) 1 0 h

pub count_at : (counts : List ℕ) (k : ℕ) → 1 ≤ k → count counts k ≡ get_or counts (k - 1) 0
unfolding count
count_at counts zero h = absurd (omega arith)
count_at counts (suc p) h = ap (λ (i : ℕ). get_or counts i 0) (omega arith)

-- ---- the loop over the relations of X: those of Y are left, and p is the held product of the others' divisors

pub record Taken (ds : List ℕ) (r X p Y : ℕ) : Type 0 where
  pub part : Part Y X
  pub held : p ≤ HELD
  pub same : (k : ℕ) → X < 2 ^ k → min HELD (across ds r X k) ≡ min HELD (p * across ds r Y k)

module _ (ds : List ℕ) (r X : ℕ) where
  pub taken-first : Taken ds r X 1 X
  taken-first = record { part = part_self X; held = omega arith; same = λ k l. ap (min HELD) (sym (one-mul (across ds r X k))) }

  -- d is the divisor of the lowest relation that is left.
  pub taken_next : ((k : ℕ) → 1 ≤ get_or ds k 1) → (p Y d : ℕ) → 0 < Y → divisor ds r (lowest Y) ≡ d → Taken ds r X p Y
      → Taken ds r X (min HELD (p * d)) (rest Y)
  taken_next h p Y d y e t = record {
    part = part_trans (rest Y) Y X (rest_part Y) t.part;
    held = min-le_left HELD (p * d);
    same = λ k l.
        t.same k l
        ∙ ap (λ (a : ℕ). min HELD (p * a)) (across-take ds r Y k y (omega (arith, part-le Y X t.part)))
        ∙ ap (λ (a : ℕ). min HELD (p * (a * across ds r (rest Y) k))) e
        ∙ ap (min HELD) (sym (mul_assoc p d (across ds r (rest Y) k)))
        ∙ sym (held-times (p * d) (across ds r (rest Y) k) (across_pos ds r h (rest Y) k));
  }

  -- What is so of every relation of X is so of the next.
  pub taken-each : (P : ℕ → Type 0) (p Y : ℕ) → ((k : ℕ) → mem k X ≡ true → P k) → 0 < Y → Taken ds r X p Y → P (lowest Y)
  taken-each P p Y h y t = h (lowest Y) (t.part (lowest Y) (lowest-mem Y y))

  pub taken-last : (p Y : ℕ) → Y ≡ 0 → Taken ds r X p Y → (k : ℕ) → X < 2 ^ k → p ≡ min HELD (across ds r X k)
  taken-last p Y e t k l =
      sym (t.same k l ∙ rw (e, across-none ds r k, mul-one p) (min-eq_right {n = p} {m = HELD} t.held))

pub lowest-most : (S n : ℕ) → S < 2 ^ n → lowest S ≤ n
lowest-most S n l = by (eq-zero-or-pos S)
  where
    by : (S ≡ 0) ⊎ (0 < S) → lowest S ≤ n
    by (inl e) = rw (e, lowest-none) (omega arith)
    by (inr h) = mem-most (lowest S) S n (lowest-mem S h) l

-- ---- the size of a set of two or more

module _ (fig : Figures) (S : ℕ) (more : larger S ≡ true) (below : S < 2 ^ length fig.counts) where
  some : 0 < S
  some = omega (arith, larger-rest S more, part-le (rest S) S (rest_part S))

  -- The relations of the rest have higher numbers, and their pairs with the lowest a place.
  pub places-there : Complete fig → (k : ℕ) → mem k (rest S) ≡ true → (lowest S < k) × (place (lowest S) k < length fig.divisors)
  places-there w k m = (
    rest-above S some k m,
    rw w.pairs
        (place-below (length fig.counts) (lowest S) k (lowest_pos S some) (mem_pos k (rest S) m) (rest-other S k m) (lowest-most S (length fig.counts) below)
        (mem-most k S (length fig.counts) (rest_part S k m) below)),
  )

  -- The held product is no 0.
  pub product_pos : Complete fig → (d : ℕ) → ((k : ℕ) → rest S < 2 ^ k → d ≡ min HELD (across fig.divisors (lowest S) (rest S) k)) → 0 < d
  product_pos w d e =
      let n : ℕ = length fig.counts in
      let l : rest S < 2 ^ n = omega (arith, part-le (rest S) S (rest_part S)) in
      omega (arith, e n l, across_pos fig.divisors (lowest S) w.positive (rest S) n)

  -- The size by the held product.
  pub joined-held : (v c d : ℕ) → v ≤ CEILING → c ≤ CEILING → c ≡ count fig.counts (lowest S)
      → ((k : ℕ) → rest S < 2 ^ k → d ≡ min HELD (across fig.divisors (lowest S) (rest S) k))
      → min CEILING (up (v * c) d) ≡ joined fig S v
  unfolding joined
  joined-held v c d hv hc ec ed =
      let n : ℕ = length fig.counts in
      let l : rest S < 2 ^ n = omega (arith, part-le (rest S) S (rest_part S)) in
      let p : v * c ≤ CEILING * CEILING = mul-le-mul hv hc in
      rw (ed n l, up-held (v * c) (across fig.divisors (lowest S) (rest S) n) (omega arith), ec)
