-- Numbers in decimal are what the judge takes for numbers, and nothing else is.
use Prim.Native.Nat.{ℕ, zero, suc, ◌+◌, ◌-◌, ◌*◌, ◌/◌, ◌%◌, ◌≤◌, ◌<◌}
use native.Mathlib.Decide.{dec_lt}
use native.Mathlib.Omega.{arith}
use mathlib.Core.Bool.{Bool, true, false, cond, not, ◌&&◌, false≢true}
use mathlib.Core.List.{List, [], ◌∷◌, ◌++◌, append-nil, append_assoc}
use mathlib.Core.Path.{◌≡◌, refl, sym, ap, ◌∙◌}
use lib.Dec.{eqb, leb}
use lib.Seq.{append_snoc}
use borrow.Author.Tests.{eqb-false, ne_eqb, leb-true, not-true}
use Rattle.numbers.specs.Texts.{digit, digits, decimal, is_digit, value}
use Rattle.numbers.proofs.Decimal.{digit_is, decimal-value, decimal-short, decimal_step}
use Rattle.numbers.proofs.Tests.{both, first_true, second_true}
use Rattle.figures.specs.Lines.{SPACE, split, all_digits, is_number, three, none, numbers_in, numbers_of}
use Rattle.figures.specs.Written.{numbers_text}
use Rattle.figures.proofs.Pieces.{Without, joined, each_after, split-joined, joined-split}

-- ---- bytes that are digits

all_append : (v w : List ℕ) → all_digits v ≡ true → all_digits w ≡ true → all_digits (v ++ w) ≡ true
unfolding all_digits
all_append [] w g h = h
all_append (c ∷ cs) w g h =
    both (is_digit c) (all_digits (cs ++ w)) (first_true (is_digit c) (all_digits cs) g)
    (all_append cs w (second_true (is_digit c) (all_digits cs) g) h)

-- They are without any byte that is none.
all_without : (b : ℕ) (w : List ℕ) → is_digit b ≡ false → all_digits w ≡ true → Without b w
unfolding all_digits
all_without b [] h g = tt
all_without b (c ∷ cs) h g = (
  ne_eqb c b (λ e. false≢true (sym h ∙ ap is_digit (sym e) ∙ first_true (is_digit c) (all_digits cs) g)),
  all_without b cs h (second_true (is_digit c) (all_digits cs) g),
)

digits-all : (f k : ℕ) → all_digits (digits f k) ≡ true
unfolding digits all_digits
digits-all zero k = refl
digits-all (suc f) zero = refl
digits-all (suc f) (suc k) =
    let d = suc k % 10 in
    all_append (digits f (suc k / 10)) (digit d ∷ []) (digits-all f (suc k / 10)) (both (is_digit (digit d)) true (digit_is d (omega arith)) refl)

decimal-all : (k : ℕ) → all_digits (decimal k) ≡ true
unfolding decimal all_digits is_digit
decimal-all zero = refl
decimal-all (suc k) = digits-all (suc k) (suc k)

pub decimal-without : (k b : ℕ) → is_digit b ≡ false → Without b (decimal k)
decimal-without k b h = all_without b (decimal k) h (decimal-all k)

-- ---- no leading zeros

-- There is a first byte, and it is no "0".
abbrev NoZero : List ℕ → Type 0
NoZero [] = ⊥
NoZero (c ∷ cs) = eqb c (digit 0) ≡ false

no_zero-append : (v w : List ℕ) → NoZero v → NoZero (v ++ w)
no_zero-append [] w h = absurd h
no_zero-append (c ∷ cs) w h = h

no_zero : (f k : ℕ) → 0 < k → k < f → NoZero (decimal k)
no_zero zero k h l = absurd (omega arith)
no_zero (suc f) k h l = by (dec_lt k 10) (no_zero f (k / 10))
  where
    by : Dec (k < 10) → (0 < k / 10 → k / 10 < f → NoZero (decimal (k / 10))) → NoZero (decimal k)
    by (yes s) ih = rw (decimal-short k s) (ne_eqb (digit k) (digit 0) (omega arith))
    by (no s) ih = rw (decimal_step k (omega arith)) (no_zero-append (decimal (k / 10)) (digit (k % 10) ∷ []) (ih (omega arith) (omega arith)))

number_of_lem : (w : List ℕ) → all_digits w ≡ true → NoZero w → is_number w ≡ true
unfolding all_digits is_number
number_of_lem [] h z = absurd z
number_of_lem (c ∷ []) h z = first_true (is_digit c) true h
number_of_lem (c ∷ d ∷ cs) h z = both (not (eqb c (digit 0))) (all_digits (c ∷ d ∷ cs)) (ap not z) h

-- ---- a number in decimal is a number, and says itself

number-decimal : (k : ℕ) → is_number (decimal k) ≡ true
unfolding is_number decimal is_digit
number-decimal zero = refl
number-decimal (suc k) = number_of_lem (decimal (suc k)) (decimal-all (suc k)) (no_zero (suc (suc k)) (suc k) (omega arith) (omega arith))

value-decimal : (k : ℕ) → value 0 (decimal k) ≡ k
value-decimal k = ap (value 0) (sym (append-nil (decimal k))) ∙ decimal-value k [] tt

-- ---- what is a number is one in decimal

-- The digit that a byte is.
digit-from : (c : ℕ) → is_digit c ≡ true → (c - digit 0 < 10) × (digit (c - digit 0) ≡ c)
unfolding is_digit
digit-from c h =
    let low : 48 ≤ c = leb-true (digit 0) c (first_true (leb (digit 0) c) (leb c (digit 9)) h) in
    let high : c ≤ 57 = leb-true c (digit 9) (second_true (leb (digit 0) c) (leb c (digit 9)) h) in
    (omega arith, omega arith)

-- A digit alone,
decimal-alone : (c : ℕ) → is_digit c ≡ true → decimal (10 * 0 + (c - digit 0)) ≡ c ∷ []
decimal-alone c h =
    let d = digit-from c h in
    let e : 10 * 0 + (c - digit 0) ≡ c - digit 0 = omega arith in
    rw (e, decimal-short (c - digit 0) d.0, d.1)

-- and one after a number above 0.
decimal-next : (a c : ℕ) → 0 < a → is_digit c ≡ true → decimal (10 * a + (c - digit 0)) ≡ decimal a ++ (c ∷ [])
decimal-next a c h g =
    let d = digit-from c g in
    let l : c - digit 0 < 10 = d.0 in
    let q : (10 * a + (c - digit 0)) / 10 ≡ a = omega arith in
    let r : (10 * a + (c - digit 0)) % 10 ≡ c - digit 0 = omega arith in
    decimal_step (10 * a + (c - digit 0)) (omega arith) ∙ rw (q, r, d.1)

-- So are all the digits after it.
decimal-rest : (a : ℕ) (cs : List ℕ) → 0 < a → all_digits cs ≡ true → decimal a ++ cs ≡ decimal (value a cs)
unfolding all_digits value
decimal-rest a [] h g = append-nil (decimal a)
decimal-rest a (c ∷ cs) h g =
    let i = first_true (is_digit c) (all_digits cs) g in
    let n = 10 * a + (c - digit 0) in
    sym (append_snoc (decimal a) c cs)
    ∙ ap (λ (s : List ℕ). s ++ cs) (sym (decimal-next a c h i))
    ∙ decimal-rest n cs (omega arith) (second_true (is_digit c) (all_digits cs) g)
    ∙ rw i

number_is : (w : List ℕ) → is_number w ≡ true → w ≡ decimal (value 0 w)
unfolding is_number all_digits value
number_is [] h = absurd (false≢true h)
number_is (c ∷ []) h = rw h (sym (decimal-alone c h))
number_is (c ∷ d ∷ cs) h =
    let z = not-true (eqb c (digit 0)) (first_true (not (eqb c (digit 0))) (all_digits (c ∷ d ∷ cs)) h) in
    let g = second_true (not (eqb c (digit 0))) (all_digits (c ∷ d ∷ cs)) h in
    let i = first_true (is_digit c) (all_digits (d ∷ cs)) g in
    let n = (digit-from c i).1 in
    let ne : c ≡ 48 → ⊥ = eqb-false c (digit 0) z in
    ap (λ (s : List ℕ). s ++ d ∷ cs) (sym (decimal-alone c i))
    ∙ decimal-rest (10 * 0 + (c - digit 0)) (d ∷ cs) (omega arith) (second_true (is_digit c) (all_digits (d ∷ cs)) g)
    ∙ rw i

-- ---- three numbers

-- Their text is their words with one space between.
numbers_text_lem : (a b c : ℕ) → numbers_text a b c ≡ joined SPACE (decimal a ∷ decimal b ∷ decimal c ∷ [])
unfolding numbers_text joined each_after
numbers_text_lem a b c =
    append_assoc (decimal a) (SPACE ∷ decimal b) (SPACE ∷ decimal c)
    ∙ ap (λ (s : List ℕ). decimal a ++ (SPACE ∷ (decimal b ++ (SPACE ∷ s)))) (sym (append-nil (decimal c)))

-- Their words are read as them,
numbers_in_lem : (a b c : ℕ) → numbers_in (decimal a ∷ decimal b ∷ decimal c ∷ []) ≡ three a b c
unfolding numbers_in
numbers_in_lem a b c = rw (number-decimal a, number-decimal b, number-decimal c, value-decimal a, value-decimal b, value-decimal c)

pub numbers-said : (a b c : ℕ) → numbers_of (numbers_text a b c) ≡ three a b c
unfolding numbers_of is_digit
numbers-said a b c =
    ap (λ (l : List ℕ). numbers_in (split SPACE l)) (numbers_text_lem a b c)
    ∙ ap numbers_in (split-joined SPACE (decimal a) (decimal b ∷ decimal c ∷ [])
    (decimal-without a SPACE refl, (decimal-without b SPACE refl, (decimal-without c SPACE refl, tt))))
    ∙ numbers_in_lem a b c

-- and no other words are.
numbers-one : (t : Bool) (x y z a b c : ℕ) → cond t (three x y z) none ≡ three a b c → (t ≡ true) × (x ≡ a) × (y ≡ b) × (z ≡ c)
numbers-one true x y z a b c e = (refl, cc, cc, cc)
numbers-one false x y z a b c e = (cc, cc, cc, cc)

words_only : (ws : List (List ℕ)) (a b c : ℕ) → numbers_in ws ≡ three a b c → ws ≡ decimal a ∷ decimal b ∷ decimal c ∷ []
unfolding numbers_in
words_only [] a b c e = cc
words_only (x ∷ []) a b c e = cc
words_only (x ∷ y ∷ []) a b c e = cc
words_only (x ∷ y ∷ z ∷ w ∷ ws) a b c e = cc
words_only (x ∷ y ∷ z ∷ []) a b c e =
    let s = numbers-one (is_number x && is_number y && is_number z) (value 0 x) (value 0 y) (value 0 z) a b c e in
    let xy = first_true (is_number x && is_number y) (is_number z) s.0 in
    cc (
      number_is x (first_true (is_number x) (is_number y) xy),
      number_is y (second_true (is_number x) (is_number y) xy),
      number_is z (second_true (is_number x && is_number y) (is_number z) s.0),
      s.1,
      s.2,
      s.3,
    )

pub numbers-only : (l : List ℕ) (a b c : ℕ) → numbers_of l ≡ three a b c → l ≡ numbers_text a b c
unfolding numbers_of
numbers-only l a b c e = sym (joined-split SPACE l) ∙ ap (joined SPACE) (words_only (split SPACE l) a b c e) ∙ sym (numbers_text_lem a b c)
