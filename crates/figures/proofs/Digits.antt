-- A word read digit by digit, with its value held.
use Prim.Native.Nat.{ℕ, suc, ◌+◌, ◌-◌, ◌*◌, ◌≤◌, ◌<◌}
use native.Mathlib.Omega.{arith}
use mathlib.Core.Bool.{Bool, true, false, cond, ◌&&◌}
use mathlib.Core.List.{List, [], ◌∷◌}
use mathlib.Core.Path.{◌≡◌, refl, sym, ap, ◌∙◌}
use lib.ListN.{length, drop, get_or}
use lib.Seq.{drop-cons}
use borrow.Author.Tests.{eq-eqb, ne_eqb}
use Rattle.std.specs.Prelude.{Some, None}
use Rattle.numbers.specs.Texts.{is_digit, value}
use Rattle.figures.specs.Lines.{all_digits, is_number}
use Rattle.figures.specs.Inner.{held, word_of}

-- ---- digit by digit

module _ (w : List ℕ) (at : ℕ) (l : at < length w) where
  pub digits_stop : is_digit (get_or w at 0) ≡ false → all_digits (drop at w) ≡ false
  unfolding all_digits
  digits_stop e = rw (drop-cons w at 0 l, e)

  pub digits_more : is_digit (get_or w at 0) ≡ true → all_digits (drop at w) ≡ all_digits (drop (suc at) w)
  unfolding all_digits
  digits_more e = rw (drop-cons w at 0 l, e)

  pub value-more : (v : ℕ) → is_digit (get_or w at 0) ≡ true → value v (drop at w) ≡ value (10 * v + (get_or w at 0 - 48)) (drop (suc at) w)
  unfolding value
  value-more v e = rw (drop-cons w at 0 l, e)

-- ---- a value held on the way is held at the end

held-digit : (cs : List ℕ) (v d : ℕ) (t : Bool) → ((x : ℕ) → held (value (held x) cs) ≡ held (value x cs))
    → held (cond t (value (10 * held v + d) cs) (held v)) ≡ held (cond t (value (10 * v + d) cs) v)
held-digit cs v d false ih = omega arith
held-digit cs v d true ih =
    let e : held (10 * held v + d) ≡ held (10 * v + d) = omega arith in
    sym (ih (10 * held v + d)) ∙ ap (λ (x : ℕ). held (value x cs)) e ∙ ih (10 * v + d)

pub value-held : (cs : List ℕ) (v : ℕ) → held (value (held v) cs) ≡ held (value v cs)
unfolding value
value-held [] v = omega arith
value-held (c ∷ cs) v = held-digit cs v (c - 48) (is_digit c) (value-held cs)

-- ---- no digits, and leading zeros

pub no_number : (w : List ℕ) → length w ≡ 0 → is_number w ≡ false
unfolding is_number
no_number [] e = refl
no_number (c ∷ cs) e = absurd (omega arith)

pub leading_zero : (w : List ℕ) → get_or w 0 0 ≡ 48 → 1 < length w → is_number w ≡ false
unfolding is_number
leading_zero [] e l = absurd (omega arith)
leading_zero (c ∷ []) e l = absurd (omega arith)
leading_zero (c ∷ d ∷ cs) e l = rw (eq-eqb c 48 e)

-- Where there is none, a word is a number if it has digits only.
pub digits_number : (w : List ℕ) → 0 < length w → (get_or w 0 0 ≡ 48 → length w ≤ 1) → is_number w ≡ all_digits w
unfolding is_number all_digits
digits_number [] l z = absurd (omega arith)
digits_number (c ∷ []) l z = one (is_digit c)
  where
    one : (t : Bool) → t ≡ (t && true)
    one true = refl
    one false = refl
digits_number (c ∷ d ∷ cs) l z = rw (ne_eqb c 48 (λ e. let h = z e in omega arith))

-- ---- a word that was read: only a number is, as its value, held

pub word_said : (w : List ℕ) (v : ℕ) → word_of w ≡ Some v → (is_number w ≡ true) × (held (value 0 w) ≡ v)
unfolding word_of
word_said w v e = by (is_number w) e
  where
    by : (t : Bool) → cond t (Some (held (value 0 w))) None ≡ Some v → (t ≡ true) × (held (value 0 w) ≡ v)
    by true h = (refl, cc)
    by false h = absurd (cc)

pub word_none : (w : List ℕ) → word_of w ≡ None → is_number w ≡ false
unfolding word_of
word_none w e = by (is_number w) e
  where
    by : (t : Bool) → cond t (Some (held (value 0 w))) None ≡ None → t ≡ false
    by true h = absurd (cc)
    by false h = refl
