use Rattle.std.proofs.Common.{◌≡◌, ℕ, ◌<◌, Bool, true, false, List, [], ◌∷◌, length, eqb, ◌&&◌, MatchBool, rules, refl, sym, ap, arith}
use mathlib.Core.Bool.{and-false}
use Rattle.std.specs.Prelude.{Option, Some, None, is_some}
use Rattle.std.specs.List.{slice_split}
use Rattle.std.proofs.lemmas.Iterator.{YieldsList}
use Rattle.std.proofs.lemmas.Iterator.Splits.{YieldsList-from_slice_split}
use Rattle.figures.specs.Lines.{SPACE, is_number, none, numbers_in, numbers_of}
use Rattle.figures.specs.Inner.{word_of, words_of}
use Rattle.figures.proofs.Cutting.{split_is}
use Rattle.figures.proofs.Digits.{word_said, word_none}
use Rattle.figures.proofs.words.three.Goals.{After-is_some}
use Rattle.figures.proofs.words.three.Goals as goal

-- ---- one call of `next`

-- It takes the first of what is left;
record Next {S A B : Type 0} (steps : S → Option A → S → Type 0) (v : A → B) (x : A) (t : S) (ys : List B) : Type 0 where
  rest : List B
  is : ys ≡ v x ∷ rest
  road : YieldsList steps v t rest

module _ {S A B : Type 0} {steps : S → Option A → S → Type 0} {v : A → B} {s : S} where
  next : {ys : List B} → YieldsList steps v s ys → (x : A) (t : S) → steps s (Some x) t → Next steps v x t ys
  next {ys = []} h x t k = absurd (h.runs x t k)
  next {ys = y ∷ ys} h x t k = let m = h.runs.1 x t k in record { rest = ys; is = ap (λ (z : B). z ∷ ys) (sym m.0); road = record { runs = m.1 } }

  -- or nothing is left.
  ended : {ys : List B} → YieldsList steps v s ys → (t : S) → steps s None t → ys ≡ []
  ended {ys = []} h t k = refl
  ended {ys = y ∷ ys} h t k = absurd (h.runs.0 t k)

  -- By whether it took one.
  any_left : {ys : List B} → YieldsList steps v s ys → (r : Option A) (t : S) → steps s r t → MatchBool (is_some r) (0 < length ys) (ys ≡ [])
  any_left h None t k = ended h t k
  any_left h (Some x) t k = rw (next h x t k).is (omega arith)

-- ---- the words

one_none : (x : List ℕ) → numbers_in (x ∷ []) ≡ none
unfolding numbers_in
one_none x = refl

two_none : (x y : List ℕ) → numbers_in (x ∷ y ∷ []) ≡ none
unfolding numbers_in
two_none x y = refl

module _ (x y z : List ℕ) where
  -- A fourth is one too many,
  fourth_none : (ws : List (List ℕ)) → 0 < length ws → numbers_in (x ∷ y ∷ z ∷ ws) ≡ none
  unfolding numbers_in
  fourth_none [] l = absurd (omega arith)
  fourth_none (w ∷ ws) l = refl

  -- and of three, one that is no number is enough.
  first_none : is_number x ≡ false → numbers_in (x ∷ y ∷ z ∷ []) ≡ none
  unfolding numbers_in
  first_none e = rw e

  second_none : is_number y ≡ false → numbers_in (x ∷ y ∷ z ∷ []) ≡ none
  unfolding numbers_in
  second_none e = rw (e, and-false (is_number x))

  third_none : is_number z ≡ false → numbers_in (x ∷ y ∷ z ∷ []) ≡ none
  unfolding numbers_in
  third_none e = rw (e, and-false (is_number x && is_number y))

-- A line that is cut into words.
module _ (line : List ℕ) {ws : List (List ℕ)} (cut : slice_split (λ c. eqb c SPACE) line ≡ ws) where
  unread : numbers_in ws ≡ none → None ≡ words_of (numbers_of line)
  unfolding numbers_of
  unread e = rw (split_is SPACE line, cut, e)

module _ (line x y z : List ℕ) where
  read : slice_split (λ c. eqb c SPACE) line ≡ x ∷ y ∷ z ∷ [] → (a b c : ℕ) → Some a ≡ word_of x → Some b ≡ word_of y → Some c ≡ word_of z
      → Some (a, b, c) ≡ words_of (numbers_of line)
  unfolding numbers_of numbers_in
  read cut a b c d e f =
      let p = word_said x a (sym d) in
      let q = word_said y b (sym e) in
      let r = word_said z c (sym f) in
      rw (split_is SPACE line, cut, p.0, q.0, r.0, p.1, q.1, r.1)

  -- By whether a fourth word follows: refused, or of three words.
  abbrev Cut : Bool → Type 0
  Cut t = MatchBool t (None ≡ words_of (numbers_of line)) (slice_split (λ c. eqb c SPACE) line ≡ x ∷ y ∷ z ∷ [])

  cut_by : (t : Bool) (ws : List (List ℕ)) → slice_split (λ c. eqb c SPACE) line ≡ x ∷ y ∷ z ∷ ws → MatchBool t (0 < length ws) (ws ≡ []) → Cut t
  cut_by true ws e l = unread line e (fourth_none x y z ws l)
  cut_by false ws e n = rw n at e

-- ---- the code

-- Before it reads a digit, the line is cut.
cut : (c : After-is_some) → Cut c.args.line.now c.in_ok-first.first.now c.in_ok-second.second.now c.in_ok-third.third.now c.is_some.result
cut c =
    let all = YieldsList-from_slice_split {s = c.split-words.result} _ (λ x. eqb x SPACE) c.args.line.now c.split-words.ensures.rest
    c.split-words.ensures.done c.split-words.ensures.closure
    (λ x r q k. (refl, let e = rw k.shows at k.called.met in search (rules, e) fits 20000)) in
    let x = next all c.in_ok-first.first c.next.new.self c.in_ok-first.ensures.steps in
    let y = next x.road c.in_ok-second.second c.next-2.new.self c.in_ok-second.ensures.steps in
    let z = next y.road c.in_ok-third.third c.next-3.new.self c.in_ok-third.ensures.steps in
    rw c.is_some.ensures
    (cut_by _ _ _ _ _ z.rest (rw z.is at (rw y.is at x.is)) (any_left {ys = z.rest} z.road c.next-4.result c.next-4.new.self c.next-4.ensures.steps))

pub returns-in_err-second : goal.returns-in_err-second
returns-in_err-second c =
    let all = YieldsList-from_slice_split {s = c.split-words.result} _ (λ x. eqb x SPACE) c.args.line.now c.split-words.ensures.rest
    c.split-words.ensures.done c.split-words.ensures.closure
    (λ x r q k. (refl, let e = rw k.shows at k.called.met in search (rules, e) fits 20000)) in
    let x = next all c.in_ok-first.first c.next.new.self c.in_ok-first.ensures.steps in
    let last = ended x.road c.next-2.new.self c.in_err-second.ensures.steps in
    rw c.from_residual-in_err-second.ensures (unread c.args.line.now (rw last at x.is) (one_none _))

pub returns-in_err-third : goal.returns-in_err-third
returns-in_err-third c =
    let all = YieldsList-from_slice_split {s = c.split-words.result} _ (λ x. eqb x SPACE) c.args.line.now c.split-words.ensures.rest
    c.split-words.ensures.done c.split-words.ensures.closure
    (λ x r q k. (refl, let e = rw k.shows at k.called.met in search (rules, e) fits 20000)) in
    let x = next all c.in_ok-first.first c.next.new.self c.in_ok-first.ensures.steps in
    let y = next x.road c.in_ok-second.second c.next-2.new.self c.in_ok-second.ensures.steps in
    let last = ended y.road c.next-3.new.self c.in_err-third.ensures.steps in
    rw c.from_residual-in_err-third.ensures (unread c.args.line.now (rw last at (rw y.is at x.is)) (two_none _ _))

pub returns-then-is_some : goal.returns-then-is_some
returns-then-is_some c = rw c.if-is_some.true at (cut (goal.at.returns-then-is_some c).After-is_some)

pub returns-in_err-a : goal.returns-in_err-a
returns-in_err-a c =
    let three = rw c.if-is_some.false at (cut (goal.at.returns-in_err-a c).After-is_some) in
    rw c.from_residual-in_err-a.ensures (unread c.args.line.now three (first_none _ _ _ (word_none _ (sym c.in_err-a.ensures))))

pub returns-in_err-b : goal.returns-in_err-b
returns-in_err-b c =
    let three = rw c.if-is_some.false at (cut (goal.at.returns-in_err-b c).After-is_some) in
    rw c.from_residual-in_err-b.ensures (unread c.args.line.now three (second_none _ _ _ (word_none _ (sym c.in_err-b.ensures))))

pub returns-in_err-c : goal.returns-in_err-c
returns-in_err-c c =
    let three = rw c.if-is_some.false at (cut (goal.at.returns-in_err-c c).After-is_some) in
    rw c.from_residual-in_err-c.ensures (unread c.args.line.now three (third_none _ _ _ (word_none _ (sym c.in_err-c.ensures))))

pub returns : goal.returns
returns c = read _ _ _ _ (rw c.if-is_some.false at (cut (goal.at.returns c).After-is_some)) _ _ _ c.in_ok-a.ensures c.in_ok-b.ensures c.in_ok-c.ensures
