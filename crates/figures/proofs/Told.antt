-- A line of three numbers at a place of the text: what the judge makes of it, and what its words, held, tell of its numbers.
use Prim.Native.Nat.{ℕ, ◌+◌, ◌≤◌, ◌<◌}
use native.Mathlib.Decide.{dec_lt}
use native.Mathlib.Omega.{arith}
use mathlib.Core.Bool.{true}
use mathlib.Core.List.{List}
use mathlib.Core.Path.{◌≡◌, refl, ap, ◌∙◌}
use lib.ListN.{length, take, drop, length-drop}
use lib.Seq.{length-take-le}
use borrow.Author.Tests.{lt-ltb, le-ltb}
use Rattle.figures.specs.Lines.{FEED, Numbers, three, none}
use Rattle.std.specs.Prelude.{Some, None}
use Rattle.figures.specs.Judge.{Result, refused, on_line, LARGEST, too_large, with_numbers}
use Rattle.figures.specs.Inner.{first_of, held, words_of, lines_at}
use Rattle.figures.proofs.Cutting.{first_piece, only_piece, line-fed}

-- ---- the line

module _ (text : List ℕ) (at : ℕ) (next : List ℕ → ℕ → List (List ℕ) → Result) where
  pub line_open : None ≡ first_of FEED (drop at text) → on_line at (lines_at text at) next ≡ refused 11 at
  unfolding on_line
  line_open e = rw (only_piece FEED at text e)

  pub line-ends : (len : ℕ) → Some len ≡ first_of FEED (drop at text) → at + len < length text
      → on_line at (lines_at text at) next ≡ next (take len (drop at text)) (at + len + 1) (lines_at text (at + len + 1))
  line-ends len e l =
      let long : length (take len (drop at text)) ≡ len = length-take-le len (drop at text) (omega (arith, length-drop at text)) in
      ap (λ (ls : List (List ℕ)). on_line at ls next) (first_piece FEED at len text e)
      ∙ line-fed at (take len (drop at text)) (drop (at + len + 1) text) next
      ∙ ap (λ (k : ℕ). next (take len (drop at text)) (at + k + 1) (lines_at text (at + len + 1))) long

-- ---- its words

-- The numbers of which the words tell a, b and c.
pub record Tells (x : Numbers) (a b c : ℕ) : Type 0 where
  pub first : ℕ
  pub second : ℕ
  pub third : ℕ
  pub said : x ≡ three first second third
  pub a-held : held first ≡ a
  pub b-held : held second ≡ b
  pub c-held : held third ≡ c

pub words_told : (x : Numbers) (a b c : ℕ) → words_of x ≡ Some (a, b, c) → Tells x a b c
words_told none a b c e = absurd (cc)
words_told (three i j v) a b c e =
    let p : (held i, held j, held v) ≡ (a, b, c) = cc in
    record {
      first = i;
      second = j;
      third = v;
      said = refl;
      a-held = ap (λ (x : ℕ × ℕ × ℕ). x.0) p;
      b-held = ap (λ (x : ℕ × ℕ × ℕ). x.1) p;
      c-held = ap (λ (x : ℕ × ℕ × ℕ). x.2) p;
    }

pub words_none : (x : Numbers) → words_of x ≡ None → x ≡ none
words_none none e = refl
words_none (three i j v) e = absurd (cc)

module _ {x : Numbers} {a b c : ℕ} (t : Tells x a b c) (at : ℕ) (next : ℕ → ℕ → ℕ → Result) where
  -- One of them is too large,
  pub some-large : (a ≤ LARGEST → b ≤ LARGEST → c ≤ LARGEST → ⊥) → refused 15 at ≡ with_numbers at x next
  unfolding with_numbers too_large
  some-large h = rw (t.said, by (dec_lt LARGEST t.first) (dec_lt LARGEST t.second) (dec_lt LARGEST t.third))
    where
      by : Dec (LARGEST < t.first) → Dec (LARGEST < t.second) → Dec (LARGEST < t.third) → too_large t.first t.second t.third ≡ true
      by (yes l) q r = rw (lt-ltb LARGEST t.first l)
      by (no k) (yes l) r = rw (le-ltb LARGEST t.first (omega arith), lt-ltb LARGEST t.second l)
      by (no k) (no m) (yes l) = rw (le-ltb LARGEST t.first (omega arith), le-ltb LARGEST t.second (omega arith), lt-ltb LARGEST t.third l)
      by (no k) (no m) (no n) = absurd (h (omega (arith, t.a-held)) (omega (arith, t.b-held)) (omega (arith, t.c-held)))

  -- or none is, and then they are what the words tell.
  pub none-large : a ≤ LARGEST → b ≤ LARGEST → c ≤ LARGEST → next a b c ≡ with_numbers at x next
  unfolding with_numbers too_large
  none-large h g f =
      let p : t.first ≡ a = omega (arith, t.a-held) in
      let q : t.second ≡ b = omega (arith, t.b-held) in
      let r : t.third ≡ c = omega (arith, t.c-held) in
      rw (t.said, p, q, r, le-ltb LARGEST a h, le-ltb LARGEST b g, le-ltb LARGEST c f)
