-- The judge reads from the text that says given figures exactly those figures.
use Prim.Native.Nat.{ℕ, suc, ◌+◌, ◌-◌, ◌≤◌, ◌<◌}
use native.Mathlib.Omega.{arith}
use mathlib.Core.Bool.{true, false, true≢false}
use mathlib.Core.List.{List, [], ◌∷◌, ◌++◌, map, reverse_aux, append_assoc}
use mathlib.Core.Path.{◌≡◌, refl, sym, ap, ◌∙◌}
use lib.ListN.{length, get_or, length-append}
use borrow.Author.Tests.{eq-eqb, ne_eqb, le-ltb, le-leb}
use Rattle.numbers.specs.Texts.{decimal, is_digit, same_list}
use Rattle.numbers.proofs.Decimal.{FirstDigit, decimal_digit}
use Rattle.relations.specs.Pairs.{place}
use Rattle.relations.specs.Sets.{MOST}
use Rattle.relations.proofs.Named.{relation_is}
use Rattle.relations.proofs.Places.{place-below}
use Rattle.figures.specs.Lines.{FEED, SPACE, PERCENT}
use Rattle.figures.specs.Entries.{Entry, in_triangle, zero_divisor, given, all_counted}
use Rattle.figures.specs.Judge.{LARGEST, HEADING, accepted, too_large, with_numbers, is_end, entry_lines, size_line, is_comment, comments, first_line, judged}
use Rattle.figures.specs.Written.{Proper, entries_of, numbers_text, entry_text, written}
use Rattle.figures.specs.declared.Figures.{Figures}
use Rattle.figures.proofs.Cutting.{line-there}
use Rattle.figures.proofs.Pieces.{Without, NoneWith, is_without, is_without_lem, without-append, split-fed}
use Rattle.figures.proofs.Numerals.{decimal-without, numbers-said}
use Rattle.figures.proofs.Collected.{All}
use Rattle.figures.proofs.Rising.{turn, RisesFrom, Before, before-later, not_given}
use Rattle.figures.proofs.Laid.{count_entry, divisor_of, pair_entry, entries_all, entries_few, entries_rise}
use Rattle.figures.proofs.Said.{taken, taken-counted, figures-same}

-- ---- entry lines

-- What an entry line asks for, besides a place that is not given.
record Fits (n : ℕ) (e : Entry) : Type 0 where
  within : in_triangle n e.row e.column ≡ true
  small : too_large e.row e.column e.value ≡ false
  divides : zero_divisor e ≡ false

-- Numbers that are not too large.
not_large : (a b c : ℕ) → a ≤ LARGEST → b ≤ LARGEST → c ≤ LARGEST → too_large a b c ≡ false
unfolding too_large
not_large a b c ha hb hc = rw (le-ltb LARGEST a ha, le-ltb LARGEST b hb, le-ltb LARGEST c hc)

-- Lines are left where any were fed,
some_left : (ls : List (List ℕ)) → 0 < length (ls ++ ([] ∷ []))
some_left ls = omega (arith, length-append ls ([] ∷ []))

-- and such an entry's is read,
entry-line : (n m : ℕ) (es : List Entry) (at : ℕ) (e : Entry) (ls : List (List ℕ)) → Fits n e → given e.row e.column es ≡ false
    → 0 < length ls → entry_lines n (suc m) es at (entry_text e ∷ ls) ≡ entry_lines n m (e ∷ es) (at + length (entry_text e) + 1) ls
unfolding entry_lines with_numbers
entry-line n m es at e ls h g l =
    line-there at (entry_text e) ls _ l ∙ rw (numbers-said e.row e.column e.value, h.small, h.within, g, h.divides)

-- up to the end of the text, where the entries rise and are complete.
entry_lines_lem : (n k : ℕ) (es : List Entry) (at : ℕ) (E : List Entry) → All (Fits n) E → Before k es → RisesFrom k E
    → all_counted n (reverse_aux E es) ≡ true → entry_lines n (length E) es at (map entry_text E ++ ([] ∷ [])) ≡ accepted n (reverse_aux E es)
unfolding entry_lines is_end
entry_lines_lem n k es at [] h b r c = rw c
entry_lines_lem n k es at (e ∷ E) h b r c =
    entry-line n (length E) es at e (map entry_text E ++ ([] ∷ [])) h.0 (not_given e es (before-later k (turn e) es r.0 b))
    (some_left (map entry_text E))
    ∙ entry_lines_lem n (suc (turn e)) (e ∷ es) (at + length (entry_text e) + 1) E h.1
    (omega arith, before-later k (suc (turn e)) es (omega (arith, r.0)) b) r.1 c

-- ---- the lines before

-- A line of numbers is no comment.
numbers-digit : (a b c : ℕ) → FirstDigit (numbers_text a b c)
unfolding numbers_text
numbers-digit a b c =
    rw (append_assoc (decimal a) (SPACE ∷ decimal b) (SPACE ∷ decimal c)) (decimal_digit a ((SPACE ∷ decimal b) ++ (SPACE ∷ decimal c)))

digit_comment : (w : List ℕ) → FirstDigit w → is_comment w ≡ false
unfolding is_comment is_digit
digit_comment [] h = absurd h
digit_comment (c ∷ cs) h = ne_eqb c PERCENT (λ e. true≢false (sym h ∙ ap is_digit e))

no_comments : (at : ℕ) (l : List ℕ) (ls : List (List ℕ)) → is_comment l ≡ false → comments at (l ∷ ls) ≡ size_line at (l ∷ ls)
unfolding comments
no_comments at l [] h = refl
no_comments at l (k ∷ ls) h = rw h

-- No line has a feed inside.
numbers-line : (a b c : ℕ) → Without FEED (numbers_text a b c)
unfolding numbers_text is_digit
numbers-line a b c =
    without-append FEED (decimal a ++ (SPACE ∷ decimal b)) (SPACE ∷ decimal c)
    (without-append FEED (decimal a) (SPACE ∷ decimal b) (decimal-without a FEED refl) (refl, decimal-without b FEED refl))
    (refl, decimal-without c FEED refl)

entries_line : (E : List Entry) → NoneWith FEED (map entry_text E)
entries_line [] = tt
entries_line (e ∷ E) = (numbers-line e.row e.column e.value, entries_line E)

heading-line : Without FEED HEADING
unfolding is_without
heading-line = is_without_lem FEED HEADING refl

heading-same : same_list HEADING HEADING ≡ true
unfolding same_list
heading-same = refl

-- ---- the entries that say given figures

module _ (f : Figures) (ok : Proper f) where
  -- They fit.
  count_fits : (c : ℕ) → 1 ≤ c → c ≤ f.n → Fits f.n (count_entry f c)
  unfolding in_triangle zero_divisor
  count_fits c a b =
      let v : get_or f.counts (c - 1) 0 ≤ LARGEST = ok.counted (c - 1) (omega arith) in
      let l : f.n ≤ 15 = ok.few in
      record {
        within = rw (relation_is f.n c a b, le-leb c c (omega arith));
        small = not_large c c (get_or f.counts (c - 1) 0) (omega arith) (omega arith) v;
        divides = rw (eq-eqb c c refl);
      }

  pair_fits : (r c : ℕ) → 1 ≤ c → c < r → r ≤ f.n → 1 < divisor_of f r c → Fits f.n (pair_entry f r c)
  unfolding in_triangle zero_divisor
  pair_fits r c a l b d =
      let v = ok.divided (place r c) (place-below f.n r c (omega arith) a (omega arith) b (omega arith)) in
      let m : f.n ≤ 15 = ok.few in
      record {
        within = rw (relation_is f.n r (omega arith) b, relation_is f.n c a (omega arith), le-leb c r (omega arith));
        small = not_large r c (divisor_of f r c) (omega arith) (omega arith) v.1;
        divides = rw (ne_eqb r c (omega arith), ne_eqb (divisor_of f r c) 0 (omega arith));
      }

  all_fit : All (Fits f.n) (entries_of f)
  all_fit = entries_all f (Fits f.n) count_fits pair_fits

  -- ---- the text

  abbrev size_text : List ℕ
  size_text = numbers_text f.n f.n (length (entries_of f))

  abbrev left : List (List ℕ)
  left = map entry_text (entries_of f) ++ ([] ∷ [])

  read_entries : (at : ℕ) → entry_lines f.n (length (entries_of f)) [] at left ≡ accepted f.n (taken f)
  read_entries at = entry_lines_lem f.n 0 [] at (entries_of f) all_fit tt (entries_rise f ok.few) (taken-counted f)

  read-size : (at : ℕ) → size_line at (size_text ∷ left) ≡ accepted f.n (taken f)
  unfolding size_line with_numbers
  read-size at =
      let few : f.n ≤ 15 = ok.few in
      let m : length (entries_of f) ≤ 240 = entries_few f few in
      let small = not_large f.n f.n (length (entries_of f)) (omega arith) (omega arith) (omega arith) in
      line-there at size_text left _ (some_left (map entry_text (entries_of f)))
      ∙ rw (numbers-said f.n f.n (length (entries_of f)), small, eq-eqb f.n f.n refl, relation_is MOST f.n ok.some few)
      (read_entries (at + length size_text + 1))

  read-comments : (at : ℕ) → comments at (size_text ∷ left) ≡ accepted f.n (taken f)
  read-comments at = no_comments at size_text left (digit_comment size_text (numbers-digit f.n f.n (length (entries_of f)))) ∙ read-size at

  read_first : first_line (HEADING ∷ size_text ∷ left) ≡ accepted f.n (taken f)
  unfolding first_line
  read_first = line-there 0 HEADING (size_text ∷ left) _ (omega arith) ∙ rw heading-same (read-comments (0 + length HEADING + 1))

  -- The figures are read back.
  pub read_back : judged (written f) ≡ record { number = 0; place = 0; figures = f }
  unfolding judged written
  read_back =
      ap first_line
      (split-fed (HEADING ∷ size_text ∷ map entry_text (entries_of f))
      (heading-line, (numbers-line f.n f.n (length (entries_of f)), entries_line (entries_of f))))
      ∙ read_first
      ∙ ap (λ (g : Figures). record { number = 0; place = 0; figures = g }) (figures-same f ok)
