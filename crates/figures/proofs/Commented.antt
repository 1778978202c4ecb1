-- Comment lines: they change no answer, and move the place of a refusal on by their bytes (`commented`, `commented-accepted`).
use Prim.Native.Nat.{ℕ, zero, suc, ◌+◌}
use native.Mathlib.Omega.{arith}
use mathlib.Core.Bool.{Bool, true, false, cond, not}
use mathlib.Core.List.{List, [], ◌∷◌, ◌++◌}
use mathlib.Core.Path.{◌≡◌, refl, sym, ap, ◌∙◌}
use lib.Dec.{eqb}
use lib.ListN.{length, length-append}
use Rattle.numbers.specs.Texts.{same_list}
use Rattle.relations.specs.Sets.{MOST, is_relation}
use Rattle.figures.specs.Lines.{FEED, split, Numbers, three, none, numbers_of}
use Rattle.figures.specs.Entries.{Entry, entry, in_triangle, zero_divisor, given, all_counted}
use Rattle.figures.specs.Judge.{Result, accepted, faulty, on_line, too_large, with_numbers, is_end, entry_lines, size_line, is_comment, comments, HEADING, first_line, judged}
use Rattle.figures.proofs.Cutting.{line-there}

-- ---- a result, moved

-- The result with its place moved on by d bytes where it is a refusal.
abbrev pub moved : ℕ → Result → Result
moved d r = record { number = r.number; place = cond (eqb r.number 0) r.place (r.place + d); figures = r.figures }

-- An accepted result is not moved.
moved-accepted : (d : ℕ) (r : Result) → r.number ≡ 0 → moved d r ≡ r
moved-accepted d r h = ap (λ (k : ℕ). placed (cond (eqb k 0) r.place (r.place + d))) h
  where
    placed : ℕ → Result
    placed p = record { number = r.number; place = p; figures = r.figures }

-- A fault that is answered, a line of numbers, and a line that is missing or there, are moved with their start.
faulty-moved :
    (k at d : ℕ) (fault : Bool) (r s : Result) → eqb k 0 ≡ false → s ≡ moved d r → faulty k (at + d) fault s ≡ moved d (faulty k at fault r)
faulty-moved k at d true r s h e = rw h
faulty-moved k at d false r s h e = e

numbers-moved :
    (at d : ℕ) (x : Numbers) (f g : ℕ → ℕ → ℕ → Result) →
    ((a b c : ℕ) → g a b c ≡ moved d (f a b c)) →
    with_numbers (at + d) x g ≡ moved d (with_numbers at x f)
unfolding with_numbers
numbers-moved at d none f g h = refl
numbers-moved at d (three a b c) f g h = faulty-moved 15 at d (too_large a b c) (f a b c) (g a b c) refl (h a b c)

line-moved :
    (at d : ℕ) (ls : List (List ℕ)) (f g : List ℕ → ℕ → List (List ℕ) → Result) →
    ((l : List ℕ) (next : ℕ) (rest : List (List ℕ)) → g l (next + d) rest ≡ moved d (f l next rest)) →
    on_line (at + d) ls g ≡ moved d (on_line at ls f)
unfolding on_line
line-moved at d [] f g h = refl
line-moved at d (l ∷ []) f g h = refl
line-moved at d (l ∷ k ∷ ls) f g h = ap (λ (s : ℕ). g l s (k ∷ ls)) (omega arith) ∙ h l (at + length l + 1) (k ∷ ls)

-- ---- a start, moved

entries_moved : (d n m : ℕ) (es : List Entry) (at : ℕ) (ls : List (List ℕ)) → entry_lines n m es (at + d) ls ≡ moved d (entry_lines n m es at ls)
unfolding entry_lines
entries_moved d n zero es at ls =
    faulty-moved 11 at d (not (is_end ls)) _ _ refl (faulty-moved 12 at d (not (all_counted n es)) (accepted n es) (accepted n es) refl refl)
entries_moved d n (suc m) es at ls =
    line-moved at d ls _ _ (λ l next rest.
    numbers-moved at d (numbers_of l) _ _ (λ i j v.
    faulty-moved 14 at d (not (in_triangle n i j)) _ _ refl
    (faulty-moved 13 at d (given i j es) _ _ refl
    (faulty-moved 3 at d (zero_divisor (entry i j v)) _ _ refl
    (entries_moved d n m (entry i j v ∷ es) next rest)))))

size-moved : (d at : ℕ) (ls : List (List ℕ)) → size_line (at + d) ls ≡ moved d (size_line at ls)
unfolding size_line
size-moved d at ls =
    line-moved at d ls _ _ (λ l next rest.
    numbers-moved at d (numbers_of l) _ _ (λ n b m.
    faulty-moved 2 at d (not (eqb n b)) _ _ refl
    (faulty-moved 1 at d (not (is_relation MOST n)) _ _ refl
    (entries_moved d n m [] next rest))))

comments-moved : (d at : ℕ) (ls : List (List ℕ)) → comments (at + d) ls ≡ moved d (comments at ls)
unfolding comments
comments-moved d at [] = size-moved d at []
comments-moved d at (l ∷ []) = size-moved d at (l ∷ [])
comments-moved d at (l ∷ k ∷ ls) =
    by (is_comment l) _ _ _ _
    (ap (λ (s : ℕ). comments s (k ∷ ls)) (omega arith) ∙ comments-moved d (at + length l + 1) (k ∷ ls))
    (size-moved d at (l ∷ k ∷ ls))
  where
    by : (b : Bool) (p q r s : Result) → p ≡ moved d q → r ≡ moved d s → cond b p r ≡ moved d (cond b q s)
    by true p q r s f g = f
    by false p q r s f g = g

-- ---- the comment lines

-- Each of the lines is one.
abbrev pub Comments : List (List ℕ) → Type 0
Comments [] = Unit
Comments (c ∷ cs) = (is_comment c ≡ true) × Comments cs

-- The bytes of the lines with their feeds.
abbrev pub length_of : List (List ℕ) → ℕ
length_of [] = 0
length_of (l ∷ ls) = length l + 1 + length_of ls

-- The heading is passed, and so are comments.
heading-passed : (l : List ℕ) (ls cs : List (List ℕ)) → first_line (HEADING ∷ (cs ++ (l ∷ ls))) ≡ comments (length HEADING + 1) (cs ++ (l ∷ ls))
unfolding first_line same_list
heading-passed l ls cs = line-there 0 HEADING (cs ++ (l ∷ ls)) _ (omega (arith, length-append cs (l ∷ ls)))

comment_passed :
    (at : ℕ) (c l : List ℕ) (ls cs : List (List ℕ)) →
    is_comment c ≡ true →
    comments at (c ∷ (cs ++ (l ∷ ls))) ≡ comments (at + length c + 1) (cs ++ (l ∷ ls))
unfolding comments
comment_passed at c l ls [] h = rw h
comment_passed at c l ls (k ∷ cs) h = rw h

comments-passed :
    (at : ℕ) (l : List ℕ) (ls cs : List (List ℕ)) → Comments cs → comments at (cs ++ (l ∷ ls)) ≡ comments (at + length_of cs) (l ∷ ls)
comments-passed at l ls [] h = ap (λ (s : ℕ). comments s (l ∷ ls)) (omega arith)
comments-passed at l ls (c ∷ cs) h =
    comment_passed at c l ls cs h.0
    ∙ comments-passed (at + length c + 1) l ls cs h.1
    ∙ ap (λ (s : ℕ). comments s (l ∷ ls)) (omega arith)

-- What comes after them is judged from its own start.
pub judged-after :
    (T l : List ℕ) (ls cs : List (List ℕ)) →
    split FEED T ≡ HEADING ∷ (cs ++ (l ∷ ls)) →
    Comments cs →
    judged T ≡ comments (length HEADING + 1 + length_of cs) (l ∷ ls)
unfolding judged
judged-after T l ls cs e h = ap first_line e ∙ heading-passed l ls cs ∙ comments-passed (length HEADING + 1) l ls cs h

-- ---- a text, and the same with comment lines put after its heading

module _ (T U l : List ℕ) (ls cs : List (List ℕ))
    (t : split FEED T ≡ HEADING ∷ l ∷ ls) (u : split FEED U ≡ HEADING ∷ (cs ++ (l ∷ ls))) (h : Comments cs) where
  pub commented : judged U ≡ moved (length_of cs) (judged T)
  commented =
      judged-after U l ls cs u h
      ∙ comments-moved (length_of cs) (length HEADING + 1) (l ∷ ls)
      ∙ ap (moved (length_of cs)) (sym (judged-after T l ls [] t tt))

  pub commented-accepted : (judged T).number ≡ 0 → judged U ≡ judged T
  commented-accepted a = commented ∙ moved-accepted (length_of cs) (judged T) a
