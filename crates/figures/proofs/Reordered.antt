-- The order of the entry lines: in a text that is accepted it does not matter (`reordered`), and every such text has the lines that this
-- asks for (`accepted-lines`).
use Prim.Native.Nat.{ℕ, zero, suc, ◌+◌}
use native.Mathlib.Omega.{arith}
use mathlib.Core.Bool.{Bool, true, false, cond, not, true≢false}
use mathlib.Core.List.{List, [], ◌∷◌, ◌++◌, Permᴰ}
use mathlib.Core.Path.{◌≡◌, refl, sym, ap, ◌∙◌}
use lib.Dec.{eqb}
use lib.ListN.{length, length-append}
use borrow.Author.Tests.{not-false}
use Rattle.numbers.specs.Texts.{same_list}
use Rattle.numbers.proofs.Lists.{same_list_lem}
use Rattle.numbers.proofs.Tests.{neither, is_false}
use Rattle.relations.specs.Sets.{MOST, is_relation}
use Rattle.figures.specs.Lines.{FEED, split, Numbers, three, none, numbers_of}
use Rattle.figures.specs.Entries.{Entry, entry, in_triangle, zero_divisor, is_at, given, all_counted}
use Rattle.figures.specs.Judge.{Result, faulty, on_line, too_large, with_numbers, is_end, entry_lines, size_line, is_comment, comments, HEADING, first_line, judged}
use Rattle.figures.specs.declared.Figures.{Figures}
use Rattle.figures.proofs.Alike.{Alike, alike_self, alike_more, counted_alike, figures_alike, exchanged_alike}
use Rattle.figures.proofs.Collected.{at_is, is_at_lem}
use Rattle.figures.proofs.Commented.{Comments, length_of, judged-after}
use Rattle.figures.proofs.Cutting.{line-there}

-- ---- accepted results

-- A fault is none where the result is accepted.
pub no_fault : (k at : ℕ) (fault : Bool) (r : Result) → eqb k 0 ≡ false → (faulty k at fault r).number ≡ 0 → (fault ≡ false) × (r.number ≡ 0)
no_fault k at true r h e = absurd (true≢false (sym (ap (λ (x : ℕ). eqb x 0) e) ∙ h))
no_fault k at false r h e = (refl, e)

-- Where r is accepted, s is the same.
abbrev Kept : Result → Result → Type 0
Kept r s = r.number ≡ 0 → s ≡ r

faulty-kept : (k at at' : ℕ) (a b : Bool) (r s : Result) → eqb k 0 ≡ false → a ≡ b → Kept r s → Kept (faulty k at a r) (faulty k at' b s)
faulty-kept k at at' a b r s h q kept e = let f = no_fault k at a r h e in rw (← q, f.0) (kept f.1)

numbers-kept :
    (at at' : ℕ) (x : Numbers) (f g : ℕ → ℕ → ℕ → Result) →
    ((a b c : ℕ) → Kept (f a b c) (g a b c)) →
    Kept (with_numbers at x f) (with_numbers at' x g)
unfolding with_numbers
numbers-kept at at' none f g h e = absurd (omega arith)
numbers-kept at at' (three a b c) f g h e = faulty-kept 15 at at' (too_large a b c) _ _ _ refl refl (h a b c) e

-- ---- one entry line

-- What the judge makes of its numbers, after the entries `es`; then it goes on.
abbrev on_entry : ℕ → List Entry → ℕ → Numbers → (Entry → Result) → Result
on_entry n es at x next =
    with_numbers at x (λ i j v.
    faulty 14 at (not (in_triangle n i j))
    (faulty 13 at (given i j es)
    (faulty 3 at (zero_divisor (entry i j v))
    (next (entry i j v)))))

entry_kept :
    (n at at' : ℕ) (es fs : List Entry) (x : Numbers) (f g : Entry → Result) →
    Alike es fs →
    ((e : Entry) → Kept (f e) (g e)) →
    Kept (on_entry n es at x f) (on_entry n fs at' x g)
entry_kept n at at' es fs x f g h kept =
    numbers-kept at at' x _ _ (λ i j v.
    faulty-kept 14 at at' (not (in_triangle n i j)) _ _ _ refl refl
    (faulty-kept 13 at at' (given i j es) (given i j fs) _ _ refl (h.places i j)
    (faulty-kept 3 at at' (zero_divisor (entry i j v)) _ _ _ refl refl
    (kept (entry i j v)))))

-- The numbers say the entry e, which may follow the entries `es`.
pub record Says (n : ℕ) (es : List Entry) (x : Numbers) (e : Entry) : Type 0 where
  pub numbers : x ≡ three e.row e.column e.value
  pub small : too_large e.row e.column e.value ≡ false
  pub inside : in_triangle n e.row e.column ≡ true
  pub new : given e.row e.column es ≡ false
  pub divides : zero_divisor e ≡ false

-- Then the judge goes on with that entry,
pub says-next : (n : ℕ) (es : List Entry) (at : ℕ) (x : Numbers) (next : Entry → Result) (e : Entry) → Says n es x e → on_entry n es at x next ≡ next e
unfolding with_numbers
says-next n es at x next e s = rw (s.numbers, s.small, s.inside, s.new, s.divides)

-- and they say one where the judge accepts.
pub record Said (n : ℕ) (es : List Entry) (x : Numbers) (next : Entry → Result) : Type 0 where
  pub it : Entry
  pub says : Says n es x it
  pub goes : (next it).number ≡ 0

pub said : (n : ℕ) (es : List Entry) (at : ℕ) (x : Numbers) (next : Entry → Result) → (on_entry n es at x next).number ≡ 0 → Said n es x next
unfolding with_numbers
said n es at none next h = absurd (omega arith)
said n es at (three i j v) next h =
    let a = no_fault 15 at (too_large i j v) _ refl h in
    let b = no_fault 14 at (not (in_triangle n i j)) _ refl a.1 in
    let c = no_fault 13 at (given i j es) _ refl b.1 in
    let d = no_fault 3 at (zero_divisor (entry i j v)) _ refl c.1 in
    record {
      it = entry i j v;
      says = record { numbers = refl; small = a.0; inside = not-false (in_triangle n i j) b.0; new = c.0; divides = d.0 };
      goes = d.1;
    }

-- Two entries, said one after the other, may be said the other way round.
module _ {n : ℕ} {es : List Entry} {x y : Numbers} {d e : Entry} (first : Says n es x d) (second : Says n (d ∷ es) y e) where
  new-both : (is_at e.row e.column d ≡ false) × (given e.row e.column es ≡ false)
  unfolding given
  new-both = neither (is_at e.row e.column d) (given e.row e.column es) second.new

  apart : is_at d.row d.column e ≡ false
  apart =
      is_false (is_at d.row d.column e)
      (λ h. let q = at_is d.row d.column e h in true≢false (sym (is_at_lem e.row e.column d (sym q.0) (sym q.1)) ∙ new-both.0))

  new_still : given d.row d.column (e ∷ es) ≡ false
  unfolding given
  new_still = rw apart first.new

  now_first : Says n es y e
  now_first = record { numbers = second.numbers; small = second.small; inside = second.inside; new = new-both.1; divides = second.divides }

  now_second : Says n (e ∷ es) x d
  now_second = record { numbers = first.numbers; small = first.small; inside = first.inside; new = new_still; divides = first.divides }

  either_alike : Alike (e ∷ d ∷ es) (d ∷ e ∷ es)
  either_alike = exchanged_alike n e d es second.inside first.inside apart

-- ---- entry lines

-- The result is kept where the entries before them are alike, whatever the start.
entries_kept :
    (n m : ℕ) (es fs : List Entry) (at at' : ℕ) (ls : List (List ℕ)) → Alike es fs → Kept (entry_lines n m es at ls) (entry_lines n m fs at' ls)
unfolding entry_lines on_line
entries_kept n zero es fs at at' ls h =
    faulty-kept 11 at at' (not (is_end ls)) _ _ _ refl refl
    (faulty-kept 12 at at' (not (all_counted n es)) (not (all_counted n fs)) _ _ refl (ap not (counted_alike n es fs h))
    (λ _. ap found (sym (figures_alike n es fs h))))
  where
    found : Figures → Result
    found f = record { number = 0; place = 0; figures = f }
entries_kept n (suc m) es fs at at' [] h = λ e. absurd (omega arith)
entries_kept n (suc m) es fs at at' (l ∷ []) h = λ e. absurd (omega arith)
entries_kept n (suc m) es fs at at' (l ∷ k ∷ ls) h =
    entry_kept n at at' es fs (numbers_of l) _ _ h (λ e.
    entries_kept n m (e ∷ es) (e ∷ fs) (at + length l + 1) (at' + length l + 1) (k ∷ ls) (alike_more e es fs h))

-- Lines up to the end of a text that ends with a feed.
abbrev ended : List (List ℕ) → List (List ℕ)
ended ls = ls ++ ([] ∷ [])

-- They are not accepted where one is left over.
not_end : (l : List ℕ) (ls : List (List ℕ)) → is_end (l ∷ ended ls) ≡ false
unfolding is_end
not_end [] [] = refl
not_end [] (k ∷ ls) = refl
not_end (c ∷ cs) ls = refl

left_over : (n : ℕ) (es : List Entry) (at : ℕ) (l : List ℕ) (ls : List (List ℕ)) → (entry_lines n zero es at (l ∷ ended ls)).number ≡ 0 → ⊥
unfolding entry_lines
left_over n es at l ls h =
    true≢false (sym (not-false (is_end (l ∷ ended ls)) (no_fault 11 at (not (is_end (l ∷ ended ls))) _ refl h).0) ∙ not_end l ls)

-- One of them, and what comes after it.
abbrev after : ℕ → ℕ → List Entry → ℕ → List ℕ → List (List ℕ) → Entry → Result
after n m es at l ls e = entry_lines n m (e ∷ es) (at + length l + 1) (ended ls)

module _ (n m : ℕ) (es : List Entry) (at : ℕ) (l : List ℕ) (ls : List (List ℕ)) where
  entry-line : entry_lines n (suc m) es at (l ∷ ended ls) ≡ on_entry n es at (numbers_of l) (after n m es at l ls)
  unfolding entry_lines
  entry-line = line-there at l (ended ls) _ (omega (arith, length-append ls ([] ∷ [])))

  line-said : (entry_lines n (suc m) es at (l ∷ ended ls)).number ≡ 0 → Said n es (numbers_of l) (after n m es at l ls)
  line-said h = said n es at (numbers_of l) (after n m es at l ls) (rw entry-line at h)

  line-next : {e : Entry} → Says n es (numbers_of l) e → entry_lines n (suc m) es at (l ∷ ended ls) ≡ after n m es at l ls e
  line-next {e} s = entry-line ∙ says-next n es at (numbers_of l) (after n m es at l ls) e s

-- ---- entry lines in another order

-- Whatever the entries before them, the result of `ls` is kept with `ks` in their stead.
abbrev Same : List (List ℕ) → List (List ℕ) → Type 0
Same ls ks = (n m : ℕ) (es : List Entry) (at at' : ℕ) → Kept (entry_lines n m es at (ended ls)) (entry_lines n m es at' (ended ks))

same_more : (l : List ℕ) (ls ks : List (List ℕ)) → Same ls ks → Same (l ∷ ls) (l ∷ ks)
same_more l ls ks s n zero es at at' = λ h. absurd (left_over n es at l ls h)
same_more l ls ks s n (suc m) es at at' =
    rw (entry-line n m es at l ls, entry-line n m es at' l ks)
    (entry_kept n at at' es es (numbers_of l) _ _ (alike_self es) (λ e. s n m (e ∷ es) (at + length l + 1) (at' + length l + 1)))

same_exchanged : (k l : List ℕ) (ls : List (List ℕ)) → Same (k ∷ l ∷ ls) (l ∷ k ∷ ls)
same_exchanged k l ls n zero es at at' h = absurd (left_over n es at k (l ∷ ls) h)
same_exchanged k l ls n (suc zero) es at at' h =
    let p = line-said n 0 es at k (l ∷ ls) h in
    absurd (left_over n (p.it ∷ es) (at + length k + 1) l ls p.goes)
same_exchanged k l ls n (suc (suc m)) es at at' h =
    let p = line-said n (suc m) es at k (l ∷ ls) h in
    let q = line-said n m (p.it ∷ es) (at + length k + 1) l ls p.goes in
    two at' l k (now_first p.says q.says) (now_second p.says q.says)
    ∙ entries_kept n m (q.it ∷ p.it ∷ es) (p.it ∷ q.it ∷ es) _ _ (ended ls) (either_alike p.says q.says) q.goes
    ∙ sym (two at k l p.says q.says)
  where
    two : (at : ℕ) (k l : List ℕ) {d e : Entry} → Says n es (numbers_of k) d → Says n (d ∷ es) (numbers_of l) e
        → entry_lines n (suc (suc m)) es at (k ∷ l ∷ ended ls) ≡ entry_lines n m (e ∷ d ∷ es) (at + length k + 1 + length l + 1) (ended ls)
    two at k l {d} p q = line-next n (suc m) es at k (l ∷ ls) p ∙ line-next n m (d ∷ es) (at + length k + 1) l ls q

perm_same : {ls ks : List (List ℕ)} → Permᴰ ls ks → Same ls ks
perm_same Permᴰ.nil = λ n m es at at'. entries_kept n m es es at at' (ended []) (alike_self es)
perm_same (Permᴰ.cons {a = l} {l₁ = ls} {l₂ = ks} q p) = rw (← q) (same_more l ls ks (perm_same p))
perm_same (Permᴰ.swap {a = k} {b = l} {l = ls} p q) = rw (← p, ← q) (same_exchanged k l ls)
perm_same (Permᴰ.trans p q) = λ n m es at at' h.
    let s = perm_same p n m es at at h in
    perm_same q n m es at at' (ap (λ (r : Result). r.number) s ∙ h) ∙ s

-- ---- the size line

-- What the judge makes of its numbers; then it goes on.
abbrev on_size : ℕ → Numbers → (ℕ → ℕ → Result) → Result
on_size at x next = with_numbers at x (λ n b m. faulty 2 at (not (eqb n b)) (faulty 1 at (not (is_relation MOST n)) (next n m)))

size_line_lem :
    (at : ℕ) (l : List ℕ) (ls : List (List ℕ)) →
    is_comment l ≡ false →
    comments at (l ∷ ended ls) ≡ on_size at (numbers_of l) (λ n m. entry_lines n m [] (at + length l + 1) (ended ls))
unfolding comments size_line on_line
size_line_lem at l [] h = rw h
size_line_lem at l (k ∷ ls) h = rw h

size-kept : (at : ℕ) (x : Numbers) (f g : ℕ → ℕ → Result) → ((n m : ℕ) → Kept (f n m) (g n m)) → Kept (on_size at x f) (on_size at x g)
size-kept at x f g kept =
    numbers-kept at at x _ _ (λ n b m.
    faulty-kept 2 at at (not (eqb n b)) _ _ _ refl refl
    (faulty-kept 1 at at (not (is_relation MOST n)) _ _ _ refl refl
    (kept n m)))

-- ---- a text, and the same with its entry lines in another order

pub reordered :
    (T U size : List ℕ) (cs ls ks : List (List ℕ)) →
    split FEED T ≡ HEADING ∷ (cs ++ (size ∷ (ls ++ ([] ∷ [])))) →
    split FEED U ≡ HEADING ∷ (cs ++ (size ∷ (ks ++ ([] ∷ [])))) →
    Comments cs →
    is_comment size ≡ false →
    Permᴰ ls ks →
    (judged T).number ≡ 0 →
    judged U ≡ judged T
reordered T U size cs ls ks t u h c p ok =
    let start : ℕ = length HEADING + 1 + length_of cs in
    let next : ℕ = start + length size + 1 in
    let a = judged-after T size (ended ls) cs t h ∙ size_line_lem start size ls c in
    let b = judged-after U size (ended ks) cs u h ∙ size_line_lem start size ks c in
    b ∙ size-kept start (numbers_of size) _ _ (λ n m. perm_same p n m [] next next) (sym (ap (λ (r : Result). r.number) a) ∙ ok) ∙ sym a

-- ---- the lines of a text that is accepted

-- They end where the text does,
record Ended (ls : List (List ℕ)) : Type 0 where
  before : List (List ℕ)
  end : ls ≡ ended before

is_end_lem : (ls : List (List ℕ)) → is_end ls ≡ true → ls ≡ [] ∷ []
unfolding is_end
is_end_lem [] h = absurd (true≢false (sym h))
is_end_lem ([] ∷ []) h = refl
is_end_lem ([] ∷ l ∷ ls) h = absurd (true≢false (sym h))
is_end_lem ((c ∷ cs) ∷ ls) h = absurd (true≢false (sym h))

entries_ended : (n m : ℕ) (es : List Entry) (at : ℕ) (ls : List (List ℕ)) → (entry_lines n m es at ls).number ≡ 0 → Ended ls
unfolding entry_lines on_line
entries_ended n zero es at ls h =
    record { before = []; end = is_end_lem ls (not-false (is_end ls) (no_fault 11 at (not (is_end ls)) _ refl h).0) }
entries_ended n (suc m) es at [] h = absurd (omega arith)
entries_ended n (suc m) es at (l ∷ []) h = absurd (omega arith)
entries_ended n (suc m) es at (l ∷ k ∷ ls) h =
    let s = said n es at (numbers_of l) (λ e. entry_lines n m (e ∷ es) (at + length l + 1) (k ∷ ls)) h in
    let r = entries_ended n m (s.it ∷ es) (at + length l + 1) (k ∷ ls) s.goes in
    record { before = l ∷ r.before; end = ap (λ (ks : List (List ℕ)). l ∷ ks) r.end }

size-ended : (at : ℕ) (l k : List ℕ) (ls : List (List ℕ)) → (size_line at (l ∷ k ∷ ls)).number ≡ 0 → Ended (k ∷ ls)
unfolding size_line on_line with_numbers
size-ended at l k ls = by (numbers_of l)
  where
    by : (x : Numbers) → (on_size at x (λ n m. entry_lines n m [] (at + length l + 1) (k ∷ ls))).number ≡ 0 → Ended (k ∷ ls)
    by none h = absurd (omega arith)
    by (three n b m) h =
        let p = no_fault 15 at (too_large n b m) _ refl h in
        let q = no_fault 2 at (not (eqb n b)) _ refl p.1 in
        entries_ended n m [] (at + length l + 1) (k ∷ ls) (no_fault 1 at (not (is_relation MOST n)) _ refl q.1).1

-- after comments and a size line,
pub record Sized (rest : List (List ℕ)) : Type 0 where
  pub cs : List (List ℕ)
  pub size : List ℕ
  pub ls : List (List ℕ)
  pub lines : rest ≡ cs ++ (size ∷ (ls ++ ([] ∷ [])))
  pub notes : Comments cs
  pub no_note : is_comment size ≡ false

comments-sized : (at : ℕ) (rest : List (List ℕ)) → (comments at rest).number ≡ 0 → Sized rest
unfolding comments size_line on_line
comments-sized at [] h = absurd (omega arith)
comments-sized at (l ∷ []) h = absurd (omega arith)
comments-sized at (l ∷ k ∷ rest) h = by (is_comment l) refl h (comments-sized (at + length l + 1) (k ∷ rest))
  where
    by : (b : Bool) → is_comment l ≡ b
        → (cond b (comments (at + length l + 1) (k ∷ rest)) (size_line at (l ∷ k ∷ rest))).number ≡ 0
        → ((comments (at + length l + 1) (k ∷ rest)).number ≡ 0 → Sized (k ∷ rest))
        → Sized (l ∷ k ∷ rest)
    by true q g more =
        let r = more g in
        record {
          cs = l ∷ r.cs;
          size = r.size;
          ls = r.ls;
          lines = ap (λ (ks : List (List ℕ)). l ∷ ks) r.lines;
          notes = (q, r.notes);
          no_note = r.no_note;
        }
    by false q g more =
        let r = size-ended at l k rest g in
        record { cs = []; size = l; ls = r.before; lines = ap (λ (ks : List (List ℕ)). l ∷ ks) r.end; notes = tt; no_note = q }

-- which come after the heading.
pub record Lined (T : List ℕ) : Type 0 where
  pub rest : List (List ℕ)
  pub heading : split FEED T ≡ HEADING ∷ rest
  pub sized : Sized rest

pub accepted-lines : (T : List ℕ) → (judged T).number ≡ 0 → Lined T
unfolding judged first_line on_line
accepted-lines T = by (split FEED T) refl
  where
    by : (X : List (List ℕ)) → split FEED T ≡ X → (first_line X).number ≡ 0 → Lined T
    by [] q h = absurd (omega arith)
    by (l ∷ []) q h = absurd (omega arith)
    by (l ∷ k ∷ rest) q h =
        let a = no_fault 11 0 (not (same_list l HEADING)) _ refl h in
        record {
          rest = k ∷ rest;
          heading = q ∙ ap (λ (h : List ℕ). h ∷ k ∷ rest) (same_list_lem l HEADING (not-false (same_list l HEADING) a.0));
          sized = comments-sized (0 + length l + 1) (k ∷ rest) a.1;
        }
