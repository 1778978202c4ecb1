-- Each way through one turn of the loop over the entry lines, and each way out of it after the last.
use Prim.Native.Nat.{ℕ, suc, ◌-◌, ◌≤◌, ◌<◌}
use native.Mathlib.Omega.{arith}
use mathlib.Core.Bool.{Bool, true, false, not, true≢false}
use mathlib.Core.List.{List, [], ◌∷◌}
use mathlib.Core.Path.{◌≡◌, refl, sym, ap, ◌∙◌}
use lib.ListN.{length, replicate, drop, length-drop, drop_of_length-le}
use Rattle.std.specs.Prelude.{Ok, Err}
use Rattle.numbers.proofs.Tests.{is_false}
use Rattle.relations.specs.Sets.{MOST}
use Rattle.figures.specs.Lines.{FEED, split}
use Rattle.figures.specs.Entries.{Entry, entry, in_triangle, zero_divisor, given, all_counted, figures_of}
use Rattle.figures.specs.Judge.{Result, result_of, accepted, refused, faulty, is_end, entry_lines}
use Rattle.figures.specs.Inner.{lines_at, LineRead, told, Going, Reads, with_entry, flag, all_seen}
use Rattle.figures.specs.declared.Figures.{Figures}
use Rattle.figures.specs.declared.Fault.{Fault}
use Rattle.figures.proofs.Collected.{triangle}
use Rattle.figures.proofs.Pieces.{joined, each_after, joined-split}
use Rattle.figures.proofs.Seen.{Seen, marked, none_seen, seen_given, more_seen, all-given}
use Rattle.figures.proofs.Stored.{entry-stored}

-- Before a line, where `left` are still to be read and w is what is answered for them all: the entries so far are those that are seen and
-- stored.
pub record Kept (text : List ℕ) (n left : ℕ) (seen : List (List Bool)) (figures : Figures) (at : ℕ) (w : Result) : Type 0 where
  pub few : n ≤ MOST
  pub es : List Entry
  pub same : entry_lines n left es at (lines_at text at) ≡ w
  pub marks : Seen seen es
  pub stored : figures ≡ figures_of n es

-- Before the first line.
pub first-kept : (text : List ℕ) (n m left at : ℕ) (figures : Figures) → n ≤ MOST → left ≡ m → figures ≡ figures_of n []
    → Kept text n left (replicate MOST (replicate MOST false)) figures at (entry_lines n m [] at (lines_at text at))
first-kept text n m left at figures l e f = record {
  few = l;
  es = [];
  same = ap (λ (k : ℕ). entry_lines n k [] at (lines_at text at)) e;
  marks = none_seen;
  stored = f;
}

-- ---- one line

-- What the reader of an entry line judges itself, and what is left to judge of its entry.
abbrev within : ℕ → ℕ → Going → Going
within n at go i j v next rest = faulty 14 at (not (in_triangle n i j)) (go i j v next rest)

abbrev on_entry : ℕ → ℕ → List Entry → ℕ → Going
on_entry n m es at i j v next rest =
    faulty 13 at (given i j es) (faulty 3 at (zero_divisor (entry i j v)) (entry_lines n m (entry i j v ∷ es) next rest))

module _ {text : List ℕ} {n m : ℕ} {seen : List (List Bool)} {figures : Figures} {at : ℕ} {w : Result}
    (h : Kept text n (suc m) seen figures at w) (x : LineRead) (reads : Reads text at x (within n at)) where
  judged-line : told x (λ i j v next. on_entry n m h.es at i j v next (lines_at text next)) ≡ w
  unfolding entry_lines
  judged-line = reads (on_entry n m h.es at) ∙ h.same

  -- A line that is refused is the answer.
  pub line_refused : {fault : Fault} → x ≡ Err fault → result_of (Err fault) ≡ w
  line_refused e = rw e at judged-line

  -- An entry, of which the place is in the triangle.
  module _ {i j v next : ℕ} (e : x ≡ Ok (i, j, v, next)) (t : in_triangle n i j ≡ true) where
    named : (1 ≤ j) × (j ≤ i) × (i ≤ MOST)
    named = let b = triangle n i j t in (b.0, b.1, omega (arith, h.few))

    judged-entry : on_entry n m h.es at i j v next (lines_at text next) ≡ w
    judged-entry = rw e at judged-line

    place_given_lem : (f : Bool) → flag seen (i - 1) (j - 1) ≡ f → given i j h.es ≡ f
    place_given_lem f g =
        let b = named in
        sym (seen_given seen h.es h.marks i j (omega arith) (omega arith) (omega arith) (omega arith)) ∙ g

    -- Its place was seen;
    pub twice : flag seen (i - 1) (j - 1) ≡ true → refused 13 at ≡ w
    twice f = rw (place_given_lem true f) at judged-entry

    -- or else it is a divisor of 0,
    pub no_divisor : flag seen (i - 1) (j - 1) ≡ false → zero_divisor (entry i j v) ≡ true → refused 3 at ≡ w
    no_divisor f z = rw (place_given_lem false f, z) at judged-entry

    -- or it is stored, and what is left is judged.
    pub next-kept : flag seen (i - 1) (j - 1) ≡ false → zero_divisor (entry i j v) ≡ false
        → Kept text n m (marked seen (i - 1) (j - 1)) (with_entry figures (entry i j v)) next w
    next-kept f z =
        let b = named in
        record {
          few = h.few;
          es = entry i j v ∷ h.es;
          same = rw (place_given_lem false f, z) at judged-entry;
          marks = more_seen seen h.es h.marks i j v (omega arith) (omega arith) (omega arith) (omega arith);
          stored = ap (λ (g : Figures). with_entry g (entry i j v)) h.stored ∙ entry-stored n i j v h.es h.few t;
        }

-- ---- after the last line

-- Nothing is left at the end of the text, and only there.
at-end : (text : List ℕ) (at : ℕ) → length text ≤ at → is_end (lines_at text at) ≡ true
unfolding is_end split
at-end text at h = rw (drop_of_length-le text h)

end-joined : (ls : List (List ℕ)) → is_end ls ≡ true → joined FEED ls ≡ []
unfolding is_end joined each_after
end-joined [] h = refl
end-joined ([] ∷ []) h = refl
end-joined ([] ∷ l ∷ ls) h = absurd (true≢false (sym h))
end-joined ((c ∷ cs) ∷ ls) h = absurd (true≢false (sym h))

not_end : (text : List ℕ) (at : ℕ) → at < length text → is_end (lines_at text at) ≡ false
not_end text at h = is_false (is_end (lines_at text at)) none
  where
    none : is_end (lines_at text at) ≡ true → ⊥
    none t =
        let e : drop at text ≡ [] = sym (joined-split FEED (drop at text)) ∙ end-joined (lines_at text at) t in
        omega (arith, ap length e, length-drop at text)

module _ {text : List ℕ} {n : ℕ} {seen : List (List Bool)} {figures : Figures} {at : ℕ} {w : Result}
    (h : Kept text n 0 seen figures at w) where
  judged-end : faulty 11 at (not (is_end (lines_at text at))) (faulty 12 at (not (all_counted n h.es)) (accepted n h.es)) ≡ w
  unfolding entry_lines
  judged-end = h.same

  counted : (f : Bool) → all_seen seen n ≡ f → all_counted n h.es ≡ f
  counted f g = sym (all-given seen h.es h.marks n h.few) ∙ g

  -- Bytes follow,
  pub bytes_follow : at < length text → refused 11 at ≡ w
  bytes_follow l = rw (not_end text at l) at judged-end

  -- or a count is missing,
  pub count_missing : length text ≤ at → all_seen seen n ≡ false → refused 12 at ≡ w
  count_missing l f = rw (at-end text at l, counted false f) at judged-end

  -- or the figures are answered.
  pub all_read : length text ≤ at → all_seen seen n ≡ true → record { number = 0; place = 0; figures = figures } ≡ w
  all_read l f = rw h.stored (rw (at-end text at l, counted true f) at judged-end)
