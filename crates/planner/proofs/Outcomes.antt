-- What is answered after the fill of figures that were read is what document 01 asks for, in its order.
use Prim.Native.Nat.{ℕ, zero, suc, ◌^◌, ◌≤◌, ◌<◌}
use native.Mathlib.Decide.{dec_lt}
use native.Mathlib.Omega.{arith}
use mathlib.Core.Bool.{Bool, true, false, cond, ◌||◌}
use mathlib.Core.List.{List}
use mathlib.Core.Logic.{◌⊎◌, inl, inr}
use mathlib.Core.Path.{◌≡◌, refl, sym, ap, ◌∙◌, subst}
use lib.Dec.{eqb, leb, ltb}
use lib.ListN.{length, get_or}
use borrow.Author.Tests.{eq-eqb, ne_eqb, lt-ltb, le-ltb}
use Rattle.relations.specs.Sets.{MOST, all_of, first}
use Rattle.relations.proofs.Named.{all-some, relation_is}
use Rattle.charges.specs.Charges.{priced}
use Rattle.figures.specs.Judge.{Result as Judgement, judged}
use Rattle.figures.specs.Written.{Proper}
use Rattle.figures.specs.declared.Figures.{Figures}
use Rattle.table.specs.Requests.{fill}
use Rattle.table.specs.Results.{Call, in_order, refusal as fill_refusal, job_of, mended, worked, result, Result as Filled}
use Rattle.table.specs.Rule.{NONE}
use Rattle.table.specs.Tables.{row_at}
use Rattle.table.proofs.Demand2.{optimal}
use Rattle.table.proofs.Reasoning.{by_test}
use Rattle.table.proofs.Refusals.{first_zero, first_found, result-done, result-refused}
use Rattle.newick.specs.Results.{short_column, unprinted, printed, unwritten}
use Rattle.newick.specs.Shows.{ShowsPlan}
use Rattle.newick.specs.Texts.{needed}
use Rattle.newick.proofs.Refusals.{printed-refused}
use Rattle.newick.proofs.Shown.{filled-room, fill_shows}
use Rattle.planner.specs.Plans.{FEW, call_of, filled, tree_of, unfit, refusal, Result, number_of, refused, written, outcome, planned}
use Rattle.planner.specs.declared.answers.Refusal.{Refusal}
use Rattle.planner.specs.declared.answers.Refusal.TheVariants.{File, Many, UnknownModel, HighLimit, ShortText, NoPlan}
use Rattle.figures.proofs.Accepted.{number_pos as file_pos}
use Rattle.planner.specs.Inner.{accepted, shown, after_fill, is_due}
use Rattle.planner.proofs.Fit.{bad_terms, fill_refuses, not_seven, terms_due}

-- ---- refusals

-- A refusal has a number.
pub number_pos : (why : Refusal) → 0 < number_of why
number_pos (File fault) = file_pos fault.why
number_pos Many = omega arith
number_pos UnknownModel = omega arith
number_pos HighLimit = omega arith
number_pos ShortText = omega arith
number_pos NoPlan = omega arith

-- ---- the result, of a call that is accepted and of one that is refused

module _ (j : Judgement) (model limit : ℕ) (room : List ℕ) where
  pub outcome-done : refusal j model limit (length room) ≡ 0 → outcome j model limit room ≡ written (filled j.figures model limit) (tree_of j.figures model limit) room
  unfolding outcome
  outcome-done e = rw (eq-eqb _ 0 e)

  pub outcome-refused : (k : ℕ) → refusal j model limit (length room) ≡ k → 0 < k → outcome j model limit room ≡ refused k j.place room
  unfolding outcome
  outcome-refused k e h = rw (e, ne_eqb k 0 (omega arith))

  -- The number answered is that of the refusal, if there is one.
  pub outcome-number : (outcome j model limit room).answer.number ≡ refusal j model limit (length room)
  outcome-number = by (refusal j model limit (length room)) refl
    where
      by : (k : ℕ) → refusal j model limit (length room) ≡ k → (outcome j model limit room).answer.number ≡ refusal j model limit (length room)
      by zero e = ap (λ (r : Result). r.answer.number) (outcome-done e) ∙ sym e
      by (suc k) e = ap (λ (r : Result). r.answer.number) (outcome-refused (suc k) e (omega arith)) ∙ sym e

  -- "More than 11 relations."
  pub too_many : j.number ≡ 0 → FEW < j.figures.n → outcome j model limit room ≡ refused 16 j.place room
  unfolding refusal unfit in_order first
  too_many e h = outcome-refused 16 (rw (e, lt-ltb FEW j.figures.n h)) (omega arith)

  -- What the reader refuses.
  unread : (k : ℕ) → k ≡ j.number → 0 < k → outcome j model limit room ≡ refused k j.place room
  unfolding refusal unfit in_order
  unread k e h = outcome-refused k (sym (first_found _ _ k (first_found _ _ k e h) h)) h

pub read-refused : (text : List ℕ) (model limit : ℕ) (room : List ℕ) (k at : ℕ) → k ≡ (judged text).number → 0 < k → at ≡ (judged text).place
    → refused k at room ≡ planned text model limit room
unfolding planned
read-refused text model limit room k at e h p =
    ap (λ (x : ℕ). refused k x room) p ∙ sym (unread (judged text) model limit room k e h)

-- ---- after print

-- What print refuses is answered with nothing else.
pub shown-refused : (cost size k : ℕ) (room : List ℕ) → 0 < k → shown cost size (unwritten room k) ≡ refused k 0 room
shown-refused cost size k room h = rw (ne_eqb k 0 (omega arith))

-- ---- after the fill

module _ (f : Figures) (ok : Proper f) (few : f.n ≤ FEW) (model limit : ℕ) where
  abbrev call : Call
  call = call_of f model limit

  -- The order, with the reader and the number of relations behind.
  unfit_is : (room : ℕ) → unfit (accepted f) model limit room
      ≡ first (priced model 0 0 0).number (first (cond (leb limit (2 ^ 60)) 0 5) (first (cond (ltb room (needed f.n)) 9 0) 0))
  unfolding unfit in_order first
  unfit_is room = rw (le-ltb FEW f.n few)

  -- A model or a limit that the fill refuses.
  first-kept : (k x : ℕ) (b : Bool) (y : ℕ) → first k (cond b 0 5) ≡ suc x → first k (first (cond b 0 5) y) ≡ suc x
  unfolding first
  first-kept zero x true y e = absurd (omega arith)
  first-kept zero x false y e = e
  first-kept (suc k) x b y e = e

  terms-first : (k : ℕ) (room : List ℕ) → bad_terms model limit ≡ suc k → refusal (accepted f) model limit (length room) ≡ suc k
  unfolding refusal first
  terms-first k room e = rw (unfit_is (length room) ∙ first-kept (priced model 0 0 0).number k (leb limit (2 ^ 60)) _ e)

  terms_refused : (k : ℕ) (room : List ℕ) → bad_terms model limit ≡ suc k → after_fill (filled f model limit) f.n room ≡ outcome (accepted f) model limit room
  unfolding after_fill filled
  terms_refused k room e =
      let r = fill_refuses f model limit ok few ∙ e in
      let seven : eqb (suc k) 7 ≡ false = ne_eqb (suc k) 7 (λ h. not_seven model limit (e ∙ h)) in
      rw (result-refused fill call (suc k) r (omega arith), ne_eqb (suc k) 0 (omega arith), seven)
      (sym (outcome-refused (accepted f) model limit room (suc k) (terms-first k room e) (omega arith)))

  -- Where it refuses neither.
  module _ (e : bad_terms model limit ≡ 0) (room : List ℕ) where
    done : fill_refusal fill call ≡ 0
    done = fill_refuses f model limit ok few ∙ e

    filled_is : filled f model limit ≡ worked fill call
    unfolding filled
    filled_is = result-done fill call done

    -- Only the room is judged before 7.
    only-room : unfit (accepted f) model limit (length room) ≡ cond (ltb (length room) (needed f.n)) 9 0
    unfolding first
    only-room =
        let z = first_zero (priced model 0 0 0).number (cond (leb limit (2 ^ 60)) 0 5) e in
        unfit_is (length room) ∙ rw (z.0, z.1) (by_test (ltb (length room) (needed f.n)) (λ t. rw t) (λ t. rw t))

    refusal_is : (k : ℕ) → (worked fill call).answer.number ≡ k
        → refusal (accepted f) model limit (length room) ≡ first (cond (ltb (length room) (needed f.n)) 9 0) k
    unfolding refusal
    refusal_is k z = rw (only-room, filled_is, z)

    -- Where the fill answers 0 or 7, print is asked.
    after-shown : (eqb (worked fill call).answer.number 0 || eqb (worked fill call).answer.number 7) ≡ true
        → after_fill (filled f model limit) f.n room ≡ shown (worked fill call).answer.cost (worked fill call).answer.size
        (printed f.n (mended fill call).costs (mended fill call).lefts room)
    unfolding after_fill
    after-shown h = rw (filled_is, h)

    -- What print refuses then is what is refused.
    print_refuses : (k : ℕ) → 0 < k → (eqb (worked fill call).answer.number 0 || eqb (worked fill call).answer.number 7) ≡ true
        → printed f.n (mended fill call).costs (mended fill call).lefts room ≡ unwritten room k
        → refusal (accepted f) model limit (length room) ≡ k
        → after_fill (filled f model limit) f.n room ≡ outcome (accepted f) model limit room
    print_refuses k p h u r =
        after-shown h
        ∙ ap (shown (worked fill call).answer.cost (worked fill call).answer.size) u
        ∙ shown-refused _ _ k room p
        ∙ sym (outcome-refused (accepted f) model limit room k r p)

    -- A table without a plan: print answers 9 or 7.
    no_plan_lem : (worked fill call).answer.number ≡ 7 → unprinted f.n (mended fill call).costs (mended fill call).lefts (length room)
        ≡ first (cond (ltb (length room) (needed f.n)) 9 0) 7
    unfolding call_of job_of unprinted in_order first short_column row_at
    no_plan_lem z =
        let all = all-some f.n ok.some ok.few in
        let o = optimal call done in
        let none : get_or (mended fill call).costs (all_of f.n) 0 ≡ NONE = (o.rows (all_of f.n) all.0 all.1).none.1 (o.none.0 z) in
        let rows = filled-room call done in
        rw (relation_is MOST f.n ok.some ok.few, le-ltb _ _ rows.costs, le-ltb _ _ rows.lefts, none)
        (by_test (ltb (length room) (needed f.n)) (λ t. rw t) (λ t. rw t))

    after_none : (worked fill call).answer.number ≡ 7 → after_fill (filled f model limit) f.n room ≡ outcome (accepted f) model limit room
    unfolding first
    after_none z =
        let k = first (cond (ltb (length room) (needed f.n)) 9 0) 7 in
        print_refuses k (some (ltb (length room) (needed f.n))) (rw z) (printed-refused _ _ _ room k (sym (no_plan_lem z)) (some (ltb (length room) (needed f.n))))
        (refusal_is 7 z)
      where
        some : (b : Bool) → 0 < first (cond b 9 0) 7
        some true = omega arith
        some false = omega arith

    after-plan : (worked fill call).answer.number ≡ 0 → after_fill (filled f model limit) f.n room ≡ outcome (accepted f) model limit room
    unfolding call_of tree_of first
    after-plan z = by (dec_lt (length room) (needed f.n))
      where
        is_zero : (result fill call).answer.number ≡ 0
        is_zero = ap (λ (r : Filled). r.answer.number) (result-done fill call done) ∙ z

        shows : ShowsPlan f.n (worked fill call) room
        shows = subst (λ (r : Filled). ShowsPlan f.n r room) (result-done fill call done) (fill_shows call done is_zero room)

        by : Dec (length room < needed f.n) → after_fill (filled f model limit) f.n room ≡ outcome (accepted f) model limit room
        by (yes l) =
            print_refuses 9 (omega arith) (rw z) (shows.short l) (refusal_is 0 z ∙ rw (lt-ltb (length room) (needed f.n) l))
        by (no l) =
            after-shown (rw z)
            ∙ ap (shown (worked fill call).answer.cost (worked fill call).answer.size) (shows.shown (omega arith))
            ∙ sym (outcome-done (accepted f) model limit room (refusal_is 0 z ∙ rw (le-ltb (length room) (needed f.n) (omega arith))) ∙ rw filled_is)

  pub after_fill_lem : (room : List ℕ) → after_fill (filled f model limit) f.n room ≡ outcome (accepted f) model limit room
  after_fill_lem room = by (bad_terms model limit) refl
    where
      either : (e : bad_terms model limit ≡ 0) → ((worked fill call).answer.number ≡ 0) ⊎ ((worked fill call).answer.number ≡ 7)
          → after_fill (filled f model limit) f.n room ≡ outcome (accepted f) model limit room
      either e (inl z) = after-plan e room z
      either e (inr z) = after_none e room z

      by : (k : ℕ) → bad_terms model limit ≡ k → after_fill (filled f model limit) f.n room ≡ outcome (accepted f) model limit room
      by zero e = either e (optimal call (done e room)).either
      by (suc k) e = terms_refused k room e

  -- It is a plan, 4, 5, 9 or 7.
  pub outcome-due : (room : List ℕ) → is_due (outcome (accepted f) model limit room).answer.number ≡ true
  unfolding first
  outcome-due room = rw (outcome-number (accepted f) model limit room) (by (bad_terms model limit) refl)
    where
      no-room : (b : Bool) → (is_due (first (cond b 9 0) 0) ≡ true) × (is_due (first (cond b 9 0) 7) ≡ true)
      no-room true = (refl, refl)
      no-room false = (refl, refl)

      either : (e : bad_terms model limit ≡ 0) → ((worked fill call).answer.number ≡ 0) ⊎ ((worked fill call).answer.number ≡ 7)
          → is_due (refusal (accepted f) model limit (length room)) ≡ true
      either e (inl z) = rw (refusal_is e room 0 z) (no-room (ltb (length room) (needed f.n))).0
      either e (inr z) = rw (refusal_is e room 7 z) (no-room (ltb (length room) (needed f.n))).1

      by : (k : ℕ) → bad_terms model limit ≡ k → is_due (refusal (accepted f) model limit (length room)) ≡ true
      by zero e = either e (optimal call (done e room)).either
      by (suc k) e = rw (terms-first k room e, ← e) (terms_due model limit)
