-- What the three entry points share: a refusal, the work, and the demands that follow from the result.
use Rattle.std.proofs.Common.{◌≡◌, ℕ, zero, suc, ◌^◌, ◌<◌, ◌≤◌, Bool, true, false, length, sym, refl, ◌∙◌, subst, ap, arith, le-leb}
use Rattle.std.proofs.lemmas.Result.{err_from_is_err_and}
use Rattle.std.specs.Prelude.{Result as Outcome, IsErrAnd}
use mathlib.Core.Bool.{and-true}
use Rattle.relations.proofs.Named.{is_relation_lem}
use Rattle.relations.specs.Sets.{MOST, EMPTY, mem, one_of, all_of, inside}
use Rattle.relations.specs.Pairs.{place}
use Rattle.relations.proofs.Places.{place-below}
use Rattle.relations.proofs.Parts.{part_none, part-inside, inside-weight}
use Rattle.table.specs.Figures.{Figures}
use Rattle.table.specs.Tables.{Table, row_at, Room, mend_to}
use Rattle.table.specs.Requests.{Request, fill, edit_count, edit_pair, change, touches, new_divisor, names}
use Rattle.table.specs.Results.{Call, unfit, refusal, mended, job_of, Answer, number_of, answer, planned, Result, untouched, result}
use Rattle.table.specs.Demands.{changed, Demand2, Demand3, Keeps, Optimal}
use Rattle.table.specs.Inner.{holding, fold, folded}
use Rattle.table.specs.declared.Plan.{Plan}
use Rattle.table.specs.declared.Refusal.{Refusal}
use Rattle.table.specs.declared.rows.Row.{Row}
use Rattle.table.proofs.Mending.{mend_room}
use Rattle.table.proofs.Refusals.{first_past, first_found, number_pos, Accepted, fit, is_accepted, result-done, result-refused, is_pair_lem}
use Rattle.table.proofs.Demand2.{optimal}
use Rattle.table.proofs.Demand3.{demand_3, keeps}

-- ---- refusals

-- A check that finds a refusal ends the call, and its `?` answers that refusal.
pub check_refuses : (q : Request) (c : Call) (r : Outcome Plan Refusal) (w : Refusal) → IsErrAnd r (λ v. v ≡ w)
    → number_of w ≡ unfit (new_divisor q) c → record { answer = answer r; figures = c.figures; table = c.table } ≡ result q c
unfolding refusal
check_refuses q c r w h e =
    let p = err_from_is_err_and r h in
    rw (p.1, p.2) (sym (result-refused q c (number_of w) (sym (first_found (unfit (new_divisor q) c) _ _ e (number_pos w))) (number_pos w)))

pub name_refuses : (q : Request) (c : Call) → 0 ≡ unfit (new_divisor q) c → names q c.n ≡ false → untouched c 8 ≡ result q c
unfolding refusal
name_refuses q c e f = sym (result-refused q c 8 (first_past _ _ (sym e) ∙ rw f) (omega arith))

pub accepts : (q : Request) (c : Call) → 0 ≡ unfit (new_divisor q) c → names q c.n ≡ true → Accepted q c
accepts q c e f = record { fit = fit (new_divisor q) c (sym e); names = f }

-- ---- the sets that the code mends are those that the request touches

mend_same : (rule : Table → ℕ → Row) (f g : ℕ → Bool) → ((S : ℕ) → f S ≡ g S) → (k : ℕ) (T : Table) → mend_to rule f k T ≡ mend_to rule g k T
unfolding mend_to
mend_same rule f g h zero T = refl
mend_same rule f g h (suc k) T = rw (h k, mend_same rule f g h k T)

inside-none : (S : ℕ) → inside EMPTY S ≡ true
inside-none S = part-inside EMPTY S (part_none S)

inside_one : (k a S : ℕ) → a ≡ one_of k → 1 ≤ k → k ≤ MOST → inside a S ≡ mem k S
unfolding one_of
inside_one k a S e h l = rw (e, le-leb k MOST l) (inside-weight k S h)

pub fill-holding : (S : ℕ) → holding EMPTY EMPTY S ≡ touches fill S
unfolding holding touches
fill-holding S = rw (inside-none S)

pub count-holding : (n k v a : ℕ) → n ≤ MOST → names (edit_count k v) n ≡ true → a ≡ one_of k
    → (S : ℕ) → holding a EMPTY S ≡ touches (edit_count k v) S
unfolding holding touches names
count-holding n k v a l h e S =
    let r = is_relation_lem n k h in
    rw (inside-none S, inside_one k a S e r.0 (omega (arith, r.1))) (and-true (mem k S))

pub pair_holding : (n i j v a b : ℕ) → n ≤ MOST → names (edit_pair i j v) n ≡ true → a ≡ one_of i → b ≡ one_of j
    → (S : ℕ) → holding a b S ≡ touches (edit_pair i j v) S
unfolding holding touches
pair_holding n i j v a b l h e f S =
    let p = is_pair_lem n i j v h in
    let x = is_relation_lem n i p.one in
    let y = is_relation_lem n j p.other in
    rw (inside_one i a S e x.0 (omega (arith, x.1)), inside_one j b S f y.0 (omega (arith, y.1)))

-- The place of the pair is there.
pub pair_there : (i j v : ℕ) (c : Call) → Accepted (edit_pair i j v) c → place i j < length c.figures.divisors
pair_there i j v c a =
    let p = is_pair_lem c.n i j v a.names in
    let x = is_relation_lem c.n i p.one in
    let y = is_relation_lem c.n j p.other in
    rw a.fit.divisors (place-below c.n i j x.0 y.0 p.two x.1 y.1)

-- ---- the work

-- The table that the fold leaves, with the answer of its full row.
pub folded_by : (f : ℕ → Bool) (c : Call) (T : Table) → T ≡ fold f c → (a : Answer) → a ≡ planned (row_at T (all_of c.n))
    → record { answer = a; figures = c.figures; table = T } ≡ folded f c
folded_by f c T e a p = rw (p, e)

-- The fold over the touched sets, with fig the changed figures, is the whole result.
pub work-done : (q : Request) (c : Call) (f : ℕ → Bool) → Accepted q c → ((S : ℕ) → f S ≡ touches q S)
    → (fig : Figures) → fig ≡ change q c.figures
    → folded f (record { n = c.n; figures = fig; model = c.model; limit = c.limit; table = c.table }) ≡ result q c
work-done q c f acc h fig g = rw g (ap done there) ∙ sym (result-done q c (is_accepted q c acc))
  where
    done : Table → Result
    done U = record { answer = planned (row_at U (all_of c.n)); figures = change q c.figures; table = U }

    there : fold f (changed q c) ≡ mended q c
    there = unfold mended job_of in mend_same _ f (touches q) h (2 ^ c.n) c.table

-- The columns stay long enough.
pub mended-room : (rule : Table → ℕ → Row) (f : ℕ → Bool) (k : ℕ) (T U : Table) {m : ℕ} → Room T m → U ≡ mend_to rule f k T → Room U m
mended-room rule f k T U r e = rw e (mend_room rule f k T r)

-- ---- the demands

pub fill_clauses : (c : Call) (r : Result) → r ≡ result fill c → record { result : r ≡ result fill c; demand_2 : Demand2 c r; keeps : Keeps fill c r }
fill_clauses c r e = record {
  result = e;
  demand_2 = λ h. subst (Optimal c) (sym (e ∙ result-done fill c h)) (optimal c h);
  keeps = subst (Keeps fill c) (sym e) (keeps fill c);
}

pub edit_clauses : (q : Request) (c : Call) (r : Result) → r ≡ result q c
    → record { result : r ≡ result q c; demand_3 : Demand3 q c r; keeps : Keeps q c r }
edit_clauses q c r e = record {
  result = e;
  demand_3 = subst (Demand3 q c) (sym e) (demand_3 q c);
  keeps = subst (Keeps q c) (sym e) (keeps q c);
}

-- An edit whose work is the fold over the sets that it touches.
pub edit_done : (q : Request) (c : Call) (f : ℕ → Bool) → Accepted q c → ((S : ℕ) → f S ≡ touches q S)
    → (fig : Figures) → fig ≡ change q c.figures
    → (r : Result) → r ≡ folded f (record { n = c.n; figures = fig; model = c.model; limit = c.limit; table = c.table })
    → record { result : r ≡ result q c; demand_3 : Demand3 q c r; keeps : Keeps q c r }
edit_done q c f a h fig g r e = edit_clauses q c r (e ∙ work-done q c f a h fig g)
