-- The digits stand at the start of their room.
use Rattle.std.proofs.Common.{ℕ, ◌+◌, ◌≡◌, ◌++◌, ◌<◌, ◌^◌, List, length, take, drop, replicate, ap, ◌∙◌, arith}
use Rattle.std.proofs.Math.Seq.{take-append_seam}
use Rattle.std.proofs.lemmas.List.Edits.{sets, sets-eq}
use Rattle.numbers.specs.Texts.{decimal}
use Rattle.planner.proofs.Writing.{digits_64}
use Rattle.planner.proofs.reports.put_number.Goals as goal

front : (x : ℕ) (B : List ℕ) (end : ℕ) → x < 2 ^ 64 → B ≡ sets (replicate 20 0) 0 (decimal x) → end ≡ 0 + length (decimal x) → take end B ≡ decimal x
front x B end h b e =
    ap (take end) (b ∙ sets-eq (decimal x) (replicate 20 0) 0 (omega (arith, digits_64 x h)))
    ∙ ap (λ (k : ℕ). take k (decimal x ++ drop (0 + length (decimal x)) (replicate 20 0))) (omega (arith, e))
    ∙ take-append_seam (decimal x) _

pub slice_bounds-put-end : goal.slice_bounds-put-end
slice_bounds-put-end c = omega (arith, c.put_decimal-end.ensures.end, ap length (front c.args.x _ _ (omega arith) c.put_decimal-end.ensures.written c.put_decimal-end.ensures.end))

pub returns : goal.returns
returns c = c.put.ensures ∙ ap (λ (t : List ℕ). c.args.out.now.items ++ t) (front c.args.x _ _ (omega arith) c.put_decimal-end.ensures.written c.put_decimal-end.ensures.end)
