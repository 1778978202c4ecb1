-- Each public contract determines its number and what it leaves in all memory lent.
use Prim.Native.Nat.{ℕ}
use mathlib.Core.List.{List}
use mathlib.Core.Path.{sym, ap, ◌∙◌}
use Rattle.numbers.specs.Determined.{DeterminedWith}
use Rattle.table.specs.Tables.{Table, columns}
use Rattle.table.specs.Results.{Result}
use Rattle.newick.specs.Results.{Result as PrintResult}
use Rattle.figures.specs.Judge.{Result as ReadResult}
use Rattle.exports.proofs.buffermoss_test_fill.Reads as Fill
use Rattle.exports.proofs.buffermoss_test_edit_count.Reads as EditCount
use Rattle.exports.proofs.buffermoss_test_edit_pair.Reads as EditPair
use Rattle.exports.proofs.buffermoss_test_print.Reads as Print
use Rattle.exports.proofs.buffermoss_test_read.Reads as Read

-- A fill leaves the columns, the cost and the size.
fill_determined : DeterminedWith {L = Table × ℕ × ℕ} Fill.Post
    (λ x. (
      columns x.1.1.1.1.1.0.now x.1.1.1.1.1.1.0.now x.1.1.1.1.1.1.1.0.now,
      x.1.1.1.1.1.1.1.1.0.now,
      x.1.1.1.1.1.1.1.1.1.0.now,
    ))
fill_determined k a x y r q p s =
    let e = p ∙ sym s in
    (ap (λ (z : Result). z.answer.number) e, ap (λ (z : Result). (z.table, z.answer.cost, z.answer.size)) e)

-- An edit of a count leaves the counts, too, an edit of a pair the divisors.
count_determined : DeterminedWith {L = List ℕ × Table × ℕ × ℕ} EditCount.Post
    (λ x. (
      x.1.0.now,
      columns x.1.1.1.1.1.0.now x.1.1.1.1.1.1.0.now x.1.1.1.1.1.1.1.0.now,
      x.1.1.1.1.1.1.1.1.1.1.0.now,
      x.1.1.1.1.1.1.1.1.1.1.1.0.now,
    ))
count_determined k a x y r q p s =
    let e = p ∙ sym s in
    (ap (λ (z : Result). z.answer.number) e, ap (λ (z : Result). (z.figures.counts, z.table, z.answer.cost, z.answer.size)) e)

pair_determined : DeterminedWith {L = List ℕ × Table × ℕ × ℕ} EditPair.Post
    (λ x. (
      x.1.1.0.now,
      columns x.1.1.1.1.1.0.now x.1.1.1.1.1.1.0.now x.1.1.1.1.1.1.1.0.now,
      x.1.1.1.1.1.1.1.1.1.1.1.0.now,
      x.1.1.1.1.1.1.1.1.1.1.1.1.0.now,
    ))
pair_determined k a x y r q p s =
    let e = p ∙ sym s in
    (ap (λ (z : Result). z.answer.number) e, ap (λ (z : Result). (z.figures.divisors, z.table, z.answer.cost, z.answer.size)) e)

-- Print leaves the room and the length.
print_determined : DeterminedWith {L = List ℕ × ℕ} Print.Post (λ x. (x.1.1.1.0.now, x.1.1.1.1.0.now))
print_determined k a x y r q p s =
    let e = p ∙ sym s in
    (ap (λ (z : PrintResult). z.answer.number) e, ap (λ (z : PrintResult). (z.room, z.answer.length)) e)

-- Read leaves the place and the figures.
read_determined : DeterminedWith {L = ℕ × ℕ × List ℕ × List ℕ} Read.Post
    (λ x. (x.1.0.now, x.1.1.0.now, x.1.1.1.0.now, x.1.1.1.1.0.now))
read_determined k a x y r q p s =
    let e = p ∙ sym s in
    (ap (λ (z : ReadResult). z.number) e, ap (λ (z : ReadResult). (z.place, z.figures.n, z.figures.counts, z.figures.divisors)) e)
