use Rattle.std.proofs.Common.{◌≡◌, ℕ, ◌+◌, ◌-◌, ◌*◌, ◌/◌, ◌≤◌, List, ◌++◌, length, take, drop, sym, ap, ◌∙◌}
use lib.ListN.{replicate}
use lib.Seq.{length-take-le}
use Rattle.relations.specs.Pairs.{place}
use Rattle.relations.specs.Sets.{MOST}
use Rattle.figures.proofs.Stored.{pairs_of, pairs-most, none-stored}
use Rattle.figures.proofs.entries.no_entries.Goals as goal

-- How many pairs there are: no more than divisors.
few : (n pairs : ℕ) → n ≤ MOST → pairs ≡ place 1 (n + 1) → pairs ≤ 105
few n pairs l e = rw (e ∙ pairs_of n) (pairs-most n l)

pub slice_bounds-divisors-end : goal.slice_bounds-divisors-end
slice_bounds-divisors-end c = few c.args.n _ c.requires c.place-pairs.ensures

pub slice_bounds-fill-end : goal.slice_bounds-fill-end
slice_bounds-fill-end c = sym (length-take-le c.place-pairs.result _ (few c.args.n _ c.requires c.place-pairs.ensures))

pub returns : goal.returns
returns c =
    let pairs : ℕ = c.place-pairs.result in
    let long : length (take pairs (replicate 105 0)) ≡ pairs = length-take-le pairs (replicate 105 0) (few c.args.n pairs c.requires c.place-pairs.ensures) in
    let new : c.fill.new.self ≡ replicate pairs 1 = c.fill.ensures.after (λ y h. h) ∙ ap (λ (k : ℕ). replicate k 1) long in
    let e : pairs ≡ c.args.n * (c.args.n - 1) / 2 = c.place-pairs.ensures ∙ pairs_of c.args.n in
    ap (λ (ds : List ℕ). record { n = c.args.n; counts = replicate 15 0; divisors = ds ++ drop pairs (replicate 105 0) }) new
    ∙ rw e (none-stored c.args.n c.requires)
