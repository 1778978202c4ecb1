-- What the C call returns (document 01, "Numbers answered").
use Rattle.std.specs.Prelude.{ℕ, ◌+◌, cond, List, ◌≡◌, refl, eqb}
use Rattle.planner.specs.Plans.{Answer, refused_with, Result as Planned}

-- "It gets 1,000 plus the text's length, or the refusal number."
unfoldable pub returned : Answer → ℕ
returned a = cond (eqb a.number 0) (1000 + a.length) a.number

-- The number, and what stands in the room for the tree.
pub record Result : Type 0 where
  pub number : ℕ
  pub room : List ℕ

abbrev pub result_of : ℕ → List ℕ → Result
result_of number room = record { number = number; room = room }

unfoldable pub called : Planned → Result
called r = record { number = returned r.answer; room = r.room }

-- ---- computed: a tree of ten bytes, and a refusal

numbered : (returned (record { number = 0; place = 0; cost = 106; size = 86; length = 10 }) ≡ 1010) × (returned (refused_with 16 0) ≡ 16)
unfolding returned
numbered = (refl, refl)
