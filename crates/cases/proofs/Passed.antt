-- Every listed case of document 01 passes by the definitions.
use mathlib.Core.Path.{◌≡◌, refl}
use mathlib.Core.Bool.{true}
use Rattle.cases.specs.Cases.{all_pass, cases}

pub passed : all_pass cases ≡ true
unfolding all_pass cases
passed = refl
