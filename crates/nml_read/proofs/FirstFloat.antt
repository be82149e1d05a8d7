-- The first place of a list, from the first place of a part that stands in front.
use Rattle.std.proofs.Common.{◌≡◌, ℕ, List, ◌++◌, ap, ◌∙◌}
use Rattle.std.specs.Prelude.{Some}
use Rattle.nml_grammar.specs.Trees.{IsFirst}

-- the first place of the front is the first of the whole
pub first_of_front : (whole front back : List ℕ) (at : ℕ) → whole ≡ front ++ back → IsFirst front (Some at) → IsFirst whole (Some at)
first_of_front whole front back at is first = (first.0 ++ back, is ∙ ap (λ places. places ++ back) first.1)
