-- What is declared of a function is a matter of its text alone.
use Rattle.std.proofs.Common.{◌≡◌, ap, refl, List, [], ◌∷◌, map}
use Rattle.c_tree.specs.Items.{Item, Variables, Defines}
use Rattle.c_tree.specs.Names.{Names, behind_global}
use Rattle.c_tree.specs.Resolve.{resolved_functions}
use Rattle.c_shapes.specs.Shapes.{declared, outlined, outlines}

-- whatever names mean before
pub outlines_are : (s : Names) (gs : List Item) → outlines gs ≡ map declared (resolved_functions s gs)
outlines_are s [] = refl
outlines_are s (Variables v ∷ gs) = outlines_are (behind_global s (Variables v)) gs
outlines_are s (Defines f ∷ gs) = ap (λ fs. outlined f ∷ fs) (outlines_are (behind_global s (Defines f)) gs)
