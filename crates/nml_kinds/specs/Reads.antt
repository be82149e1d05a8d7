-- A mode's value that isn't a bare name.
use Rattle.std.specs.Prelude.{◌≡◌, List, [], Some}
use Rattle.nml_tree.specs.Formula.{Formula}
use Rattle.nml_tree.specs.Inside.{inside, handed_on, inside_value}

-- it is read, and hands no place on
abbrev pub IsRead : Formula → Type 0
IsRead f = (handed_on (Some f) ≡ []) × (inside_value (Some f) ≡ inside f)
