use Rattle.std.proofs.Common.{◌≡◌, drop}
use Rattle.std.specs.Prelude.{flat_map}
use Rattle.nml_tree.specs.Floats.{float_place, float_places, item_types}
use Rattle.nml_read.proofs.float.first_float.Given as goal

-- what is left has the places of the whole
abbrev pub invariant-loop-item : goal.invariant-loop-item
invariant-loop-item l = flat_map float_place (flat_map item_types (drop l.item-index l.item-items)) ≡ float_places l.desc
