use Rattle.std.proofs.Common.{◌≡◌, ◌<◌, ◌^◌, map, drop}
use Rattle.nml_tree.specs.Attribute.{number_behind, number_of}
use Rattle.nml_tree.specs.Outline as outline
use Rattle.shape_list.specs.Drawn.{bit_of}
use Rattle.shape_list.proofs.fixed.fixed_bits.Given as goal

abbrev pub invariant-loop-g : goal.invariant-loop-g
invariant-loop-g l =
    (number_behind l.mask (map outline.is_fixed (map bit_of (drop l.g-index l.image))) ≡ number_of (map outline.is_fixed (map bit_of l.image)))
    × (number_behind l.value (map outline.fixed_bit (map bit_of (drop l.g-index l.image))) ≡ number_of (map outline.fixed_bit (map bit_of l.image)))
    × (l.mask < 2 ^ l.g-index)
    × (l.value < 2 ^ l.g-index)
