use Rattle.std.proofs.Common.{◌∙◌, ap, map, []}
use Rattle.nml_tree.specs.Attribute.{number_of}
use Rattle.nml_tree.specs.Outline as outline
use Rattle.nml_tree.specs.Outline.{template_behind}
use Rattle.shape_list.specs.Drawn.{bit_of, flat_of}
use Rattle.shape_list.specs.Fixed.{fields_at}
use Rattle.shape_list.proofs.Shaped.{shape_is}
use Rattle.shape_list.proofs.shape.shape_of.Goals as goal

pub returns-clause-shape : goal.returns-clause-shape
returns-clause-shape c = λ x draws same.
    let image = c.as_slice-image.ensures.value in
    shape_is x _ c.args.sketch.now draws (c.in_ok-from_slice.ensures.items ∙ same)
    (c.fixed_bits-bits.ensures.mask ∙ ap (λ gs. number_of (map outline.is_fixed (map bit_of gs))) image)
    (c.fixed_bits-bits.ensures.value ∙ ap (λ gs. number_of (map outline.fixed_bit (map bit_of gs))) image)
    (c.in_ok-places.ensures ∙ ap (λ gs. fields_at gs 0 c.as_slice.result.now) image ∙ ap (fields_at c.args.sketch.now.image.items 0) c.as_slice.ensures.value)
    (c.in_ok-template.ensures ∙ ap (λ gs. template_behind [] (map flat_of gs)) c.as_slice-2.ensures.value)
