use Rattle.std.proofs.Common.{◌∙◌, ap, replicate, refl}
use Rattle.shape_list.specs.declared.text.Glyph.TheVariants as glyph
use Rattle.shape_list.proofs.Fillings.{field_added}
use Rattle.shape_list.proofs.sketch.push_field.Goals as goal

pub returns : goal.returns
returns c =
    field_added _ _ c.args.ty c.args.name.now c.args.number _ _ c.in_ok-push.ensures.items c.in_ok-push-2.ensures.items c.in_ok-push-3.ensures.items refl refl
    (c.in_ok-image.ensures ∙ ap (λ n. replicate n (glyph.Field c.args.number)) c.width.ensures) c.in_ok-text.ensures
