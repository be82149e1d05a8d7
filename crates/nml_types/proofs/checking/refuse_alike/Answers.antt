use Rattle.std.proofs.Common.{List, subst, ◌∙◌, sym}
use Rattle.nml_shape.specs.declared.shape.Shape.{Shape}
use Rattle.nml_shape.specs.First.{HasNoPair, HaveWord}
use Rattle.nml_types.proofs.Checks.{checked_or}
use Rattle.nml_types.proofs.checking.refuse_alike.Goals as goal

pub refuse_tokens-requires-clause-images : goal.refuse_tokens-requires-clause-images
refuse_tokens-requires-clause-images c =
    subst (λ (all : List Shape). HasNoPair HaveWord all) (c.as_slice.ensures.value ∙ sym c.as_slice-2.ensures.value) c.in_ok-refuse_images.ensures

pub returns : goal.returns
returns c =
    checked_or c.args.d.now c.in_ok-all.all.items c.refuse_tokens.result c.in_ok-all.ensures (rw c.as_slice.ensures.value at c.in_ok-refuse_images.ensures)
    (rw c.as_slice-2.ensures.value at c.refuse_tokens.ensures)
