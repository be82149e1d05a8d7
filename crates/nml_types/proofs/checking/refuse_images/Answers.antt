use Rattle.nml_shape.specs.First.{HaveWord}
use Rattle.nml_types.proofs.Checks.{first_images, found_pair}
use Rattle.nml_types.proofs.checking.refuse_images.Goals as goal

pub same_image-requires : goal.same_image-requires
same_image-requires c =
    first_images c.args.d.now c.args.all.now _ _ _ _ c.requires (found_pair HaveWord c.args.all.now _ _ _ c.in_ok-first_image_pair.ensures c.in-Some.is)
    c.shape_at.ensures c.shape_at-in-Some.ensures
