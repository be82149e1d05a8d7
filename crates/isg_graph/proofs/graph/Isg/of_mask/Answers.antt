use Rattle.std.proofs.Common.{subst, sym}
use Rattle.isg_lists.specs.Masks.{AreMasks, AreOfMask}
use Rattle.isg_graph.specs.Graph.{Graph}
use Rattle.isg_graph.proofs.graph.Isg.of_mask.Goals as goal

pub returns : goal.returns
returns c =
    let are : AreMasks c.args.self.now.shapes c.self.inside.masks = subst (λ (g : Graph). AreMasks g.shapes c.self.inside.masks) c.self.view_is c.self.invariant.1.masks_are in
    λ mask at. subst (AreOfMask c.args.self.now.shapes mask) (sym c.of_mask.ensures) (are.of_mask_are c.args.m mask at)
