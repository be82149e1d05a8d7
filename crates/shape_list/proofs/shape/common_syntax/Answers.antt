use Rattle.std.proofs.Common.{ap, length, ◌∙◌}
use Rattle.shape_list.proofs.Shaped.{root_drawn}
use Rattle.shape_list.proofs.shape.common_syntax.Goals as goal

pub returns : goal.returns
returns c x root same =
    (root_drawn c.args.names.now _ _ _ c.in_ok-sketch.sketch _ c.requires.free (c.in_ok-root.ensures ∙ c.as_slice.ensures) (ap length c.items.ensures) c.in_ok-sketch.ensures x root same).syntax_is
