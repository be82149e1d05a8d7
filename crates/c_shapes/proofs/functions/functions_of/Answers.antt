use Rattle.std.proofs.Common.{◌∙◌, ◌++◌, append-nil, sym, map}
use Rattle.std.proofs.lemmas.List.{at_drop_all}
use Rattle.c_tree.specs.Items.{item}
use Rattle.c_tree.specs.Names.{first_names}
use Rattle.c_shapes.specs.Shapes.{declared_shown, outlines}
use Rattle.c_shapes.proofs.Outlines.{outlines_are}
use Rattle.c_shapes.proofs.functions.functions_of.Goals as goal

pub returns : goal.returns
returns c =
    let read = map declared_shown c.loop-one.functions.items in
    let end = at_drop_all (λ ys. read ++ outlines (map item ys)) c.args.globals.now c.loop-one.one-index c.loop-one-test.false in
    sym (end ∙ append-nil read) ∙ c.loop-one.invariant ∙ outlines_are (first_names (map item c.args.globals.now)) (map item c.args.globals.now)
