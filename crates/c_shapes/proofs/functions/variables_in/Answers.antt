use Rattle.std.proofs.Common.{ap, ◌∙◌, ◌++◌, replicate, None}
use Rattle.c_tree.specs.Names.{body_shapes}
use Rattle.c_tree.specs.Statement.{body}
use Rattle.c_tree.proofs.StatementLaws.{block_is}
use Rattle.c_shapes.proofs.functions.variables_in.Goals as goal

pub returns : goal.returns
returns c =
    let counted = c.in_ok-push_parameters.ensures ∙ ap (λ xs. xs ++ replicate c.count_of.result None) c.new-shapes.ensures.items ∙ ap (λ n. replicate n None) c.count_of.ensures in
    rw block_is (c.in_ok-push_block.ensures ∙ ap (λ ps. c.push_parameters.new.shapes.items ++ body_shapes (body ps)) c.as_slice.ensures ∙ ap (λ xs. xs ++ body_shapes (body c.args.function.now.body.parts)) counted)
