use Rattle.std.proofs.Common.{◌++◌}
use Rattle.nml_tree.specs.Block.{action_block}
use Rattle.nml_tree.specs.Directives.{Syntax, Image, is_right}
use Rattle.nml_worth.specs.Around.{around}
use Rattle.nml_kinds.specs.Statements.{text_kinds, block_kinds}
use Rattle.nml_kinds.proofs.Expressions.{two_noted}
use Rattle.nml_kinds.proofs.rule.attributes.Goals as goal

pub returns-clause-kind : goal.returns-clause-kind
returns-clause-kind c =
    let s = around c.args.s.now in
    let a = c.args.a.now in
    let x = text_kinds (is_right Syntax s.pars a.syntax_text) a.syntax_text in
    let i = text_kinds (is_right Image s.pars a.image_text) a.image_text in
    two_noted (x ++ i) (block_kinds s (action_block a.action)) c.args.found.kind c.text-kind-2.result c.action.result.kind
    (two_noted x i c.args.found.kind c.text-kind.result c.text-kind-2.result (rw c.requires at c.text-kind.ensures) (rw c.requires at c.text-kind-2.ensures))
    c.action.ensures.kind
