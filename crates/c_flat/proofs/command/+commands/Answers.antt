use Rattle.std.proofs.Common.{ap, ◌∙◌}
use Rattle.c_tree.specs.Program.{Turn}
use Rattle.c_tree.specs.Statement.{body, statement, declaration}
use Rattle.c_tree.specs.Names.{inner, behind_statement, statement_shapes, declared_variables}
use Rattle.c_tree.specs.Resolve.{command, variables}
use Rattle.c_tree.proofs.StatementLaws.{block_is, statement-Block, statement-If_else}
use Rattle.c_names.specs.Shown.{names, outside}
use Rattle.c_walk.specs.Walk.{behind_body}
use Rattle.c_walk.proofs.Behind.{behind_braces, behind_both}
use Rattle.c_walk.proofs.Loops.{ok_of}
use Rattle.c_flat.specs.declared.chain.Chain.TheVariants as chain
use Rattle.c_flat.specs.declared.node.Node.TheVariants as node
use Rattle.c_flat.specs.Written.{OfCommand, as_command}
use Rattle.c_flat.proofs.Grown.{grew_over}
use Rattle.c_flat.proofs.Chained.{listed_more, listed_ok}
use Rattle.c_flat.proofs.Commands.{part_step, part_names, parts_end, decl_names, decl_step, stmt_names, stmt_step}
use Rattle.c_flat.proofs.command.+commands.Goals as goal
use Rattle.c_flat.proofs.command.+commands.Goals.{push_block-in-Decl+in_ok-inside-in-Decl+in_ok-number-in-Decl+in_ok-push-in-Decl, push_block-in-Stmt+in_ok-number-in-Stmt+in_ok-push-in-Stmt}

pub push_block-loop-one-preserved : goal.push_block-loop-one-preserved
push_block-loop-one-preserved t c = elim c.match-one.branch [
  | push_block-in-Decl+in_ok-inside-in-Decl+in_ok-number-in-Decl+in_ok-push-in-Decl w ↦
      rw (w.scopes-is, w.nodes-is, w.numbers-is) (
        part_names (names c.loop-one.scopes) (names w.push_locals.new.scopes) c.args.parts.now c.loop-one.one-index c.one-item.result c.loop-one-test.true c.one-item.is (decl_names (names c.loop-one.scopes) (names w.push_locals.new.scopes) w.in-Decl.decl c.one-item.result w.in-Decl.is w.in_ok-inside-in-Decl.ensures.scopes) ∙ c.loop-one.invariant.0,
        rw w.in_ok-push-in-Decl.ensures.items (listed_more chain.Commands _ c.loop-one.nodes.items _ c.loop-one.numbers.items w.in_ok-number-in-Decl.number _ _ _ _ c.loop-one.invariant.1
            (grew_over c.loop-one.nodes.items _ _ (OfCommand (variables (names c.loop-one.scopes) (declared_variables (declaration w.in-Decl.decl)))) (OfCommand (Turn (variables (names c.loop-one.scopes) (declared_variables (declaration w.in-Decl.decl))))) (node.Turn w.in_ok-inside-in-Decl.inside) _ _ w.in_ok-inside-in-Decl.ensures.nodes w.in_ok-number-in-Decl.ensures (λ f is. ap (λ y. OfCommand (Turn (as_command y))) is))
            (part_step (names c.loop-one.scopes) (names w.push_locals.new.scopes) c.args.parts.now c.loop-one.one-index c.one-item.result (OfCommand (Turn (variables (names c.loop-one.scopes) (declared_variables (declaration w.in-Decl.decl))))) c.loop-one-test.true c.one-item.is (decl_step (names c.loop-one.scopes) (names w.push_locals.new.scopes) w.in-Decl.decl c.one-item.result w.in-Decl.is w.in_ok-inside-in-Decl.ensures.scopes))),
      )
  | push_block-in-Stmt+in_ok-number-in-Stmt+in_ok-push-in-Stmt w ↦
      rw (w.scopes-is, w.nodes-is, w.numbers-is) (
        part_names (names c.loop-one.scopes) (names w.push_command.new.scopes) c.args.parts.now c.loop-one.one-index c.one-item.result c.loop-one-test.true c.one-item.is (stmt_names (names c.loop-one.scopes) (names w.push_command.new.scopes) w.in-Stmt.stmt c.one-item.result w.in-Stmt.is w.in_ok-number-in-Stmt.ensures.scopes) ∙ c.loop-one.invariant.0,
        rw w.in_ok-push-in-Stmt.ensures.items (listed_more chain.Commands _ c.loop-one.nodes.items _ c.loop-one.numbers.items w.in_ok-number-in-Stmt.number (OfCommand (command (names c.loop-one.scopes) (statement w.in-Stmt.stmt))) _ _ _ c.loop-one.invariant.1 w.in_ok-number-in-Stmt.ensures.nodes
            (part_step (names c.loop-one.scopes) (names w.push_command.new.scopes) c.args.parts.now c.loop-one.one-index c.one-item.result (OfCommand (command (names c.loop-one.scopes) (statement w.in-Stmt.stmt))) c.loop-one-test.true c.one-item.is (stmt_step (names c.loop-one.scopes) (names w.push_command.new.scopes) w.in-Stmt.stmt c.one-item.result w.in-Stmt.is w.in_ok-number-in-Stmt.ensures.scopes))),
      )
]

pub push_block-returns-clause-nodes : goal.push_block-returns-clause-nodes
push_block-returns-clause-nodes t c =
    listed_ok chain.Commands c.args.nodes.now.items c.loop-one.nodes.items c.push_list.new.nodes.items c.loop-one.numbers.items _ c.push_list.result (rw (parts_end (names c.loop-one.scopes) c.args.parts.now c.loop-one.one-index c.loop-one-test.false) at c.loop-one.invariant.1) c.push_list.ensures

pub push_command-returns-in_ok-all-in-Block-clause-scopes : goal.push_command-returns-in_ok-all-in-Block-clause-scopes
push_command-returns-in_ok-all-in-Block-clause-scopes t c =
    let entered = ap (λ s. behind_body s (body c.as_slice.result.now)) c.in_ok-enter-in-Block.ensures in
    let told = ap (λ ps. behind_body (inner (names c.args.scopes.now)) (body ps)) c.as_slice.ensures in
    rw (c.in-Block.is, statement-Block, block_is) (c.leave.ensures ∙ ap outside (c.in_ok-all-in-Block.ensures.scopes ∙ entered ∙ told) ∙ behind_braces (names c.args.scopes.now) c.in-Block.inner.opening (body c.in-Block.inner.parts) c.in-Block.inner.closing)

pub push_command-returns-in_ok-or-in-Some-other-clause-scopes : goal.push_command-returns-in_ok-or-in-Some-other-clause-scopes
push_command-returns-in_ok-or-in-Some-other-clause-scopes t c =
    let first = c.in_ok-then-in-Some-other.ensures.scopes ∙ ap (λ x. behind_statement (names c.args.scopes.now) (statement x)) c.get-in-Some-other.ensures in
    let both = behind_both (names c.args.scopes.now) (statement_shapes (statement c.in-If.x)) (statement_shapes (statement c.in-Some-other.y)) in
    let second = c.in_ok-or-in-Some-other.ensures.scopes ∙ ap (λ y. behind_statement (names c.push_command-in-Some-other.new.scopes) (statement y)) c.get-in-Some-other-2.ensures in
    rw (c.in-If.is, c.in-Some-other.is, statement-If_else) (ok_of c.push_turn-in-Some-other.result _ (second ∙ ap (λ u. behind_statement u (statement c.in-Some-other.y)) first ∙ both))
