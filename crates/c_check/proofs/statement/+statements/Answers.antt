use Rattle.std.proofs.Common.{◌∙◌, ap}
use Rattle.c_tree.specs.Statement.{body, statement}
use Rattle.c_tree.specs.Names.{inner, behind_statement, statement_shapes}
use Rattle.c_tree.proofs.StatementLaws.{block_is, statement-Block, statement-If_else}
use Rattle.c_names.specs.Shown.{names, outside}
use Rattle.c_walk.specs.Walk.{behind_body}
use Rattle.c_walk.proofs.Behind.{behind_braces, behind_both}
use Rattle.c_walk.proofs.Loops.{ok_map}
use Rattle.c_check.proofs.statement.+statements.Goals as goal

pub one_statement-returns-in_ok-parts_of-in-Block-clause-scopes : goal.one_statement-returns-in_ok-parts_of-in-Block-clause-scopes
one_statement-returns-in_ok-parts_of-in-Block-clause-scopes t c =
    let entered = ap (λ s. behind_body s (body c.as_slice.result.now)) c.in_ok-enter-in-Block.ensures in
    let told = ap (λ ps. behind_body (inner (names c.args.scopes.now)) (body ps)) c.as_slice.ensures in
    rw (c.in-Block.is, statement-Block, block_is) (c.leave.ensures ∙ ap outside (c.in_ok-parts_of-in-Block.ensures.scopes ∙ entered ∙ told) ∙ behind_braces (names c.args.scopes.now) c.in-Block.inner.opening (body c.in-Block.inner.parts) c.in-Block.inner.closing)

pub one_statement-returns-in_ok-one_statement-in-Some-clause-scopes : goal.one_statement-returns-in_ok-one_statement-in-Some-clause-scopes
one_statement-returns-in_ok-one_statement-in-Some-clause-scopes t c =
    let first = c.in_ok-one_statement-in-Some.ensures.scopes ∙ ap (λ x. behind_statement (names c.args.scopes.now) (statement x)) c.get-in-Some.ensures in
    let both = behind_both (names c.args.scopes.now) (statement_shapes (statement c.in-If.x)) (statement_shapes (statement c.in-Some.y)) in
    let second = ap (λ y. behind_statement (names c.one_statement-in-Some.new.scopes) (statement y)) c.get-in-Some-2.ensures in
    rw (c.in-If.is, c.in-Some.is, statement-If_else) (ok_map c.one_statement-in-Some-2.result _ _ (λ h. h ∙ second ∙ ap (λ u. behind_statement u (statement c.in-Some.y)) first ∙ both) c.one_statement-in-Some-2.ensures.scopes)
