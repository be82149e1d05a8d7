use Rattle.std.proofs.Common.{ap, ◌∙◌, ◌++◌, map}
use Rattle.c_tree.specs.Names.{declared_variables, shape, statement_shapes, opening_shapes}
use Rattle.c_tree.specs.Statement.{declaration, statement, opening}
use Rattle.std.specs.Prelude.{option_map}
use Rattle.c_tree.proofs.StatementLaws.{statement-If_else, statement-For}
use Rattle.c_shapes.proofs.Grown.{grown_both}
use Rattle.c_shapes.proofs.Parts.{part_more, decl_more, stmt_more}
use Rattle.c_shapes.proofs.bodies.+shapes.Goals as goal
use Rattle.c_shapes.proofs.bodies.+shapes.Goals.{push_block-in-Decl+in_ok-push_decl-in-Decl, push_block-in-Stmt+in_ok-push_statement-in-Stmt}

pub push_block-loop-one-preserved : goal.push_block-loop-one-preserved
push_block-loop-one-preserved t c = elim c.match-one.branch [
  | push_block-in-Decl+in_ok-push_decl-in-Decl w ↦
      rw w.shapes-is (part_more c.loop-one.shapes.items w.push_decl.new.shapes.items (map shape (declared_variables (declaration w.in-Decl.decl))) _ c.args.parts.now c.loop-one.one-index c.one-item.result c.loop-one-test.true c.one-item.is (decl_more w.in-Decl.decl c.one-item.result w.in-Decl.is) w.in_ok-push_decl-in-Decl.ensures c.loop-one.invariant)
  | push_block-in-Stmt+in_ok-push_statement-in-Stmt w ↦
      rw w.shapes-is (part_more c.loop-one.shapes.items w.push_statement.new.shapes.items (statement_shapes (statement w.in-Stmt.stmt)) _ c.args.parts.now c.loop-one.one-index c.one-item.result c.loop-one-test.true c.one-item.is (stmt_more w.in-Stmt.stmt c.one-item.result w.in-Stmt.is) w.in_ok-push_statement-in-Stmt.ensures c.loop-one.invariant)
]

pub push_statement-returns-in_ok-push_statement-in-Some : goal.push_statement-returns-in_ok-push_statement-in-Some
push_statement-returns-in_ok-push_statement-in-Some t c =
    let first = c.in_ok-push_statement-in-Some.ensures ∙ ap (λ x. c.args.shapes.now.items ++ statement_shapes (statement x)) c.get-in-Some.ensures in
    rw (c.in-If.is, c.in-Some.is, statement-If_else) (grown_both c.args.shapes.now.items c.push_statement-in-Some.new.shapes.items c.push_statement-in-Some-2.new.shapes.items (statement_shapes (statement c.in-If.x)) (statement_shapes (statement c.in-Some.y)) c.push_statement-in-Some-2.result first (rw c.get-in-Some-2.ensures at c.push_statement-in-Some-2.ensures))

pub push_statement-returns-in_ok-push_first-in-For : goal.push_statement-returns-in_ok-push_first-in-For
push_statement-returns-in_ok-push_first-in-For t c =
    rw (c.in-For.is, statement-For) (grown_both c.args.shapes.now.items c.push_first.new.shapes.items c.push_statement-in-For.new.shapes.items (opening_shapes (option_map opening c.in-For.first)) (statement_shapes (statement c.in-For.x)) c.push_statement-in-For.result c.in_ok-push_first-in-For.ensures (rw c.get-in-For.ensures at c.push_statement-in-For.ensures))
