use Rattle.std.proofs.Common.{sym, ◌∙◌, ap}
use Rattle.ir_run.proofs.Nodes.{node-In, node-Cell}
use Rattle.c_flat.specs.Written.{written}
use Rattle.c_flat.specs.Sorts.{term_at, terms_at, term_over}
use Rattle.c_pieces.specs.Pushed.{layout_shown, aim_shown}
use Rattle.c_pieces.proofs.Arms.{input_ok, called_left, and_ok}
use Rattle.c_pieces.proofs.piece.+pieces.Goals as goal

pub push_piece-returns-in_ok-push_set-in-Input : goal.push_piece-returns-in_ok-push_set-in-Input
push_piece-returns-in_ok-push_set-in-Input t c =
    input_ok c.args.out.now.items _ _ (layout_shown c.args.t.now) c.args.at.cell c.args.at.label c.args.at.later (aim_shown c.args.aim) _ _ _ c.push_used-in-Input.result (sym c.term_of.ensures.is ∙ ap (λ n. term_over n (written c.args.program.now.nodes.now)) c.in-Input.is) node-In (node-Cell c.args.at.cell) c.in_ok-push_set-in-Input.ensures c.push_used-in-Input.ensures

pub push_called-returns : goal.push_called-returns
push_called-returns t c =
    called_left c.args.out.now.items _ _ (layout_shown c.args.t.now) c.args.at.cell c.args.at.label c.args.at.later c.args.g (terms_at c.args.program.now.nodes.now c.args.xs) c.in_ok-cell.cell c.frame_at.result.result _ _ c.in_ok-cell.ensures (ap (λ f. f.result) c.frame_at.ensures) (node-Cell _) (node-Cell _) c.in_ok-push_call.ensures c.in_ok-push_set.ensures

pub push_and-returns : goal.push_and-returns
push_and-returns t c =
    and_ok c.args.out.now.items _ _ _ (layout_shown c.args.t.now) c.args.at.cell c.args.at.label c.args.at.later (aim_shown c.args.aim) (term_at c.args.program.now.nodes.now c.args.x) (term_at c.args.program.now.nodes.now c.args.y) c.in_ok-between.between c.in_ok-past.past c.in_ok-label.label c.in_ok-inside.field-0 (aim_shown c.aimed.result) c.push_behind.result c.in_ok-between.ensures c.in_ok-past.ensures c.in_ok-label.ensures c.in_ok-inside.ensures c.aimed.ensures c.in_ok-push_before.ensures c.in_ok-push_and_also.ensures c.push_behind.ensures
