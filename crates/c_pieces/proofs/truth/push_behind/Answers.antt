use Rattle.std.proofs.Common.{ap, pos}
use Rattle.ir_run.proofs.Nodes.{node-Const, node-Cell}
use Rattle.c_pieces.specs.Pushed.{aim_shown}
use Rattle.c_pieces.proofs.Parts.{behind_value, behind_when, behind_unless}
use Rattle.c_pieces.proofs.truth.push_behind.Goals as goal

pub returns-in_ok-push-in-Value : goal.returns-in_ok-push-in-Value
returns-in_ok-push-in-Value c =
    behind_value c.args.out.now.items _ _ _ c.args.cell c.args.label _ _ (ap aim_shown c.in-Value.is) (node-Const (pos 0)) (node-Cell c.args.cell) c.in_ok-push_set-in-Value.ensures c.in_ok-push-in-Value.ensures

pub returns-in-When : goal.returns-in-When
returns-in-When c = behind_when _ _ c.args.cell c.args.label c.in-When.field-0 _ (ap aim_shown c.in-When.is) (node-Const (pos 0))

pub returns-in-Unless : goal.returns-in-Unless
returns-in-Unless c = behind_unless _ _ c.args.cell c.args.label c.in-Unless.field-0 _ (ap aim_shown c.in-Unless.is) (node-Const (pos 0))
