use Rattle.ir_run.proofs.Nodes.{node-Label}
use Rattle.c_pieces.proofs.Parts.{jump_ok}
use Rattle.c_pieces.proofs.simple.push_jump.Goals as goal

pub returns : goal.returns
returns c =
    jump_ok c.args.out.now.items _ _ _ _ _ c.args.back c.args.frame.ret c.args.frame.label _ c.push-2.result (node-Label c.args.back) c.in_ok-push_passed.ensures c.in_ok-push_set.ensures c.in_ok-push.ensures c.push-2.ensures
