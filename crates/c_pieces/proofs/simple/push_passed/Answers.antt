use Rattle.std.proofs.Common.{subst, get_or}
use Rattle.std.proofs.lemmas.List.{drop_more}
use Rattle.ir_run.proofs.Nodes.{node-Cell}
use Rattle.c_pieces.proofs.Parts.{Passing, passing_more}
use Rattle.c_pieces.proofs.simple.push_passed.Goals as goal

pub loop-value-preserved : goal.loop-value-preserved
loop-value-preserved c =
    let s = get_or c.args.values.now c.loop-value.value-index 0 in
    let before = subst (λ rest. Passing c.args.out.now.items c.loop-value.out.items c.args.parameter c.loop-value.to c.args.values.now rest) (drop_more c.args.values.now c.loop-value.value-index 0 c.loop-value-test.true) c.loop-value.invariant in
    passing_more c.args.out.now.items c.loop-value.out.items _ c.args.parameter c.loop-value.to _ c.args.values.now _ s _ before c.in_ok-push_set.ensures (node-Cell s) c.in_ok-to.ensures
