use Rattle.attr_exec.specs.Ran.{scene}
use Rattle.attr_exec.proofs.Running.{offered_same}
use Rattle.isg_run.proofs.Walk.{walk_next}
use Rattle.isg_run.proofs.statement.+run_one.Goals as goal

pub loop-m-preserved : goal.loop-m-preserved
loop-m-preserved t c = walk_next _ _ _ _ _ _ _ _ (scene c.loop-m.s c.loop-m.done) (scene c.run_one-done.new.s c.run_one-done.result) c.loop-m-test.true c.loop-m.invariant c.run_one-done.ensures.same c.run_one-done.ensures.ran

pub returns-in-SetCell-clause-same : goal.returns-in-SetCell-clause-same
returns-in-SetCell-clause-same t c = offered_same c.args.s.now c.offer.new.self _ _ _ c.offer.ensures
