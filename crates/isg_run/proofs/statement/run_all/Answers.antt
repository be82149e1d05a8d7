use Rattle.attr_exec.specs.Ran.{scene}
use Rattle.isg_run.proofs.Walk.{walk_next}
use Rattle.isg_run.proofs.statement.run_all.Goals as goal

pub loop-m-preserved : goal.loop-m-preserved
loop-m-preserved c = walk_next _ _ _ _ _ _ _ _ (scene c.loop-m.s c.loop-m.done) (scene c.run_one-done.new.s c.run_one-done.result) c.loop-m-test.true c.loop-m.invariant c.run_one-done.ensures.same c.run_one-done.ensures.ran
