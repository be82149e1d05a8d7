use Rattle.attr_exec.proofs.Top.{made_ends, made_only}
use Rattle.attr_exec.proofs.finish.settle.Goals as goal

pub returns-then-not-written-clause-ends : goal.returns-then-not-written-clause-ends
returns-then-not-written-clause-ends c = made_ends c.args.s.now c.commit.new.self c.step.new.s c.commit.ensures c.step.ensures.same

pub returns-else-not-written-clause-ends : goal.returns-else-not-written-clause-ends
returns-else-not-written-clause-ends c = made_only c.args.s.now c.commit.new.self c.commit.ensures
