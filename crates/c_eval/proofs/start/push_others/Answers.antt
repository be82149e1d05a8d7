use Rattle.c_eval.proofs.Values.{variable_at}
use Rattle.c_eval.proofs.start.push_others.Goals as goal

pub push_variable-requires : goal.push_variable-requires
push_variable-requires c = variable_at c.args.rest.now c.loop-one.one-index c.loop-one-item.result c.loop-one-test.true c.loop-one-item.is c.requires
