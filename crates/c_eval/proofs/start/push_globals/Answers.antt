use Rattle.c_eval.proofs.Values.{global_at}
use Rattle.c_eval.proofs.start.push_globals.Goals as goal

pub push_variables-requires : goal.push_variables-requires
push_variables-requires c = global_at c.args.globals.now c.loop-one.one-index c.one-item.result c.in-Vars.vars c.loop-one-test.true c.one-item.is c.in-Vars.is c.requires
