use Rattle.input_port.proofs.First.{inp_found, next_none, none_at_all}
use Rattle.input_port.proofs.port.first_input.Goals as goal

pub returns-in-Some : goal.returns-in-Some
returns-in-Some c = inp_found c.args.items.now c.loop-i.i c.index-items-i.result c.in-Some.ty.now c.type_value.result c.loop-i-test.true c.loop-i.invariant c.index-items-i.is c.in-Some.ensures c.requires c.type_value.ensures

pub loop-i-preserved : goal.loop-i-preserved
loop-i-preserved c = next_none c.args.items.now c.loop-i.i c.index-items-i.result c.loop-i-test.true c.loop-i.invariant c.index-items-i.is c.in-None.ensures

pub returns : goal.returns
returns c = none_at_all c.args.items.now c.loop-i.i c.loop-i-test.false c.loop-i.invariant
