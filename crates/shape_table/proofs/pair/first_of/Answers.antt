use Rattle.shape_table.proofs.Pairs.{first_from, none_from_all}
use Rattle.shape_table.proofs.pair.first_of.Goals as goal

pub returns-in-Some : goal.returns-in-Some
returns-in-Some c = first_from c.args.common c.args.shapes.now c.loop-i.i c.in-Some.j c.requires.ready c.loop-i.invariant c.in-Some.ensures

pub returns : goal.returns
returns c = none_from_all c.args.common c.args.shapes.now c.loop-i.i c.requires.ready c.loop-i-test.false c.loop-i.invariant
