use Rattle.nml_worth.proofs.Scopes.{one_further, part_at}
use Rattle.nml_worth.proofs.scope.further.Goals as goal

pub add-requires : goal.add-requires
add-requires c = part_at c.args.names.now c.args.worths.now c.args.rest.now c.loop-i.i c.index-rest-i.result c.requires c.loop-i-test.true c.loop-i.auto.i

pub loop-i-preserved : goal.loop-i-preserved
loop-i-preserved c =
    one_further c.args.names.now c.args.rest.now c.loop-i.i c.index-rest-i.result c.add.new.found.entries c.loop-i-test.true c.loop-i.auto.i (c.in_ok-add.ensures _ c.loop-i.invariant)
