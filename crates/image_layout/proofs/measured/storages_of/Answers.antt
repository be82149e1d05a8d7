use Rattle.image_layout.proofs.Listed.{storages_next, all_storages}
use Rattle.image_layout.proofs.measured.storages_of.Goals as goal

pub loop-i-preserved : goal.loop-i-preserved
loop-i-preserved c =
    storages_next c.args.names.now c.requires c.items-items.result.now c.items-items.ensures c.loop-i.i c.index-items-i.result c.storage_of-one.result _ _ c.loop-i-test.true c.index-items-i.is c.storage_of-one.ensures c.loop-i.invariant c.in_ok-add.ensures

pub returns : goal.returns
returns c = all_storages c.args.names.now c.items-items.result.now c.loop-i.i _ c.items-items.ensures c.loop-i-test.false c.loop-i.invariant
