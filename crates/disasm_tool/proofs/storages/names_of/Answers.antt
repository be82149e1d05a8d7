use Rattle.std.proofs.Common.{map}
use Rattle.disasm_tool.proofs.StorageOrder.{next_name}
use Rattle.disasm_tool.proofs.storages.names_of.Goals as goal

pub loop-item-preserved : goal.loop-item-preserved
loop-item-preserved c =
    next_name c.args.items.now c.loop-item.item-index c.item-item.result c.item-item.result (map (λ n. n.now) c.loop-item.names.items) _ c.loop-item-test.true c.item-item.is c.loop-item.invariant c.in_ok-add_name.ensures
