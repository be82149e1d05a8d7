use Rattle.shape_count.proofs.Bests.{no_item}
use Rattle.shape_count.proofs.size.item_best.Goals as goal

pub returns-in-None : goal.returns-in-None
returns-in-None c = no_item c.args.names.now c.items.result.now c.args.key 0 c.items.ensures c.in-None.ensures.lookup.3
