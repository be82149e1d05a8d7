use Rattle.std.proofs.Common.{◌∙◌}
use Rattle.attr_legal.proofs.Among.{storages_are}
use Rattle.attr_legal.proofs.number.storages.Goals as goal

pub returns : goal.returns
returns c = c.storages_among.ensures ∙ storages_are c.args.items.now
