use Rattle.std.proofs.Common.{◌∙◌}
use Rattle.attr_legal.proofs.Among.{transitories_are}
use Rattle.attr_legal.proofs.number.transitories.Goals as goal

pub returns : goal.returns
returns c = c.transitories_among.ensures ∙ transitories_are c.args.items.now
