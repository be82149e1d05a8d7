use Rattle.std.proofs.Common.{◌∙◌}
use Rattle.nml_names.proofs.Items.{item_is}
use Rattle.nml_names.proofs.item.item_names.Goals as goal

pub returns : goal.returns
returns c = c.shared.ensures ∙ item_is _ _ _ _ _ _ _ _ _ _ _ c.pars_of-pars.ensures c.in_ok-keys.ensures.keys c.in_ok-keys.ensures.found c.uses-found.ensures c.own-found.ensures
