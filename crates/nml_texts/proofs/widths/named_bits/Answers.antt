use Rattle.nml_texts.proofs.Fronts.{named_is}
use Rattle.nml_texts.proofs.widths.named_bits.Goals as goal

pub returns : goal.returns
returns c = named_is c.args.names.now c.args.bits.now c.args.name.now c.number.result c.bits_at.result c.requires c.number.ensures c.bits_at.ensures
