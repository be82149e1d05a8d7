use Rattle.attr_eval.proofs.TwosComplement.{xor_is}
use Rattle.attr_eval.proofs.operate.one_of.Goals as goal

pub returns : goal.returns
returns c = xor_is _ _ c.ranges.x c.ranges.y
