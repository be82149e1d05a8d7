use Rattle.attr_eval.proofs.TwosComplement.{or_is}
use Rattle.attr_eval.proofs.operate.either.Goals as goal

pub returns : goal.returns
returns c = or_is _ _ c.ranges.x c.ranges.y
