use Rattle.attr_eval.proofs.TwosComplement.{and_is}
use Rattle.attr_eval.proofs.operate.both.Goals as goal

pub returns : goal.returns
returns c = and_is _ _ c.ranges.x c.ranges.y
