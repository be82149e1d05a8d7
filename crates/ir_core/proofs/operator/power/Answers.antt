use Rattle.ir_core.proofs.Bits.{power_is}
use Rattle.ir_core.proofs.operator.power.Goals as goal

pub returns : goal.returns
returns c = power_is c.args.k c.requires
