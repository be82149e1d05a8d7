use Rattle.c_check.proofs.Powers.{power_is}
use Rattle.c_check.proofs.numbers.half_of.Goals as goal

pub returns : goal.returns
returns c = power_is c.args.k c.requires
