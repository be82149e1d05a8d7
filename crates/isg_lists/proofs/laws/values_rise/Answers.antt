use Rattle.isg_lists.proofs.Strict.{rises}
use Rattle.isg_lists.proofs.laws.values_rise.Goals as goal

pub returns : goal.returns
returns c = rises
