use Rattle.c_plan.proofs.Unnamed.{lowered_unnamed}
use Rattle.c_plan.proofs.laws.lowered_without_names.Goals as goal

pub returns : goal.returns
returns c = lowered_unnamed
