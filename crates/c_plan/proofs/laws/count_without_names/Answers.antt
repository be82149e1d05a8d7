use Rattle.c_plan.proofs.Unnamed.{counted_unnamed}
use Rattle.c_plan.proofs.laws.count_without_names.Goals as goal

pub returns : goal.returns
returns c = counted_unnamed
