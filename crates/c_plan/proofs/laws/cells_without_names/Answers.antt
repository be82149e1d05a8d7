use Rattle.c_plan.proofs.Unnamed.{data_unnamed}
use Rattle.c_plan.proofs.laws.cells_without_names.Goals as goal

pub returns : goal.returns
returns c = data_unnamed
