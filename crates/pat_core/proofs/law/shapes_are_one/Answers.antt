use Rattle.pat_core.proofs.Slots.{shapes_one}
use Rattle.pat_core.proofs.law.shapes_are_one.Goals as goal

pub returns : goal.returns
returns c = shapes_one
