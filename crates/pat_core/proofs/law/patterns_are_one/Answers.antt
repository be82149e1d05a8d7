use Rattle.pat_core.proofs.Slots.{isa_one}
use Rattle.pat_core.proofs.law.patterns_are_one.Goals as goal

pub returns : goal.returns
returns c = isa_one
