use Rattle.pat_core.proofs.Swaps.{swaps_are, swaps_all}
use Rattle.pat_core.proofs.law.swaps_are_listed.Goals as goal

pub returns : goal.returns
returns c = λ s t. (swaps_are s t, swaps_all s t)
