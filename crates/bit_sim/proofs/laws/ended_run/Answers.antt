use Rattle.bit_sim.proofs.Steps.{ended}
use Rattle.bit_sim.proofs.laws.ended_run.Goals as goal

pub returns : goal.returns
returns c = λ t words old new told input out stop n none h is. ended t words old new told input out stop n none h is
