use Rattle.bit_sim.proofs.Steps.{longer}
use Rattle.bit_sim.proofs.laws.longer_run.Goals as goal

pub returns : goal.returns
returns c = λ t words old new out took input n o none h runs. longer t words old new out took input n o none h runs
