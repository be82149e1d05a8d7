use Rattle.std.proofs.Common.{◌≡◌, true}
use Rattle.ir_run.proofs.Simulation.{simulates}
use Rattle.ir_run.proofs.laws.agreement_from_simulation.Goals as goal

pub returns : goal.returns
returns g c = λ first second related left w. simulates first second (λ s t. related s t ≡ true) left w
