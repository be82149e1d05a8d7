use Rattle.route_laws.proofs.Going.{none_longer}
use Rattle.route_laws.proofs.law.none_is_longer.Goals as goal

pub returns : goal.returns
returns c = none_longer
