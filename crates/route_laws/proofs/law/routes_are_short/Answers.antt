use Rattle.route_laws.proofs.Short.{routes_short}
use Rattle.route_laws.proofs.law.routes_are_short.Goals as goal

pub returns : goal.returns
returns c = routes_short
