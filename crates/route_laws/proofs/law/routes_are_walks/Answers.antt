use Rattle.route_laws.proofs.Going.{goes_walks}
use Rattle.route_laws.proofs.law.routes_are_walks.Goals as goal

pub returns : goal.returns
returns c = goes_walks
