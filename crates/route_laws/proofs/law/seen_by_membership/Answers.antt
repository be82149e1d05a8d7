use Rattle.route_laws.proofs.Going.{goes_alike}
use Rattle.route_laws.proofs.law.seen_by_membership.Goals as goal

pub returns : goal.returns
returns c = goes_alike
