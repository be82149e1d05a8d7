use Rattle.route_laws.proofs.Rename.{rename_named}
use Rattle.route_laws.proofs.law.named_cells_stay.Goals as goal

pub returns : goal.returns
returns c = rename_named
