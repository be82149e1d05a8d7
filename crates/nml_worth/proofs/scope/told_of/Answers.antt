use Rattle.nml_worth.proofs.Scopes.{told_all}
use Rattle.nml_worth.proofs.scope.told_of.Goals as goal

pub returns : goal.returns
returns c = told_all c.args.names.now c.args.worths.now _ _ _ c.parameter_of-parameter.ensures c.par_worth.ensures c.requires
