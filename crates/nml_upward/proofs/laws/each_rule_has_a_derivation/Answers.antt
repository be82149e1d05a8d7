use Rattle.nml_upward.proofs.Upward.{has_derivation}
use Rattle.nml_upward.proofs.laws.each_rule_has_a_derivation.Goals as goal

pub returns : goal.returns
returns c = has_derivation
