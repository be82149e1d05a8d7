-- The expression of a formula is the one that was found.
use Rattle.nml_tree.proofs.Back.{expr_of-formula}
use Rattle.readings.proofs.Saying.{says_made}
use Rattle.nml_read.proofs.rules.value.Goals as goal

pub returns-clause-says : goal.returns-clause-says
returns-clause-says c = says_made _ c.whole.result _ _ _ _ _ (λ x. expr_of-formula x.0) c.whole.ensures.says
