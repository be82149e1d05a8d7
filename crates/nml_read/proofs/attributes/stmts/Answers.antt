-- The statements of a block are those that were found.
use Rattle.nml_tree.proofs.Back.{stmts_of-block}
use Rattle.readings.proofs.Saying.{says_made}
use Rattle.nml_read.proofs.attributes.stmts.Goals as goal

pub returns-clause-says : goal.returns-clause-says
returns-clause-says c = says_made _ c.statements.result _ _ _ _ _ (λ x. stmts_of-block x.0) c.statements.ensures.says
