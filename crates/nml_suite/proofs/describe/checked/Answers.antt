use Rattle.nml_suite.proofs.Describing.{refused_tree}
use Rattle.nml_suite.proofs.describe.checked.Goals as goal

pub returns-in-Err : goal.returns-in-Err
returns-in-Err c = refused_tree c.args.name.now c.args.tree c.in-Err.fault _ c.in-Err.ensures c.refusal_of.ensures
