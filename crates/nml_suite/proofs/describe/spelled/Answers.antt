use Rattle.nml_suite.proofs.Describing.{refused_bytes}
use Rattle.nml_suite.proofs.describe.spelled.Goals as goal

pub returns-in-Err : goal.returns-in-Err
returns-in-Err c = refused_bytes c.args.name.now c.args.bytes.now c.in-Err.fault _ c.in-Err.ensures c.refusal_of.ensures
