use Rattle.nml_suite.proofs.Programs.{refused_reading}
use Rattle.nml_suite.proofs.ceval.program_of.Goals as goal

pub returns-in-Err : goal.returns-in-Err
returns-in-Err c = λ n. refused_reading c.args.name.now c.args.bytes.now n c.in-Err.fault _ c.in-Err.ensures c.refusal_of.ensures
