use Rattle.nml_suite.proofs.Programs.{refused_program}
use Rattle.nml_suite.proofs.ceval.checked_program.Goals as goal

pub returns-in-Err : goal.returns-in-Err
returns-in-Err c = refused_program c.args.name.now c.args.width c.args.tree c.in-Err.fault _ c.in-Err.ensures c.refusal_of.ensures
