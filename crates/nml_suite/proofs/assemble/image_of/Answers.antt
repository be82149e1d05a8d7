use Rattle.nml_suite.proofs.Describing.{refused_text}
use Rattle.nml_suite.proofs.assemble.image_of.Goals as goal

pub returns-in-Err : goal.returns-in-Err
returns-in-Err c = refused_text c.args.graph.now c.args.name.now c.args.text.now c.in-Err.fault _ c.in-Err.ensures c.refusal_of.ensures
