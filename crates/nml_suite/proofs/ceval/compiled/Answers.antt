use Rattle.nml_suite.proofs.Programs.{spelled_program}
use Rattle.nml_suite.proofs.ceval.compiled.Goals as goal

pub returns : goal.returns
returns c = spelled_program c.args.name.now c.args.bytes.now c.args.width c.in_ok-tree.tree c.checked_program.result (c.in_ok-tree.ensures c.args.width) c.checked_program.ensures
