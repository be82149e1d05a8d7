use Rattle.nml_suite.proofs.Composing.{some_run, only_run}
use Rattle.nml_suite.proofs.law.asm_then_run.Goals as goal

pub returns-clause-some : goal.returns-clause-some
returns-clause-some c = some_run

pub returns-clause-only : goal.returns-clause-only
returns-clause-only c = only_run
