use Rattle.c_agree.proofs.Whole.{agrees}
use Rattle.c_agree.proofs.law.statements_agree_with_the_program.Goals as goal

pub returns : goal.returns
returns c = agrees
