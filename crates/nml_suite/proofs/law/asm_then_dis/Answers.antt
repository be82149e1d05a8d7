use Rattle.nml_suite.proofs.Composing.{some_text, only_text, again, back}
use Rattle.nml_suite.proofs.law.asm_then_dis.Goals as goal

pub returns-clause-some : goal.returns-clause-some
returns-clause-some c = some_text

pub returns-clause-only : goal.returns-clause-only
returns-clause-only c = only_text

pub returns-clause-again : goal.returns-clause-again
returns-clause-again c = again

pub returns-clause-back : goal.returns-clause-back
returns-clause-back c = back
