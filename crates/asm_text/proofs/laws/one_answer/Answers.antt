use Rattle.asm_text.proofs.OneAnswer.{one_words, one_fault, apart, right}
use Rattle.asm_text.proofs.laws.one_answer.Goals as goal

pub returns-clause-words : goal.returns-clause-words
returns-clause-words c = one_words

pub returns-clause-fault : goal.returns-clause-fault
returns-clause-fault c = one_fault

pub returns-clause-apart : goal.returns-clause-apart
returns-clause-apart c = apart

pub returns-clause-right : goal.returns-clause-right
returns-clause-right c = right
