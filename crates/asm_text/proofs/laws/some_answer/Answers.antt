use Rattle.asm_text.proofs.SomeAnswer.{some_answer}
use Rattle.asm_text.proofs.laws.some_answer.Goals as goal

pub returns : goal.returns
returns c = some_answer
