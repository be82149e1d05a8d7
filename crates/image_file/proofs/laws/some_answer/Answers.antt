use Rattle.image_file.proofs.Answered.{some_answer}
use Rattle.image_file.proofs.laws.some_answer.Goals as goal

pub returns : goal.returns
returns c = some_answer
