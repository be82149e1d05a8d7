use Rattle.image_file.proofs.Answered.{one_answer}
use Rattle.image_file.proofs.laws.one_answer.Goals as goal

pub returns : goal.returns
returns c = one_answer
