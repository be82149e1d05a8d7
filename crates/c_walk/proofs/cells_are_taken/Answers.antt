use Rattle.c_walk.proofs.Behind.{kept_body}
use Rattle.c_walk.proofs.cells_are_taken.Goals as goal

pub returns : goal.returns
returns c = λ s b. (kept_body s b).next
