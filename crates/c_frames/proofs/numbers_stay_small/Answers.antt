use Rattle.c_frames.proofs.Small.{step_small}
use Rattle.c_frames.proofs.numbers_stay_small.Goals as goal

pub returns : goal.returns
returns c = λ p n small. step_small p n small
