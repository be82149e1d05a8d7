use Rattle.c_frames.proofs.Ahead.{step_ahead}
use Rattle.c_frames.proofs.outputs_go_ahead.Goals as goal

pub returns : goal.returns
returns c = step_ahead
