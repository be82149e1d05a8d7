use Rattle.c_frames.proofs.Keeps.{from_begin}
use Rattle.c_frames.proofs.machine_follows.Goals as goal

pub returns : goal.returns
returns c = from_begin
