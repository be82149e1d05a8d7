use Rattle.c_frames.proofs.Halts.{from_begin}
use Rattle.c_frames.proofs.machine_stops.Goals as goal

pub returns : goal.returns
returns c = from_begin
