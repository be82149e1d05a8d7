use Rattle.c_sound.proofs.Whole.{program_sound}
use Rattle.c_sound.proofs.accepted_programs_are_sound.Goals as goal

pub returns : goal.returns
returns c = program_sound
