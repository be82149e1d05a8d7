-- All that is promised of a call of the suite.
use Rattle.std.specs.Prelude.{Option}
use Rattle.nml_suite.specs.Answer.{Moment, Answers}
use Rattle.nml_suite.specs.Cause.{HasCause, IsUsage}
use Rattle.nml_suite.specs.Complete.{IsComplete}
use Rattle.nml_suite.specs.Files.{LeavesOthers, CallsOnce}
use Rattle.nml_command.specs.Form.{Form}
use Rattle.nml_reply.specs.declared.status.Status.{Status}

pub record KeepsPromises (before now : Moment) (form : Option Form) (status : Status) : Type 0 where
  -- what was read and what that comes to, what came of the write, and what was told
  pub answer : Answers before now form status
  -- when each answer comes
  pub cause : HasCause before now form status
  pub usage : IsUsage form status
  -- where the files are told and no count of faults rises, what the words come to is answered in full, or memory was wanted
  pub complete : IsComplete before now form status
  -- no file is changed but the one that the words name to be written, and that not where the call is refused
  pub files : LeavesOthers before now form status
  -- each file that the words name is called for once at most
  pub calls : CallsOnce before now form
