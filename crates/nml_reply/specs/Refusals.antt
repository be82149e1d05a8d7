-- What a refusal tells.
use Rattle.std.specs.Prelude.{◌≡◌}
use Rattle.nml_reply.specs.Reading.{Absent, Failed, TooLong}
use Rattle.nml_reply.specs.Reply.{Reply, starved, unread, write_failed, description_fault, text_fault, image_fault, bad_input, no_target, program_fault}
use Rattle.nml_reply.specs.declared.refusal.Refusal.{Refusal}
use Rattle.nml_reply.specs.declared.refusal.Refusal.TheVariants as refusals

-- the status of a refusal, and its line
abbrev pub refused : Refusal → Reply
refused refusals.Memory = starved
refused (refusals.Absent name) = unread name.now Absent
refused (refusals.Failed name) = unread name.now Failed
refused (refusals.TooLong name) = unread name.now TooLong
refused (refusals.Unwritten name) = write_failed name.now
refused (refusals.Description name fault) = description_fault name.now fault
refused (refusals.Source name fault) = text_fault name.now fault
refused (refusals.Image name fault) = image_fault name.now fault
refused (refusals.Input name line) = bad_input name.now line
refused (refusals.Program name fault) = program_fault name.now fault
refused (refusals.NoTarget name what) = no_target name.now what

-- memory was wanted
abbrev pub Wants : Refusal → Type 0
Wants refusal = refused refusal ≡ starved
