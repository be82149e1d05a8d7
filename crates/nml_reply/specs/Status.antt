-- The number that the process ends with.
use Rattle.std.specs.Prelude.{ℕ}
use Rattle.nml_reply.specs.declared.status.Status.{Status}
use Rattle.nml_reply.specs.declared.status.Status.TheVariants as statuses

abbrev pub status_number : Status → ℕ
status_number statuses.Done = 0
status_number statuses.Usage = 1
status_number statuses.Description = 2
status_number statuses.Source = 3
status_number statuses.Image = 4
status_number statuses.NotClosed = 5
status_number statuses.Words = 6
status_number statuses.Read = 7
status_number statuses.Write = 8
status_number statuses.Memory = 9
status_number statuses.Stopped = 10
status_number statuses.Budget = 11
status_number statuses.Wants = 12
status_number statuses.NoWord = 13
status_number statuses.BadWord = 14
status_number statuses.Input = 15
status_number statuses.TooLong = 16
status_number statuses.NotBuilt = 17
