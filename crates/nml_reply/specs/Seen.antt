-- The stop of a run.
use Rattle.std.specs.Prelude.{pos}
use Rattle.nml_tree.specs.Machine as machine
use Rattle.nml_reply.specs.declared.stop.Stop.{Stop}
use Rattle.nml_reply.specs.declared.stop.Stop.TheVariants as stops

abbrev pub stop_of : Stop → machine.Stop
stop_of stops.Running = machine.Running
stop_of (stops.Halted code) = machine.Halted (pos code)
stop_of stops.Wants = machine.Wanted
stop_of (stops.NoWord place) = machine.NoWord place
stop_of (stops.BadWord place) = machine.BadWord place
