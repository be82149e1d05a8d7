use Rattle.std.proofs.Common.{◌≡◌, ◌-◌, map}
use Rattle.ir_run.specs.Entry.{entry}
use Rattle.ir_run.specs.Runs.{run}
use Rattle.ir_run.specs.Run.{step}
use Rattle.ir_run.specs.Stands.{state_of}
use Rattle.ir_run.specs.Running.{Running}
use Rattle.ir_run.proofs.running.go.Given as goal

-- what is left of the run is that of its outcome, and no put failed
abbrev pub invariant-loop : goal.invariant-loop
invariant-loop g l = record {
  runs : Running (map entry l.code.statements.now) l.code.bits (run (step (map entry l.code.statements.now) l.code.bits) l.steps (state_of l.input l.fn.machine)) (g.S.Sink.taken l.fn.sink) (g.S.Sink.taken l.sink) (l.steps - l.counter) (state_of l.input l.machine);
  same : g.S.Sink.faults l.sink ≡ g.S.Sink.faults l.fn.sink;
}
