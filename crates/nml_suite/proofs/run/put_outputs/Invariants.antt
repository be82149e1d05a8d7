use Rattle.std.proofs.Common.{◌≡◌, ◌-◌}
use Rattle.nml_suite.specs.Running.{start}
use Rattle.nml_suite.proofs.Outputs.{SoFar}
use Rattle.nml_suite.proofs.run.put_outputs.Given as goal

-- the outputs so far were put, and what the machine does from here on comes behind
abbrev pub invariant-loop-turn : goal.invariant-loop-turn
invariant-loop-turn g l = record {
  so_far : SoFar (start l.fn.sim l.fn.input) l.sim l.rest l.steps (l.steps - l.turn) (g.S.Sink.taken l.fn.sink) (g.S.Sink.taken l.sink);
  same : g.S.Sink.faults l.sink ≡ g.S.Sink.faults l.fn.sink;
}
