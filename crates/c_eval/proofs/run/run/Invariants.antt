use Rattle.std.proofs.Common.{◌≡◌}
use Rattle.c_tree.specs.Meaning.{outcome}
use Rattle.c_tree.specs.Resolve.{resolved}
use Rattle.c_eval.specs.Running.{Running, left}
use Rattle.c_eval.proofs.Runs.{most}
use Rattle.c_eval.proofs.run.run.Given as goal

-- what is left of the run is that of its outcome, and no put failed
abbrev pub invariant-loop-stop : goal.invariant-loop-stop
invariant-loop-stop g l = record {
  runs : Running (resolved l.p.0) l.code l.input (outcome (resolved l.p.0) l.code.bits l.input l.fn.machine.turns) (most (resolved l.p.0) l.code l.input l.fn.machine.turns) (g.S.Sink.taken l.fn.sink) (g.S.Sink.taken l.sink) l.machine;
  same : g.S.Sink.faults l.sink ≡ g.S.Sink.faults l.fn.sink;
}

abbrev pub decreases-loop-stop : goal.decreases-loop-stop
decreases-loop-stop g l = left (resolved l.p.0) l.code l.input (most (resolved l.p.0) l.code l.input l.fn.machine.turns) l.machine
