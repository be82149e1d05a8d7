use Rattle.std.proofs.Common.{◌≡◌, length}
use Rattle.nml_reply.proofs.TextLines.{Sent}
use Rattle.nml_reply.proofs.reply.put_lines.Given as goal

-- the lines so far were put, and these are left
abbrev pub invariant-loop-rest : goal.invariant-loop-rest
invariant-loop-rest g l = record {
  sent : Sent (g.S.Sink.taken l.fn.sink) (g.S.Sink.taken l.sink) l.text l.rest;
  same : g.S.Sink.faults l.sink ≡ g.S.Sink.faults l.fn.sink;
}

abbrev pub decreases-loop-rest : goal.decreases-loop-rest
decreases-loop-rest g l = length l.rest
