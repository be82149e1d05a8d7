use Rattle.std.proofs.Common.{◌≡◌, length}
use Rattle.nk_outside.proofs.Handing.{Sent}
use Rattle.nk_outside.proofs.os_sink.OsSinkSink.put.Given as goal

abbrev pub invariant-loop-rest : goal.invariant-loop-rest
invariant-loop-rest g l = (l.self.faults ≡ l.fn.self.faults) × Sent (g.W.Write.contents l.fn.self.writer) (g.W.Write.contents l.self.writer) l.piece l.rest

abbrev pub decreases-loop-rest : goal.decreases-loop-rest
decreases-loop-rest g l = length l.rest
