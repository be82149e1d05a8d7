use Rattle.std.proofs.Common.{length}
use Rattle.nk_outside.proofs.Handing.{Sent}
use Rattle.nk_outside.proofs.os_files.write_all.Given as goal

abbrev pub invariant-loop-rest : goal.invariant-loop-rest
invariant-loop-rest g l = Sent (g.W.Write.contents l.fn.file) (g.W.Write.contents l.file) l.bytes l.rest

abbrev pub decreases-loop-rest : goal.decreases-loop-rest
decreases-loop-rest g l = length l.rest
