-- the bytes begin with a line as the rest does
use Rattle.std.proofs.Common.{length}
use Rattle.nml_lex.specs.Form.{is_ended}
use Rattle.nml_lex.proofs.Cuts.{Narrows}
use Rattle.c_lex.proofs.space.behind_line.Given as goal

abbrev pub invariant-loop-first : goal.invariant-loop-first
invariant-loop-first l = Narrows is_ended l.bytes l.rest

abbrev pub decreases-loop-first : goal.decreases-loop-first
decreases-loop-first l = length l.rest
